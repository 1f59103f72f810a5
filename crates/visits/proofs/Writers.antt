-- Laws of the writers: the map of writers has the rules' writers, and a test of each.
use Prim.Native.Nat.{ℕ, ◌+◌, ◌<◌, ◌≤◌}
use mathlib.Core.Path.{◌≡◌, refl, sym, ap, ◌∙◌}
use mathlib.Core.Bool.{Bool, true, false}
use mathlib.Core.List.{List, [], ◌∷◌}
use mathlib.Core.Option.{Option, none, some}
use native.Mathlib.Omega.{arith}
use lib.Dec.{ltb}
use lib.ListN.{get_or, length, drop, drop_of_length-le}
use borrow.Author.Tests.{lt-ltb, le-ltb, ltb-true}
use Rattle.entity.specs.Logic.{pick, or, any_in, has}
use Rattle.entity.specs.Place.{Place, reg, slot}
use Rattle.reginfo.specs.RegInfo.{RegInfo, place_units}
use Rattle.reginfo.specs.Table.{reg_info_of}
use Rattle.function.specs.Function.{Function}
use Rattle.function.specs.Table.{function_of}
use Rattle.function.proofs.Laws.{few-values}
use Rattle.rules.specs.Patch.{Sorted}
use Rattle.rules.specs.Scratch.{units_of_reg}
use Rattle.rules.specs.Order.{KeptMove, no_move, State, is_pending, writer_from, writers_of, writers, cycle_move_sources}
use Rattle.search.specs.Search.{units_of, with_units}
use Rattle.entries.specs.Table.{sorted_of}
use Rattle.function.specs.Known.{Checked}
use Rattle.entries.specs.Known.{Writable, or_remat, writer_of, Tracked, EntriesOk}
use Rattle.entries.proofs.Fates.{writable}
use Rattle.entries.proofs.Lists.{any_same, any_step}
use Rattle.std.specs.Prelude as std
use Rattle.visits.specs.Marks.{moves_of, remats_of, remats_with_scratch_of}
use Rattle.visits.specs.Writers.{writer_is, kept_only, kept_writer, is_open, Ready}

-- what was found is what the map has
pub writer-found : {r v : std.Option ℕ} {o : Option ℕ} → writer_is r ≡ o → r ≡ v → writer_is v ≡ o
writer-found h e = sym (ap writer_is e) ∙ h

pub kept_low : (o : Option ℕ) (m : ℕ) → some m ≡ kept_only o → m < 128
unfolding kept_only
kept_low none m e = let z : ◌≡◌ {A = ℕ} 0 1 = cc in absurd (omega arith)
kept_low (some x) m e = go (ltb x 128) refl e
  where
    go : (b : Bool) → ltb x 128 ≡ b → some m ≡ pick b (some x) none → m < 128
    go true q e = let z : m ≡ x = cc in omega (arith, ltb-true x 128 q)
    go false q e = let z : ◌≡◌ {A = ℕ} 0 1 = cc in absurd (omega arith)

pub kept-some : (x : ℕ) → x < 128 → some x ≡ kept_only (some x)
unfolding kept_only
kept-some x h = rw (lt-ltb x 128 h)

pub kept-none : (x : ℕ) → 128 ≤ x → none ≡ kept_only (some x)
unfolding kept_only
kept-none x h = rw (le-ltb x 128 h)

module _ (t : RegInfo) (f : Function) (ms : List KeptMove) where
  writer-same : (g : Function) (i : ℕ) (l : List KeptMove) (u : ℕ) → writer_from t f ms i l u ≡ writer_from t g ms i l u
  unfolding writer_from
  writer-same g i [] u = refl
  writer-same g i (m ∷ l) u = ap (pick (has u (place_units t m.dest)) (some i)) (writer-same g (i + 1) l u)

  kept_from : (i : ℕ) (l : List KeptMove) (u : ℕ) (b : Bool) → i + length l ≤ 128 → kept_only (or_remat (writer_from t f ms i l u) b) ≡ writer_from t f ms i l u
  unfolding writer_from kept_only
  kept_from i [] u true h = refl
  kept_from i [] u false h = refl
  kept_from i (m ∷ l) u b h = go (has u (place_units t m.dest)) (kept_from (i + 1) l u b (omega arith))
    where
      go : (c : Bool) → kept_only (or_remat (writer_from t f ms (i + 1) l u) b) ≡ writer_from t f ms (i + 1) l u
          → kept_only (or_remat (pick c (some i) (writer_from t f ms (i + 1) l u)) b) ≡ pick c (some i) (writer_from t f ms (i + 1) l u)
      go true e = rw (lt-ltb i 128 (omega arith))
      go false e = e

  -- an open writer of some unit
  any-writers : (s : ℕ → State) (us : List ℕ) → any_in (λ x. is_pending (s x)) (writers_of t f ms us) ≡ any_in (λ u. is_open s (writer_from t f ms 0 ms u)) us
  unfolding any_in writers_of
  any-writers s [] = refl
  any-writers s (u ∷ us) = go (writer_from t f ms 0 ms u) refl (any-writers s us)
    where
      go : (o : Option ℕ) → writer_from t f ms 0 ms u ≡ o → any_in (λ x. is_pending (s x)) (writers_of t f ms us) ≡ any_in (λ u. is_open s (writer_from t f ms 0 ms u)) us
          → any_in (λ x. is_pending (s x)) (writers_of t f ms (u ∷ us)) ≡ or (is_open s o) (any_in (λ u. is_open s (writer_from t f ms 0 ms u)) us)
      go none e on = rw e on
      go (some m) e on = rw e (ap (or (is_pending (s m))) on)

  any_open : (w : List ℕ) (s : ℕ → State) (us : List ℕ) → ((u : ℕ) → kept_writer w u ≡ writer_from t f ms 0 ms u) → any_in (λ u. is_open s (kept_writer w u)) us ≡ any_in (λ x. is_pending (s x)) (writers_of t f ms us)
  any_open w s us h = any_same (λ u. is_open s (kept_writer w u)) (λ u. is_open s (writer_from t f ms 0 ms u)) us (λ u. ap (is_open s) (h u)) ∙ sym (any-writers s us)

  units-same : (p : Place) → units_of_reg t f p ≡ units_of t p
  units-same (reg r) = refl
  units-same (slot s) = refl

  pub cycle-sources : (u : ℕ) → any_in (λ (m : KeptMove). has u (units_of t m.source)) ms ≡ cycle_move_sources t f ms u
  unfolding cycle_move_sources
  cycle-sources u = any_same (λ (m : KeptMove). has u (units_of t m.source)) (λ (m : KeptMove). has u (units_of_reg t f m.source)) ms (λ m. ap (has u) (sym (units-same m.source)))

kept_writer_lem : (t : RegInfo) (f : Function) (a : Sorted) (e w : List ℕ) → Tracked t f a e w → (u : ℕ) → kept_writer w u ≡ writer_from t f a.moves 0 a.moves u
unfolding writer_of
kept_writer_lem t f a e w ok u = ap (λ (g : ℕ → Option ℕ). kept_only (g u)) ok.map ∙ kept_from t f a.moves 0 a.moves u _ (omega (arith, ok.few, ok.most))

-- a table of entries of a checked target and function, with its map
pub ready : (t f e w : List ℕ) → Checked t f → EntriesOk t f e w → Ready (reg_info_of t) e w
ready t f e w known ok =
    record {
      kept =
          record {
            small =
                record {
                  few = omega (arith, ok.few, ok.most);
                  values = λ i h. omega (arith, (ok.sorted.moves i h).value-named, few-values (reg_info_of t) (function_of f) known.function);
                };
            sources = λ i h. writable t f known _ (ok.sorted.moves i h).source-named;
            dests = λ i h. writable t f known _ (ok.sorted.moves i h).dest-named;
          };
      linked = ok.linked;
      writer = λ g u. kept_writer_lem (reg_info_of t) (function_of f) (sorted_of e) e w ok u ∙ writer-same (reg_info_of t) (function_of f) (sorted_of e).moves g 0 (sorted_of e).moves u;
    }

pub few-remats : (t f e w : List ℕ) → EntriesOk t f e w → (length (remats_of e) ≤ 128) × (length (remats_with_scratch_of e) ≤ 128)
few-remats t f e w ok = (omega (arith, ok.few, ok.most), omega (arith, ok.few, ok.most))

module _ (t : RegInfo) (e w : List ℕ) (m : ℕ) {p : Place} (ok : Ready t e w) (q : p ≡ (get_or (moves_of e) m no_move).source) where
  pub source-writable : m < length (moves_of e) → Writable t p
  source-writable h = rw q (ok.kept.sources m h)

  pub open-writers : (s : ℕ → State) (f : Function) → any_in (λ u. is_open s (kept_writer w u)) (place_units t p) ≡ any_in (λ x. is_pending (s x)) (writers t f (moves_of e) m)
  unfolding writers
  open-writers s f = any_open t f (moves_of e) w s (place_units t p) (ok.writer f) ∙ rw q

-- a step over the units
module _ (w : List ℕ) (s : ℕ → State) where
  abbrev pub open_unit : ℕ → Bool
  open_unit u = is_open s (kept_writer w u)

  pub open_step : (us : List ℕ) (j u : ℕ) (b : Bool) → j < length us → u ≡ get_or us j 0 → b ≡ open_unit u → any_in open_unit (drop j us) ≡ or b (any_in open_unit (drop (j + 1) us))
  open_step us j u b h e q = any_step open_unit us j 0 h ∙ rw (q, e)

  pub open-end : (us : List ℕ) (j : ℕ) → length us ≤ j → any_in open_unit (drop j us) ≡ false
  unfolding any_in
  open-end us j h = ap (any_in open_unit) (drop_of_length-le us {i = j} h)

-- a step over the sources: what is noted with the sources left
module _ (t : RegInfo) (ms : List KeptMove) where
  abbrev pub source_unit : ℕ → KeptMove → Bool
  source_unit u m = has u (units_of t m.source)

  pub source-step : (m u : ℕ) (p : Place) (here next : ℕ → Bool) → m < length ms → p ≡ (get_or ms m no_move).source → next ≡ with_units t p here
      → or (any_in (source_unit u) (drop m ms)) (here u) ≡ or (any_in (source_unit u) (drop (m + 1) ms)) (next u)
  source-step m u p here next h q n =
      ap (λ (b : Bool). or b (here u)) (any_step (source_unit u) ms m no_move h) ∙ rw (n, q) (by (source_unit u (get_or ms m no_move)) (any_in (source_unit u) (drop (m + 1) ms)) (here u))
    where
      by : (a b c : Bool) → or (or a b) c ≡ or b (or a c)
      by true true c = refl
      by true false c = refl
      by false true c = refl
      by false false c = refl

  pub sources-end : (m u : ℕ) (here : ℕ → Bool) → length ms ≤ m → or (any_in (source_unit u) (drop m ms)) (here u) ≡ here u
  unfolding any_in
  sources-end m u here h = ap (λ (l : List KeptMove). or (any_in (source_unit u) l) (here u)) (drop_of_length-le ms {i = m} h)
