-- The writer of each unit, as entries are added.
use Prim.Native.Nat.{ℕ, suc, ◌+◌, ◌<◌, ◌≤◌}
use mathlib.Core.Path.{◌≡◌, refl, sym, ap, ◌∙◌, fun_ext}
use mathlib.Core.Bool.{Bool, true, false, true≢false}
use mathlib.Core.List.{List, [], ◌∷◌, ◌++◌, map}
use mathlib.Core.Option.{Option, none, some}
use native.Mathlib.Omega.{arith}
use lib.Dec.{eqb}
use lib.ListN.{get_or, length, drop, length-append}
use borrow.Author.Tests.{eqb-false, ne_eqb}
use Rattle.entity.specs.Logic.{pick, or, any_in, has, twice}
use Rattle.entity.specs.Place.{Place}
use Rattle.entity.proofs.Laws.{or-false, any-has, meets-comm, drop-step}
use Rattle.reginfo.specs.RegInfo.{RegInfo, place_units, overlap}
use Rattle.function.specs.Function.{Function}
use Rattle.rules.specs.Order.{KeptMove, Remat, writer_from}
use Rattle.rules.specs.Patch.{Sorted, nothing_sorted, destinations, overlaps_earlier}
use Rattle.rules.specs.Sorted.{SortedOk}
use Rattle.sparse.specs.Map.{map_of, known, updated, found_of, empty_map, Emptied, Same}
use Rattle.std.specs.Prelude as std
use Rattle.entries.specs.Table.{with_move, with_remat}
use Rattle.entries.specs.Known.{noted, Noted, or_remat, remat_writes, writer_of, places, Indexed, SameIndex, Tracked}
use Rattle.entries.proofs.Lists.{or-none, or_right, or_assoc, any_append, any-end, any_step, twice-at, any-map, any_same, any_swap, meets_any}
use Rattle.entries.proofs.Sources.{indexed-same}

-- what holds of the answer that a look-up found
pub by-found : {A : Type 0} (g : Option ℕ → A) {r v : std.Option ℕ} {o : Option ℕ} → found_of r ≡ o → r ≡ v → g (found_of v) ≡ g o
by-found g h e = ap g (sym (ap found_of e) ∙ h)

-- the map with each of the units at x
noted-is : (g : ℕ → Option ℕ) (us : List ℕ) (x k : ℕ) → noted g us x k ≡ pick (has k us) (some x) (g k)
unfolding noted updated has
noted-is g [] x k = refl
noted-is g (u ∷ us) x k = noted-is (updated g u x) us x k ∙ by (has k us) (eqb k u)
  where
    by : (b c : Bool) → pick b (some x) (pick c (some x) (g k)) ≡ pick (or c b) (some x) (g k)
    by true true = refl
    by true false = refl
    by false true = refl
    by false false = refl

-- the first of two
abbrev or_some : Option ℕ → Option ℕ → Option ℕ
or_some none o = o
or_some (some x) o = some x

known-pick : (b : Bool) (x : ℕ) (o : Option ℕ) → known (pick b (some x) o) ≡ or b (known o)
known-pick true x o = refl
known-pick false x o = refl

known-remat : (o : Option ℕ) (b : Bool) → known (or_remat o b) ≡ or (known o) b
known-remat none true = refl
known-remat none false = refl
known-remat (some m) b = refl

pub known-none : (o : Option ℕ) → known o ≡ false → o ≡ none
known-none none e = refl
known-none (some m) e = absurd (true≢false e)

-- a unit that had no writer gets one
by_move : (o : Option ℕ) (b r : Bool) (k n : ℕ) → k ≡ n → (b ≡ true → or_remat o r ≡ none) → or_remat (or_some o (pick b (some k) none)) r ≡ pick b (some n) (or_remat o r)
by_move none true r k n e h = ap some e
by_move (some x) true r k n e h = let z : ◌≡◌ {A = Option ℕ} (some x) none = h refl in let y : ◌≡◌ {A = ℕ} 0 1 = cc in absurd (omega arith)
by_move none false r k n e h = refl
by_move (some x) false r k n e h = refl

by-remat : (o : Option ℕ) (b r r' : Bool) → r' ≡ or r b → (b ≡ true → or_remat o r ≡ none) → or_remat o r' ≡ pick b (some 128) (or_remat o r)
by-remat none true r r' e h = rw (e, or_right r true refl)
by-remat (some x) true r r' e h = let z : ◌≡◌ {A = Option ℕ} (some x) none = h refl in let y : ◌≡◌ {A = ℕ} 0 1 = cc in absurd (omega arith)
by-remat o false r r' e h = rw (e, or-none r)

or-last : (a b c : Bool) → or (or a b) c ≡ or (or a c) b
or-last true b c = refl
or-last false true true = refl
or-last false true false = refl
or-last false false true = refl
or-last false false false = refl

module _ (t : RegInfo) (f : Function) where
  abbrev unit_of : ℕ → Place → Bool
  unit_of u p = has u (place_units t p)

  pub known_from : (ms : List KeptMove) (i : ℕ) (l : List KeptMove) (u : ℕ) → known (writer_from t f ms i l u) ≡ any_in (λ (m : KeptMove). unit_of u m.dest) l
  unfolding writer_from any_in
  known_from ms i [] u = refl
  known_from ms i (m ∷ l) u = known-pick (unit_of u m.dest) i (writer_from t f ms (i + 1) l u) ∙ ap (or (unit_of u m.dest)) (known_from ms (i + 1) l u)

  from_end : (ms ns : List KeptMove) (i : ℕ) (l : List KeptMove) (m : KeptMove) (u : ℕ) → writer_from t f ns i (l ++ (m ∷ [])) u ≡ or_some (writer_from t f ms i l u) (pick (unit_of u m.dest) (some (i + length l)) none)
  unfolding writer_from
  from_end ms ns i [] m u = ap (λ (k : ℕ). pick (unit_of u m.dest) (some k) none) (omega arith)
  from_end ms ns i (n ∷ l) m u =
      let e : i + 1 + length l ≡ i + suc (length l) = omega arith in
      go (unit_of u n.dest) (from_end ms ns (i + 1) l m u ∙ ap (λ (k : ℕ). or_some (writer_from t f ms (i + 1) l u) (pick (unit_of u m.dest) (some k) none)) e)
    where
      go : (b : Bool) → writer_from t f ns (i + 1) (l ++ (m ∷ [])) u ≡ or_some (writer_from t f ms (i + 1) l u) (pick (unit_of u m.dest) (some (i + suc (length l))) none)
          → pick b (some i) (writer_from t f ns (i + 1) (l ++ (m ∷ [])) u) ≡ or_some (pick b (some i) (writer_from t f ms (i + 1) l u)) (pick (unit_of u m.dest) (some (i + suc (length l))) none)
      go true on = refl
      go false on = on

  -- a unit has a writer where a destination has it
  pub writer-known : (a : Sorted) (u : ℕ) → known (writer_of t f a u) ≡ any_in (unit_of u) (destinations a)
  unfolding writer_of destinations
  writer-known a u =
      let kept = map (λ (m : KeptMove). m.dest) a.moves in
      let direct = map (λ (r : Remat). r.dest) a.remats in
      let scratch = map (λ (r : Remat). r.dest) a.remats_with_scratch in
      known-remat (writer_from t f a.moves 0 a.moves u) _
      ∙ sym (any_append (unit_of u) kept (direct ++ scratch) ∙ rw (any_append (unit_of u) direct scratch, any-map (unit_of u) (λ (m : KeptMove). m.dest) a.moves, any-map (unit_of u) (λ (r : Remat). r.dest) a.remats, any-map (unit_of u) (λ (r : Remat). r.dest) a.remats_with_scratch, known_from a.moves 0 a.moves u))

  -- 12: a destination overlaps an earlier one where one of its units has a writer
  pub overlaps-written : (a : Sorted) (d : Place) → overlaps_earlier t f a d ≡ any_in (λ u. known (writer_of t f a u)) (place_units t d)
  overlaps-written a d =
      any_same (λ p. overlap t p d) (λ p. any_in (λ u. unit_of u p) (place_units t d)) (destinations a) (λ p. meets-comm (place_units t p) (place_units t d) ∙ meets_any (place_units t d) (place_units t p))
      ∙ any_swap (λ p u. unit_of u p) (destinations a) (place_units t d)
      ∙ any_same (λ u. any_in (unit_of u) (destinations a)) (λ u. known (writer_of t f a u)) (place_units t d) (λ u. sym (writer-known a u))

  -- an entry whose destination overlaps none before it
  module _ (a : Sorted) (d : Place) (apart : overlaps_earlier t f a d ≡ false) where
    unwritten : (u : ℕ) → unit_of u d ≡ true → writer_of t f a u ≡ none
    unwritten u h = known-none (writer_of t f a u) (any-has (λ u. known (writer_of t f a u)) (place_units t d) u (sym (overlaps-written a d) ∙ apart) h)

    writer-move : (s : Place) (v u : ℕ) → writer_of t f (with_move (record { source = s; dest = d; value = v }) a) u ≡ pick (unit_of u d) (some (length a.moves)) (writer_of t f a u)
    unfolding writer_of
    writer-move s v u =
        rw (from_end a.moves (a.moves ++ (record { source = s; dest = d; value = v } ∷ [])) 0 a.moves (record { source = s; dest = d; value = v }) u)
        (by_move (writer_from t f a.moves 0 a.moves u) (unit_of u d) _ (0 + length a.moves) (length a.moves) (omega arith) (unwritten u))

    writer-remat : (b : Bool) (v u : ℕ) → writer_of t f (with_remat b (record { dest = d; value = v }) a) u ≡ pick (unit_of u d) (some 128) (writer_of t f a u)
    unfolding writer_of
    writer-remat true v u =
        by-remat (writer_from t f a.moves 0 a.moves u) (unit_of u d) _ _
        (ap (or (remat_writes t f u a.remats)) (any-end (λ (r : Remat). unit_of u r.dest) a.remats_with_scratch (record { dest = d; value = v })) ∙ or_assoc (remat_writes t f u a.remats) (remat_writes t f u a.remats_with_scratch) (unit_of u d))
        (unwritten u)
    writer-remat false v u =
        by-remat (writer_from t f a.moves 0 a.moves u) (unit_of u d) _ _
        (ap (λ (b : Bool). or b (remat_writes t f u a.remats_with_scratch)) (any-end (λ (r : Remat). unit_of u r.dest) a.remats (record { dest = d; value = v })) ∙ or-last (remat_writes t f u a.remats) (unit_of u d) (remat_writes t f u a.remats_with_scratch))
        (unwritten u)

    -- what is known of the table and the map, with that entry
    module _ (e e' w w' : List ℕ) (ok : Tracked t f a e w) (less : a.count < 128) (few : length (place_units t d) ≤ 8) where
      tracked : (a' : Sorted) (x : ℕ) → Noted w w' (place_units t d) x → SortedOk t f a' → ((u : ℕ) → writer_of t f a' u ≡ pick (unit_of u d) (some x) (writer_of t f a u))
          → places t f a' ≡ places t f a + 1 → a'.count ≡ suc a.count → Indexed t a' e' → Tracked t f a' e' w'
      tracked a' x n s q p c i = record {
        sorted = s;
        few = omega (arith, ok.few);
        most = omega arith;
        map = n.map ∙ fun_ext (λ u. noted-is (map_of w) (place_units t d) x u ∙ rw ok.map (sym (q u)));
        linked = n.linked;
        room = omega (arith, ok.room, n.few);
        indexed = i;
      }

      pub tracked-move : (s : Place) (v : ℕ) → Noted w w' (place_units t d) (length a.moves) → SortedOk t f (with_move (record { source = s; dest = d; value = v }) a) → Indexed t (with_move (record { source = s; dest = d; value = v }) a) e' → Tracked t f (with_move (record { source = s; dest = d; value = v }) a) e' w'
      tracked-move s v n o i = tracked (with_move (record { source = s; dest = d; value = v }) a) (length a.moves) n o (writer-move s v) (simp length-append (omega arith)) refl i

      pub tracked-remat : (b : Bool) (v : ℕ) → Noted w w' (place_units t d) 128 → SortedOk t f (with_remat b (record { dest = d; value = v }) a) → SameIndex e e' → Tracked t f (with_remat b (record { dest = d; value = v }) a) e' w'
      tracked-remat true v n o i = tracked (with_remat true (record { dest = d; value = v }) a) 128 n o (writer-remat true v) (simp length-append (omega arith)) refl (indexed-same t a (with_remat true (record { dest = d; value = v }) a) e e' refl i ok.indexed)
      tracked-remat false v n o i = tracked (with_remat false (record { dest = d; value = v }) a) 128 n o (writer-remat false v) (simp length-append (omega arith)) refl (indexed-same t a (with_remat false (record { dest = d; value = v }) a) e e' refl i ok.indexed)

pub noted_step : (g : ℕ → Option ℕ) (us : List ℕ) (x j : ℕ) → j < length us → noted g (drop j us) x ≡ noted (updated g (get_or us j 0) x) (drop (j + 1) us) x
unfolding noted
noted_step g us x j h = ap (λ (l : List ℕ). noted g l x) (drop-step us j 0 h)

-- a unit that had no writer gets one: of those behind it as many have one as before
any-updated : (g : ℕ → Option ℕ) (u x : ℕ) (l : List ℕ) → has u l ≡ false → any_in (λ v. known (updated g u x v)) l ≡ any_in (λ v. known (g v)) l
unfolding any_in has updated
any-updated g u x [] h = refl
any-updated g u x (v ∷ l) h =
    let p = or-false (eqb u v) (has u l) h in
    rw (ne_eqb v u (λ q. eqb-false u v p.0 (sym q)), any-updated g u x l p.1)

pub new-step : (g : ℕ → Option ℕ) (us : List ℕ) (x j : ℕ) → twice us ≡ false → j < length us → known (g (get_or us j 0)) ≡ false
    → any_in (λ u. known (g u)) (drop j us) ≡ any_in (λ u. known (updated g (get_or us j 0) x u)) (drop (j + 1) us)
new-step g us x j once h e = any_step (λ u. known (g u)) us j 0 h ∙ rw e (sym (any-updated g (get_or us j 0) x (drop (j + 1) us) (twice-at us j once h)))

-- the same map tracks the same entries
pub tracked-same : (t : RegInfo) (f : Function) (a : Sorted) (e w w' : List ℕ) → Tracked t f a e w → Same w w' → Tracked t f a e w'
tracked-same t f a e w w' k s =
    record { sorted = k.sorted; few = k.few; most = k.most; map = s.map ∙ k.map; linked = s.linked; room = rw s.keys k.room; indexed = k.indexed }

-- no entry and no writer
pub tracked-none : (t : RegInfo) (f : Function) (a : Sorted) (e v w : List ℕ) → a ≡ nothing_sorted → Emptied v w → Tracked t f a e w
unfolding writer_of writer_from any_in empty_map destinations
tracked-none t f a e v w q m =
    rw q
    record {
      sorted = record { moves = λ i h. absurd (omega arith); remats = λ i h. absurd (omega arith); remats_with_scratch = λ i h. absurd (omega arith); apart = λ i k h. absurd (omega arith); sources = λ i k h. absurd (omega arith) };
      few = omega arith;
      most = omega arith;
      map = m.map;
      linked = m.linked;
      room = rw m.keys (omega arith);
      indexed = λ k u h. absurd (omega arith);
    }
