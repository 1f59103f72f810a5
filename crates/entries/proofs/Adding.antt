-- An entry added: which numbers it is refused by, and what is known afterwards.
use Prim.Native.Nat.{ℕ, suc, ◌+◌, ◌*◌, ◌<◌, ◌≤◌}
use mathlib.Core.Path.{◌≡◌, refl, sym, ap, ◌∙◌}
use mathlib.Core.Bool.{Bool, true, false, true≢false}
use mathlib.Core.List.{List, [], ◌∷◌, map}
use mathlib.Core.Option.{Option, none, some}
use native.Mathlib.Omega.{arith}
use lib.Dec.{eqb, ltb}
use lib.ListN.{get_or, length, length-append, length-map, get_or-append, get_or-map}
use borrow.Author.Tests.{eqb-true, eqb-false, eq-eqb, lt-ltb, lt-leb, le-leb}
use Rattle.entity.specs.Logic.{pick, and, or, no, any_in, has}
use Rattle.entity.specs.Place.{Place, slot, same_place, place_at, code_of}
use Rattle.entity.proofs.Laws.{and-true, no_false, any-has, has_get_d, code-there}
use Rattle.reginfo.specs.RegInfo.{RegInfo, place_units, overlap, in_class, of_bank}
use Rattle.reginfo.specs.Refused.{or_else, first_of}
use Rattle.reginfo.specs.Table.{reg_info_of}
use Rattle.function.specs.Function.{Function, num_values, value_bank, remat_class, can_rematerialize}
use Rattle.function.specs.Table.{function_of}
use Rattle.rules.specs.Order.{KeptMove, Remat, no_move, writer_from}
use Rattle.rules.specs.Patch.{Entry, move, remat, Sorted, destinations, needs_scratch, becomes_remat, same_move, dropped, add_remat, add, names_place, overlaps_earlier, would_be_kept, overlaps_source, entry_conditions}
use Rattle.rules.specs.Sorted.{SortedOk}
use Rattle.rules.proofs.Accepted.{same_self, same-is, sorted-add}
use Rattle.sparse.specs.Map.{map_of, known, Same}
use Rattle.entries.specs.Table.{move_at, sorted_of, is_move_of, kept_move, remat_as, with_move, with_remat, with_dropped}
use Rattle.function.specs.Known.{Checked}
use Rattle.entries.specs.Known.{Writable, NamedRemat, NamedMove, is_written, Roomy, or_remat, writer_of, SameIndex, Tracked, PassedMove, EntriesOk}
use Rattle.entries.specs.Answers.{NotedNew, IndexedAs, KeptAs, AddedAs, RemattedAs}
use Rattle.entries.proofs.Lists.{both_ways, pick-none, any-true, any_where, any-only, meets_any}
use Rattle.entries.proofs.Table.{kept-count, remats-count, scratch-count, entries-count, kept-is, low_same}
use Rattle.entries.proofs.Writers.{known-none, known_from, overlaps-written, tracked-same, tracked-move, tracked-remat}
use Rattle.entries.proofs.Fates.{writable}
use Rattle.entries.proofs.Sources.{indexed-same, indexed-kept}

-- places by their codes
pub same_code : (a b : ℕ) → same_place (place_at a) (place_at b) ≡ eqb a b
same_code a b =
    both_ways (same_place (place_at a) (place_at b)) (eqb a b)
    (λ e. eq-eqb a b (sym (code-there a) ∙ ap code_of (same-is (place_at a) (place_at b) e) ∙ code-there b))
    (λ e. rw (eqb-true a b e) (same_self (place_at b)))

either : (a b : Bool) → and a b ≡ false → or (no a) (no b) ≡ true
either true true e = absurd (true≢false e)
either true false e = refl
either false b e = refl

and-end : (b : Bool) → and b true ≡ b
and-end true = refl
and-end false = refl

remat-added : (t : RegInfo) (f : Function) (b : Bool) (d : Place) (v : ℕ) (a : Sorted) → add_remat t f b d v a ≡ with_remat b (record { dest = d; value = v }) a
remat-added t f true d v a = refl
remat-added t f false d v a = refl

-- room for one entry more
pub roomy : (t f e w : List ℕ) → EntriesOk t f e w → get_or e 1027 0 < 128 → Roomy e w
roomy t f e w ok less =
    record {
      few = omega (arith, ok.few, kept-count e, remats-count e, scratch-count e, entries-count e);
      count = less;
      keys = omega (arith, ok.few, ok.room, entries-count e);
      linked = ok.linked;
    }

-- the index does not count
pub roomy-low : (e e' w : List ℕ) → Roomy e w → ((y : ℕ) → y < 1028 → get_or e' y 0 ≡ get_or e y 0) → (get_or e' 1024 0 + (get_or e' 1025 0 + get_or e' 1026 0) < 128) × (get_or e' 1027 0 < 128)
roomy-low e e' w r low = (rw (low 1024 (omega arith), low 1025 (omega arith), low 1026 (omega arith)) r.few, rw (low 1027 (omega arith)) r.count)

-- a rebuild refused, and one taken
no_true : (a : Bool) → no a ≡ true → a ≡ false
no_true true e = sym e
no_true false e = refl

-- what was noted tells whether a unit was written
pub noted-not : (w w' us : List ℕ) (x : ℕ) (r : Bool) → NotedNew w w' us x r → r ≡ false → any_in (is_written w) us ≡ true
noted-not w w' us x r n q = no_false (any_in (is_written w) us) (sym n.is ∙ q)

pub noted-new : (w w' us : List ℕ) (x : ℕ) (r : Bool) → NotedNew w w' us x r → r ≡ true → any_in (is_written w) us ≡ false
noted-new w w' us x r n q = no_true (any_in (is_written w) us) (sym n.is ∙ q)

pub new-remat-refused : (e w w' us : List ℕ) (b : Bool) (x : Remat) (r : Bool) → NotedNew w w' us 128 r → r ≡ false → RemattedAs e w e w' us b x (some 12)
new-remat-refused e w w' us b x r n h = record { is = rw (noted-not w w' us 128 r n h); yes = λ q. (let z : ◌≡◌ {A = ℕ} 0 1 = cc in absurd (omega arith)); no = λ m q. (refl, n.no h) }

pub new-remat-taken : (e w e' w' us : List ℕ) (b : Bool) (x : Remat) (r : Bool) → NotedNew w w' us 128 r → r ≡ true → (sorted_of e' ≡ with_remat b x (sorted_of e)) × SameIndex e e' → RemattedAs e w e' w' us b x none
new-remat-taken e w e' w' us b x r n h q = record { is = rw (noted-new w w' us 128 r n h); yes = λ z. (q.0, n.yes h, q.1); no = λ m z. (let y : ◌≡◌ {A = ℕ} 0 1 = cc in absurd (omega arith)) }

module _ (t : RegInfo) (f : Function) where
  -- the kept move that writes a unit
  abbrev Writer : ℕ → ℕ → List KeptMove → ℕ → Type 0
  Writer u j l k = (i : ℕ) × (i < length l) × (k ≡ j + i) × (has u (place_units t (get_or l i no_move).dest) ≡ true)

  found-writer : (ms : List KeptMove) (u j : ℕ) (l : List KeptMove) (k : ℕ) → writer_from t f ms j l u ≡ some k → Writer u j l k
  unfolding writer_from
  found-writer ms u j [] k e = let z : ◌≡◌ {A = ℕ} 0 1 = cc in absurd (omega arith)
  found-writer ms u j (m ∷ l) k e = go (has u (place_units t m.dest)) refl e (found-writer ms u (j + 1) l k)
    where
      go : (b : Bool) → has u (place_units t m.dest) ≡ b → pick b (some j) (writer_from t f ms (j + 1) l u) ≡ some k → (writer_from t f ms (j + 1) l u ≡ some k → Writer u (j + 1) l k) → Writer u j (m ∷ l) k
      go true q e on = let z : j ≡ k = cc in (0, omega arith, omega arith, q)
      go false q e on = let w = on e in (suc w.0, omega (arith, w.1), omega (arith, w.2), w.3)

  dest-at : (a : Sorted) (i : ℕ) → i < length a.moves → get_or (destinations a) i (slot 0) ≡ (get_or a.moves i no_move).dest
  unfolding destinations
  dest-at a i h = get_or-append (map (λ (m : KeptMove). m.dest) a.moves) _ (slot 0) i (rw (length-map a.moves (λ (m : KeptMove). m.dest)) h) ∙ get_or-map (λ (m : KeptMove). m.dest) a.moves i no_move

  few-kept : (a : Sorted) → length a.moves ≤ length (destinations a)
  unfolding destinations
  few-kept a = simp (length-append, length-map) (omega arith)

  -- a unit is written by one kept move at most
  one_writer : (a : Sorted) → SortedOk t f a → (u i k : ℕ) → i < length a.moves → k < length a.moves → has u (place_units t (get_or a.moves i no_move).dest) ≡ true → has u (place_units t (get_or a.moves k no_move).dest) ≡ true → i ≡ k
  one_writer a ok u i k h l p q = go (eqb i k) refl
    where
      go : (b : Bool) → eqb i k ≡ b → i ≡ k
      go true e = eqb-true i k e
      go false e =
          let o : overlap t (get_or a.moves i no_move).dest (get_or a.moves k no_move).dest ≡ false = rw (dest-at a i h, dest-at a k l) at (ok.apart i k (omega (arith, few-kept a)) (omega (arith, few-kept a)) (eqb-false i k e)) in
          absurd (true≢false (sym q ∙ any-has (λ u. has u (place_units t (get_or a.moves k no_move).dest)) (place_units t (get_or a.moves i no_move).dest) u (sym (meets_any _ _) ∙ o) p))

  -- a move equal to a kept one is the writer of each unit of its destination
  module _ (a : Sorted) (ok : SortedOk t f a) (s d : Place) (v u : ℕ) (on : has u (place_units t d) ≡ true) where
    same_writes : (m : KeptMove) → same_move t f s d v m ≡ true → has u (place_units t m.dest) ≡ true
    same_writes m e =
        let p = and-true (same_place m.source s) (and (same_place m.dest d) (eqb m.value v)) e in
        let q = and-true (same_place m.dest d) (eqb m.value v) p.1 in
        rw (same-is m.dest d q.0) on

    same_none : writer_from t f a.moves 0 a.moves u ≡ none → any_in (same_move t f s d v) a.moves ≡ false
    same_none e = go (any_in (same_move t f s d v) a.moves) refl
      where
        go : (b : Bool) → any_in (same_move t f s d v) a.moves ≡ b → b ≡ false
        go false q = refl
        go true q =
            let k = any_where (same_move t f s d v) a.moves no_move q in
            let h = any-true (λ (m : KeptMove). has u (place_units t m.dest)) a.moves k.0 no_move k.1 (same_writes (get_or a.moves k.0 no_move) k.2) in
            absurd (true≢false (sym h ∙ sym (known_from t f a.moves 0 a.moves u) ∙ ap known e))

    same_some : (m : ℕ) → writer_from t f a.moves 0 a.moves u ≡ some m → (m < length a.moves) × (any_in (same_move t f s d v) a.moves ≡ same_move t f s d v (get_or a.moves m no_move))
    same_some m e =
        let w = found-writer a.moves u 0 a.moves m e in
        let z : w.0 ≡ m = omega (arith, w.2) in
        let l : m < length a.moves = omega (arith, w.1) in
        let h : has u (place_units t (get_or a.moves m no_move).dest) ≡ true = rw z at w.3 in
        (l, any-only (same_move t f s d v) a.moves m no_move l (λ i b q. one_writer a ok u i m b l (same_writes (get_or a.moves i no_move) q) h))

  full : (a : Sorted) (x : Entry) → 128 ≤ a.count → first_of (entry_conditions t f a x) ≡ some 15
  unfolding entry_conditions first_of
  full a (move s d v) h = rw (le-leb 128 a.count h)
  full a (remat d v) h = rw (le-leb 128 a.count h)

  -- the numbers an entry can still be refused by
  move-conditions : (a : Sorted) (s d : Place) (v : ℕ) → PassedMove t f a s d v → first_of (entry_conditions t f a (move s d v)) ≡ or_else (and (overlaps_earlier t f a d) (no (dropped t f a s d v))) 12 (or_else (and (would_be_kept t f a s d v) (overlaps_source t a s)) 21 none)
  unfolding entry_conditions first_of
  move-conditions a s d v p = rw (lt-leb 128 a.count p.less, p.source-named, p.dest-named, lt-ltb v (num_values f) p.value-named, p.source-bank, p.dest-bank, p.differ)

  remat-conditions : (a : Sorted) (d : Place) (v : ℕ) → a.count < 128 → names_place t f d ≡ true → v < num_values f → of_bank t (value_bank f v) d ≡ true → can_rematerialize f v ≡ true → first_of (entry_conditions t f a (remat d v)) ≡ or_else (overlaps_earlier t f a d) 12 none
  unfolding entry_conditions first_of
  remat-conditions a d v less n l b can = rw (lt-leb 128 a.count less, n, lt-ltb v (num_values f) l, b, can)

module _ (t f e w : List ℕ) (ok : Checked t f) (kept : EntriesOk t f e w) where
  abbrev T : RegInfo
  T = reg_info_of t

  abbrev F : Function
  F = function_of f

  abbrev a : Sorted
  a = sorted_of e

  overlaps-is : (d : Place) → overlaps_earlier T F a d ≡ any_in (is_written w) (place_units T d)
  overlaps-is d = overlaps-written T F a d ∙ ap (λ (g : ℕ → Option ℕ). any_in (λ u. known (g u)) (place_units T d)) (sym kept.map)

  -- whether a kept move is this one shows at the writer of the first unit
  module _ (s d v : ℕ) (writes : Writable T (place_at d)) where
    first : ℕ
    first = get_or (place_units T (place_at d)) 0 0

    first-has : has first (place_units T (place_at d)) ≡ true
    unfolding first
    first-has = has_get_d (place_units T (place_at d)) 0 writes.some

    at-writer : (o : Option ℕ) (b : Bool) → writer_from T F a.moves 0 a.moves first ≡ o → any_in (same_move T F (place_at s) (place_at d) v) a.moves ≡ is_move_of e (or_remat o b) s d v
    unfolding move_at
    at-writer none true q = same_none T F a kept.sorted (place_at s) (place_at d) v first first-has q
    at-writer none false q = same_none T F a kept.sorted (place_at s) (place_at d) v first first-has q
    at-writer (some m) b q =
        let p = same_some T F a kept.sorted (place_at s) (place_at d) v first first-has m q in
        p.1 ∙ rw (kept-is e m p.0, lt-ltb m 128 (omega (arith, p.0, kept.few, kept.most)), same_code (get_or e (m * 4) 0) s, same_code (get_or e (1 + m * 4) 0) d)

    same-there : any_in (same_move T F (place_at s) (place_at d) v) a.moves ≡ is_move_of e (map_of w (get_or (place_units T (place_at d)) 0 0)) s d v
    unfolding writer_of first
    same-there = rw kept.map (at-writer (writer_from T F a.moves 0 a.moves first) _ refl)

  -- a refused entry, and one that is taken
  refused-with : (x : Entry) (n : ℕ) (w' : List ℕ) → EntriesOk t f e w' → first_of (entry_conditions T F a x) ≡ some n → AddedAs t f e w e w' x (some n)
  refused-with x n w' k h = record { is = sym h; yes = λ q. (let z : ◌≡◌ {A = ℕ} 0 1 = cc in absurd (omega arith)); no = λ m q. (refl, k) }

  refused-by : (x : Entry) (n : ℕ) → first_of (entry_conditions T F a x) ≡ some n → AddedAs t f e w e w x (some n)
  refused-by x n h = refused-with x n w kept h

  -- 15 and 2
  pub refused-15 : (x : Entry) → 128 ≤ a.count → AddedAs t f e w e w x (some 15)
  refused-15 x h = refused-by x 15 (full T F a x h)

  pub unnamed-source : (s d : Place) (v : ℕ) → a.count < 128 → names_place T F s ≡ false → AddedAs t f e w e w (move s d v) (some 2)
  unfolding entry_conditions first_of
  unnamed-source s d v less h = refused-by (move s d v) 2 (rw (lt-leb 128 a.count less, h))

  pub unnamed-move : (s d : Place) (v : ℕ) → a.count < 128 → names_place T F s ≡ true → and (names_place T F d) (ltb v (num_values F)) ≡ false → AddedAs t f e w e w (move s d v) (some 2)
  unfolding entry_conditions first_of
  unnamed-move s d v less n h = refused-by (move s d v) 2 (rw (lt-leb 128 a.count less, n, either (names_place T F d) (ltb v (num_values F)) h))

  pub unnamed-remat : (d : Place) (v : ℕ) → a.count < 128 → and (names_place T F d) (ltb v (num_values F)) ≡ false → AddedAs t f e w e w (remat d v) (some 2)
  unfolding entry_conditions first_of
  unnamed-remat d v less h = refused-by (remat d v) 2 (rw (lt-leb 128 a.count less, either (names_place T F d) (ltb v (num_values F)) h))

  -- 9, 10 and 11
  module _ (s d : Place) (v : ℕ) (n : NamedMove T F a s d v) where
    pub foreign-source : of_bank T (value_bank F v) s ≡ false → AddedAs t f e w e w (move s d v) (some 9)
    unfolding entry_conditions first_of
    foreign-source h = refused-by (move s d v) 9 (rw (lt-leb 128 a.count n.rest.less, n.source-named, n.rest.dest-named, lt-ltb v (num_values F) n.rest.value-named, h))

    pub foreign-dest : of_bank T (value_bank F v) s ≡ true → of_bank T (value_bank F v) d ≡ false → AddedAs t f e w e w (move s d v) (some 9)
    unfolding entry_conditions first_of
    foreign-dest g h = refused-by (move s d v) 9 (rw (lt-leb 128 a.count n.rest.less, n.source-named, n.rest.dest-named, lt-ltb v (num_values F) n.rest.value-named, g, h))

    pub self-move : of_bank T (value_bank F v) s ≡ true → of_bank T (value_bank F v) d ≡ true → same_place s d ≡ true → AddedAs t f e w e w (move s d v) (some 10)
    unfolding entry_conditions first_of
    self-move g h q = refused-by (move s d v) 10 (rw (lt-leb 128 a.count n.rest.less, n.source-named, n.rest.dest-named, lt-ltb v (num_values F) n.rest.value-named, g, h, q))

  module _ (d : Place) (v : ℕ) (n : NamedRemat T F a d v) where
    pub foreign-remat : of_bank T (value_bank F v) d ≡ false → AddedAs t f e w e w (remat d v) (some 9)
    unfolding entry_conditions first_of
    foreign-remat h = refused-by (remat d v) 9 (rw (lt-leb 128 a.count n.less, n.dest-named, lt-ltb v (num_values F) n.value-named, h))

    pub not-remat : of_bank T (value_bank F v) d ≡ true → can_rematerialize F v ≡ false → AddedAs t f e w e w (remat d v) (some 11)
    unfolding entry_conditions first_of
    not-remat g h = refused-by (remat d v) 11 (rw (lt-leb 128 a.count n.less, n.dest-named, lt-ltb v (num_values F) n.value-named, g, h))

  taken : (x : Entry) (e' w' : List ℕ) → first_of (entry_conditions T F a x) ≡ none → sorted_of e' ≡ add T F x a → (SortedOk T F (add T F x a) → Tracked T F (add T F x a) e' w') → AddedAs t f e w e' w' x none
  taken x e' w' h q g = record { is = sym h; yes = λ z. (q, rw q (g (sorted-add T F x a kept.sorted h))); no = λ n z. (let y : ◌≡◌ {A = ℕ} 0 1 = cc in absurd (omega arith)) }

  -- a rebuild
  or-else-pick : (b : Bool) (n : ℕ) → or_else b n none ≡ pick b (some n) none
  or-else-pick true n = refl
  or-else-pick false n = refl

  added-as-remat : (x : Entry) (b : Bool) (d v : ℕ) → first_of (entry_conditions T F a x) ≡ or_else (overlaps_earlier T F a (place_at d)) 12 none → add T F x a ≡ with_remat b (remat_as d v) a → Writable T (place_at d) → a.count < 128
      → (e' w' : List ℕ) (r : Option ℕ) → RemattedAs e w e' w' (place_units T (place_at d)) b (remat_as d v) r → AddedAs t f e w e' w' x r
  added-as-remat x b d v h q writes less e' w' r done =
      let given : first_of (entry_conditions T F a x) ≡ pick (any_in (is_written w) (place_units T (place_at d))) (some 12) none = h ∙ ap (λ (c : Bool). or_else c 12 none) (overlaps-is (place_at d)) ∙ or-else-pick (any_in (is_written w) (place_units T (place_at d))) 12 in
      record {
        is = done.is ∙ sym given;
        yes = λ z. (let m = done.yes z in
            let ok = rw q at (sorted-add T F x a kept.sorted (given ∙ sym done.is ∙ z)) in
            let apart = overlaps-is (place_at d) ∙ pick-none (any_in (is_written w) (place_units T (place_at d))) 12 (sym z ∙ done.is) in
            (m.0 ∙ sym q, rw m.0 (tracked-remat T F a (place_at d) apart e e' w w' kept less writes.few b v m.1 ok m.2)));
        no = λ n z. (let q = done.no n z in rw q.0 (refl, tracked-same T F a e w w' kept q.1));
      }

  -- an entry that asks for a rebuild
  pub added-remat : (c d v : ℕ) → NamedRemat T F a (place_at d) v → of_bank T (value_bank F v) (place_at d) ≡ true → can_rematerialize F v ≡ true → remat_class F v ≡ c
      → (e' w' : List ℕ) (r : Option ℕ) → RemattedAs e w e' w' (place_units T (place_at d)) (no (in_class T c (place_at d))) (remat_as d v) r → AddedAs t f e w e' w' (remat (place_at d) v) r
  unfolding add
  added-remat c d v n b can is e' w' r done =
      added-as-remat (remat (place_at d) v) (no (in_class T c (place_at d))) d v (remat-conditions T F a (place_at d) v n.less n.dest-named n.value-named b can)
      (rw is (remat-added T F (no (in_class T c (place_at d))) (place_at d) v a)) (writable t f ok (place_at d) n.dest-named) n.less e' w' r done

  -- a move
  module _ (s d v : ℕ) (p : PassedMove T F a (place_at s) (place_at d) v) where
    abbrev written : Bool
    written = any_in (is_written w) (place_units T (place_at d))

    abbrev there : Bool
    there = is_move_of e (map_of w (get_or (place_units T (place_at d)) 0 0)) s d v

    dest-writable : Writable T (place_at d)
    dest-writable = writable t f ok (place_at d) p.dest-named

    module _ (q : becomes_remat T F (place_at s) (place_at d) v ≡ false) where
      dropped-is : dropped T F a (place_at s) (place_at d) v ≡ there
      dropped-is = rw q (same-there s d v dest-writable)

      kept-conditions : first_of (entry_conditions T F a (move (place_at s) (place_at d) v)) ≡ or_else (and written (no there)) 12 (or_else (and (no there) (overlaps_source T a (place_at s))) 21 none)
      kept-conditions = move-conditions T F a (place_at s) (place_at d) v p ∙ rw (overlaps-is (place_at d), dropped-is, q)

      pub refused-12 : written ≡ true → there ≡ false → (w' : List ℕ) → Same w w' → AddedAs t f e w e w' (move (place_at s) (place_at d) v) (some 12)
      refused-12 h g w' m = refused-with (move (place_at s) (place_at d) v) 12 w' (tracked-same T F a e w w' kept m) (kept-conditions ∙ rw (h, g))

      -- a move whose destination nothing writes
      new : written ≡ false → there ≡ false
      new h = rw (known-none (map_of w (get_or (place_units T (place_at d)) 0 0)) (any-has (is_written w) (place_units T (place_at d)) _ h (has_get_d (place_units T (place_at d)) 0 dest-writable.some)))

      pub refused-21 : written ≡ false → (e' w' : List ℕ) → IndexedAs T e e' (place_at s) true → Same w w' → AddedAs t f e w e' w' (move (place_at s) (place_at d) v) (some 21)
      refused-21 h e' w' i m =
          let same = low_same e e' i.low (omega (arith, kept.few, p.less, kept-count e)) (omega (arith, kept.few, p.less, remats-count e)) (omega (arith, kept.few, p.less, scratch-count e)) in
          record {
            is = sym (kept-conditions ∙ rw (h, new h, sym i.is));
            yes = λ q. (let z : ◌≡◌ {A = ℕ} 0 1 = cc in absurd (omega arith));
            no = λ _ _. (same, rw same (tracked-same T F a e' w w' (record { sorted = kept.sorted; few = kept.few; most = kept.most; map = kept.map; linked = kept.linked; room = kept.room; indexed = i.no refl }) m));
          }

      pub added-dropped : written ≡ true → there ≡ true → (e' w' : List ℕ) → sorted_of e' ≡ with_dropped a → SameIndex e e' → Same w w' → AddedAs t f e w e' w' (move (place_at s) (place_at d) v) none
      unfolding add writer_of
      added-dropped h g e' w' done same m =
          let is : add T F (move (place_at s) (place_at d) v) a ≡ with_dropped a = rw (q, same-there s d v dest-writable, g) in
          taken (move (place_at s) (place_at d) v) e' w' (kept-conditions ∙ rw (h, g)) (done ∙ sym is)
          (λ o. rw is
          (tracked-same T F (with_dropped a) e' w w'
          (record { sorted = rw is at o; few = omega (arith, kept.few); most = omega (arith, p.less); map = kept.map; linked = kept.linked; room = kept.room; indexed = indexed-same T a (with_dropped a) e e' refl same kept.indexed }) m))

      pub added-kept : written ≡ false → overlaps_source T a (place_at s) ≡ false → (e' w' : List ℕ) → KeptAs T e w e' w' s d v → AddedAs t f e w e' w' (move (place_at s) (place_at d) v) none
      unfolding add
      added-kept h g e' w' done =
          let is : add T F (move (place_at s) (place_at d) v) a ≡ with_move (kept_move s d v) a = rw (q, same-there s d v dest-writable, new h) in
          taken (move (place_at s) (place_at d) v) e' w' (kept-conditions ∙ rw (h, new h, g)) (done.sorted ∙ sym is)
          (λ o. rw is
          (tracked-move T F a (place_at d) (overlaps-is (place_at d) ∙ h) e e' w w' kept p.less dest-writable.few (place_at s) v done.noted (rw is at o)
          (indexed-kept T F e w e' w' s d v (omega (arith, kept.few, p.less)) kept.indexed done (rw is at o))))

    -- a move that is rebuilt
    pub added-instead : (b : Bool) → becomes_remat T F (place_at s) (place_at d) v ≡ true → needs_scratch T F (place_at d) v ≡ b → (e' w' : List ℕ) (r : Option ℕ) → RemattedAs e w e' w' (place_units T (place_at d)) b (remat_as d v) r
        → AddedAs t f e w e' w' (move (place_at s) (place_at d) v) r
    unfolding add
    added-instead b q n e' w' r done =
        added-as-remat (move (place_at s) (place_at d) v) b d v
        (move-conditions T F a (place_at s) (place_at d) v p ∙ rw q (ap (λ (c : Bool). or_else c 12 none) (and-end (overlaps_earlier T F a (place_at d)))))
        (rw (q, n) (remat-added T F b (place_at d) v a)) dest-writable p.less e' w' r done
