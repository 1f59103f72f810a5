-- The index of sources: what it tells, and what it tells once a move more is kept.
use Prim.Native.Nat.{ℕ, ◌+◌, ◌*◌, ◌/◌, ◌%◌, ◌<◌, ◌≤◌}
use mathlib.Core.Path.{◌≡◌, refl, sym, ap, ◌∙◌}
use mathlib.Core.Bool.{Bool, true, false, true≢false, false≢true}
use mathlib.Core.List.{List, [], ◌∷◌, ◌++◌}
use mathlib.Core.Logic.{◌⊎◌, inl, inr}
use native.Mathlib.Omega.{arith}
use lib.Dec.{eqb, ltb}
use lib.ListN.{get_or, length, drop, set, length-set, length-append, drop_of_length-le, get_or-append}
use lib.Seq.{get_or-set_same, get_or-set_other}
use borrow.Author.Tests.{eqb-true, eqb-false, eq-eqb, ltb-true, ltb-false}
use Rattle.entity.specs.Logic.{and, or, no, any_in, has, twice}
use Rattle.entity.specs.Place.{Place, reg, slot, same_place, place_at}
use Rattle.entity.proofs.Laws.{or-false, and-true, never_true, any_at, any-has, has_get_d, meets-comm, drop-step}
use Rattle.reginfo.specs.RegInfo.{RegInfo, reg_units, place_units, overlap}
use Rattle.reginfo.specs.Known.{KnownUnits, KnownPlace}
use Rattle.reginfo.specs.Table.{reg_info_of}
use Rattle.reginfo.proofs.Laws.{overlap-slot}
use Rattle.function.specs.Known.{Checked}
use Rattle.function.specs.Function.{Function}
use Rattle.rules.specs.Order.{KeptMove, no_move}
use Rattle.rules.specs.Patch.{Sorted, overlaps_source}
use Rattle.rules.specs.Sorted.{SortedOk}
use Rattle.rules.proofs.Accepted.{same_self, same-is}
use Rattle.entries.specs.Table.{move_at, sorted_of, stamp_of, counted_one, stored_move, indexed, source_indexed, kept_move, with_move}
use Rattle.entries.specs.Known.{Noted, clashes_at, Points, Indexed, SourcedAt, Sourced, SameIndex, EntriesOk}
use Rattle.entries.specs.Answers.{IndexedAs, KeptAs}
use Rattle.entries.proofs.Lists.{or_right, both_ways, any_step, any-true, any_where, any_same, any_swap, meets_any, twice-at}
use Rattle.entries.proofs.Table.{kept-count, remats-count, scratch-count, kept-is, low_same, counted-index, move-index, kept-done}
use Rattle.entries.proofs.Fates.{writable}

and-or : (a b c : Bool) → and (or a b) c ≡ or (and a c) (and b c)
and-or true b true = refl
and-or true true false = refl
and-or true false false = refl
and-or false b c = refl

any-and : (p : ℕ → Bool) (b : Bool) (l : List ℕ) → and (any_in p l) b ≡ any_in (λ u. and (p u) b) l
unfolding any_in
any-and p b [] = refl
any-and p b (x ∷ l) = and-or (p x) (any_in p l) b ∙ ap (or (and (p x) b)) (any-and p b l)

and-not : (b : Bool) → and b (no b) ≡ false
and-not true = refl
and-not false = refl

no_true : (b : Bool) → no b ≡ true → b ≡ false
no_true true e = absurd (false≢true e)
no_true false e = refl

or-first : (a : Bool) → or a false ≡ true → a ≡ true
or-first true e = refl
or-first false e = absurd (false≢true e)

end_is : {A : Type 0} (l : List A) (x d : A) → get_or (l ++ (x ∷ [])) (length l) d ≡ x
end_is [] x d = refl
end_is (y ∷ l) x d = end_is l x d

-- ---- the cells written
indexed-length : (e us : List ℕ) (x : ℕ) → length (indexed e us x) ≡ length e
unfolding indexed
indexed-length e [] x = refl
indexed-length e (u ∷ us) x = indexed-length (set e (1028 + u) x) us x ∙ length-set e (1028 + u) x

indexed-low : (e us : List ℕ) (x y : ℕ) → y < 1028 → get_or (indexed e us x) y 0 ≡ get_or e y 0
unfolding indexed
indexed-low e [] x y h = refl
indexed-low e (u ∷ us) x y h = indexed-low (set e (1028 + u) x) us x y h ∙ get_or-set_other e (1028 + u) y x 0 (λ q. omega arith)

indexed-other : (e us : List ℕ) (x u : ℕ) → has u us ≡ false → get_or (indexed e us x) (1028 + u) 0 ≡ get_or e (1028 + u) 0
unfolding indexed has
indexed-other e [] x u h = refl
indexed-other e (y ∷ us) x u h =
    let p = or-false (eqb u y) (has u us) h in
    indexed-other (set e (1028 + y) x) us x u p.1 ∙ get_or-set_other e (1028 + y) (1028 + u) x 0 (λ q. eqb-false u y p.0 (omega arith))

indexed-cell : (e us : List ℕ) (x u : ℕ) → 1028 + u < length e → has u us ≡ true → get_or (indexed e us x) (1028 + u) 0 ≡ x
unfolding indexed has
indexed-cell e [] x u low h = absurd (false≢true h)
indexed-cell e (y ∷ us) x u low h = go (has u us) refl h (indexed-cell (set e (1028 + y) x) us x u (simp length-set (omega arith)))
  where
    go : (b : Bool) → has u us ≡ b → or (eqb u y) b ≡ true → (has u us ≡ true → get_or (indexed (set e (1028 + y) x) us x) (1028 + u) 0 ≡ x) → get_or (indexed (set e (1028 + y) x) us x) (1028 + u) 0 ≡ x
    go true q z on = on q
    go false q z on =
        let same : u ≡ y = eqb-true u y (or-first (eqb u y) z) in
        indexed-other (set e (1028 + y) x) us x u q ∙ rw (← same) (get_or-set_same e (1028 + u) x 0 low)

indexed-step : (e us : List ℕ) (x j : ℕ) → j < length us → indexed e (drop j us) x ≡ indexed (set e (1028 + get_or us j 0) x) (drop (j + 1) us) x
unfolding indexed
indexed-step e us x j h = ap (λ (l : List ℕ). indexed e l x) (drop-step us j 0 h)

module _ (t : RegInfo) where
  -- what is below the index stays
  source-low : (e : List ℕ) (p : Place) (m y : ℕ) → y < 1028 → get_or (source_indexed t e p m) y 0 ≡ get_or e y 0
  source-low e (reg r) m y h = indexed-low e (reg_units t r) (stamp_of e * 128 + m) y h
  source-low e (slot s) m y h = refl

  source-length : (e : List ℕ) (p : Place) (m : ℕ) → length (source_indexed t e p m) ≡ 1541 → length e ≡ 1541
  source-length e (reg r) m h = sym (indexed-length e (reg_units t r) (stamp_of e * 128 + m)) ∙ h
  source-length e (slot s) m h = h

  source_told : (e : List ℕ) (p : Place) (m u : ℕ) → length e ≡ 1541 → u < 512 → has u (place_units t p) ≡ true → get_or (source_indexed t e p m) (1028 + u) 0 ≡ stamp_of e * 128 + m
  unfolding has
  source_told e (reg r) m u long low h = indexed-cell e (reg_units t r) (stamp_of e * 128 + m) u (omega arith) h
  source_told e (slot s) m u long low h = absurd (slot-high (eqb u (512 + s)) refl h)
    where
      slot-high : (b : Bool) → eqb u (512 + s) ≡ b → or b false ≡ true → ⊥
      slot-high true q z = let w : u ≡ 512 + s = eqb-true u (512 + s) q in omega arith
      slot-high false q z = false≢true z

  source-others : (e : List ℕ) (p : Place) (m u : ℕ) → has u (place_units t p) ≡ false → get_or (source_indexed t e p m) (1028 + u) 0 ≡ get_or e (1028 + u) 0
  source-others e (reg r) m u h = indexed-other e (reg_units t r) (stamp_of e * 128 + m) u h
  source-others e (slot s) m u h = refl

  -- the stamp is no unit's cell
  source-stamp : (e : List ℕ) (p : Place) (m : ℕ) → KnownPlace t p → get_or (source_indexed t e p m) 1540 0 ≡ get_or e 1540 0
  source-stamp e (reg r) m known =
      indexed-other e (reg_units t r) (stamp_of e * 128 + m) 512 (never_true (has 512 (reg_units t r)) (λ h. let l : 512 < 512 = known.low 512 h in omega arith))
  source-stamp e (slot s) m known = refl

  -- ---- 21 by the cells
  -- unit by unit
  pub clashes-all : (a : Sorted) (s : Place) → overlaps_source t a s ≡ any_in (clashes_at t a s) (place_units t s)
  unfolding clashes_at
  clashes-all a s =
      any_same (λ (m : KeptMove). and (overlap t m.source s) (no (same_place m.source s))) (λ (m : KeptMove). any_in (λ u. and (has u (place_units t m.source)) (no (same_place m.source s))) (place_units t s)) a.moves
      (λ m. ap (λ (b : Bool). and b (no (same_place m.source s))) (meets-comm (place_units t m.source) (place_units t s) ∙ meets_any (place_units t s) (place_units t m.source)) ∙ any-and (λ u. has u (place_units t m.source)) (no (same_place m.source s)) (place_units t s))
      ∙ any_swap (λ (m : KeptMove) u. and (has u (place_units t m.source)) (no (same_place m.source s))) a.moves (place_units t s)

  -- slots overlap only if they are equal
  pub slot-clear : (a : Sorted) (s : ℕ) → ((k : ℕ) → k < length a.moves → KnownPlace t (get_or a.moves k no_move).source) → overlaps_source t a (slot s) ≡ false
  slot-clear a s known =
      never_true (overlaps_source t a (slot s))
      (λ h. let k = any_where (λ (m : KeptMove). and (overlap t m.source (slot s)) (no (same_place m.source (slot s)))) a.moves no_move h in
      let p = (get_or a.moves k.0 no_move).source in
      false≢true (sym (rw (overlap-slot t p s (known k.0 k.1)) (and-not (same_place p (slot s)))) ∙ k.2))

source_is : (e : List ℕ) (m : ℕ) → m < length (sorted_of e).moves → (get_or (sorted_of e).moves m no_move).source ≡ place_at (get_or e (m * 4) 0)
unfolding move_at
source_is e m h = ap (λ (k : KeptMove). k.source) (kept-is e m h)

pub sourced : (t f e w : List ℕ) → Checked t f → EntriesOk t f e w → (sorted_of e).count < 128 → Sourced (reg_info_of t) e
sourced t f e w ok kept less =
    record {
      few = omega (arith, kept.few, kept-count e, remats-count e, scratch-count e);
      known = λ m h. (let l : m < length (sorted_of e).moves = rw (kept-count e) h in rw (source_is e m l) at (writable t f ok (get_or (sorted_of e).moves m no_move).source (kept.sorted.moves m l).source-named).known);
      indexed = kept.indexed;
      apart = kept.sorted.sources;
    }

sources-known : (t : RegInfo) (e : List ℕ) → Sourced t e → (k : ℕ) → k < length (sorted_of e).moves → KnownPlace t (get_or (sorted_of e).moves k no_move).source
sources-known t e so k h = rw (source_is e k h) (so.known k (rw (kept-count e) at h))

not-both : (b : Bool) → no b ≡ false → b ≡ true
not-both true e = refl
not-both false e = absurd (true≢false e)

-- a kept source that has a unit at which nothing clashes is register r
equal-at : (t : RegInfo) (a : Sorted) (r v : ℕ) → clashes_at t a (reg r) v ≡ false → (k : ℕ) → k < length a.moves → has v (place_units t (get_or a.moves k no_move).source) ≡ true → (get_or a.moves k no_move).source ≡ reg r
unfolding clashes_at
equal-at t a r v off k l on =
    let p = (get_or a.moves k no_move).source in
    same-is p (reg r) (not-both (same_place p (reg r)) (rw on at (any_at (λ (m : KeptMove). and (has v (place_units t m.source)) (no (same_place m.source (reg r)))) a.moves k no_move off l)))

-- where a kept source is register r, nothing that has a unit of it clashes
no-clash : (t : RegInfo) (a : Sorted) (r u : ℕ) → has u (reg_units t r) ≡ true
    → ((i k : ℕ) → i < length a.moves → k < length a.moves → same_place (get_or a.moves i no_move).source (get_or a.moves k no_move).source ≡ false → overlap t (get_or a.moves i no_move).source (get_or a.moves k no_move).source ≡ false)
    → (k : ℕ) → k < length a.moves → (get_or a.moves k no_move).source ≡ reg r → clashes_at t a (reg r) u ≡ true → ⊥
unfolding clashes_at
no-clash t a r u on apart k l is h =
    let i = any_where (λ (m : KeptMove). and (has u (place_units t m.source)) (no (same_place m.source (reg r)))) a.moves no_move h in
    let p = (get_or a.moves i.0 no_move).source in
    let w = and-true (has u (place_units t p)) (no (same_place p (reg r))) i.2 in
    let o : overlap t p (reg r) ≡ false = rw is at (apart i.0 k i.1 l (rw is (no_true (same_place p (reg r)) w.1))) in
    true≢false (sym on ∙ any-has (λ v. has v (reg_units t r)) (place_units t p) u (sym (meets_any (place_units t p) (reg_units t r)) ∙ o) w.0)

-- 21 at unit u, for a source that is register r: by what the cell of the unit tells
module _ (t : RegInfo) (e : List ℕ) (r u : ℕ) (low : u < 512) (so : SourcedAt t e u) where
  abbrev cell : ℕ
  cell = get_or e (1028 + u) 0

  abbrev clash : Bool
  clash = clashes_at t (sorted_of e) (reg r) u

  found : clash ≡ true → (p : Place) × Points t (sorted_of e) e u p × (same_place p (reg r) ≡ false) × (has u (place_units t p) ≡ true)
  unfolding clashes_at
  found h =
      let k = any_where (λ (m : KeptMove). and (has u (place_units t m.source)) (no (same_place m.source (reg r)))) (sorted_of e).moves no_move h in
      let p = (get_or (sorted_of e).moves k.0 no_move).source in
      let w = and-true (has u (place_units t p)) (no (same_place p (reg r))) k.2 in
      (p, so.indexed k.0 k.1 w.0, no_true (same_place p (reg r)) w.1, w.0)

  -- a cell of another patch
  pub older : (cell / 128 ≡ stamp_of e → ⊥) → clash ≡ false
  older h = never_true clash (λ c. let p = found c in h p.1.stamp)

  pub none_kept : get_or e 1024 0 ≤ cell % 128 → clash ≡ false
  none_kept h = never_true clash (λ c. let p = found c in omega (arith, p.1.kept, kept-count e))

  module _ (q : Place) (there : place_at (get_or e (cell % 128 * 4) 0) ≡ q) (kept : cell % 128 < get_or e 1024 0) where
    told-source : (get_or (sorted_of e).moves (cell % 128) no_move).source ≡ q
    told-source = source_is e (cell % 128) (rw (kept-count e) kept) ∙ there

    pub equal-there : q ≡ reg r → clash ≡ false
    equal-there is =
        never_true clash
        (λ c. let p = found c in true≢false (sym (same_self (reg r)) ∙ ap (λ (x : Place). same_place x (reg r)) (sym is ∙ sym told-source ∙ p.1.source) ∙ p.2))

    pub other-there : same_place q (reg r) ≡ false → clash ≡ has u (place_units t q)
    unfolding clashes_at
    other-there differ =
        both_ways clash (has u (place_units t q))
        (λ c. let p = found c in rw (sym p.1.source ∙ told-source) at p.3)
        (λ on. any-true (λ (m : KeptMove). and (has u (place_units t m.source)) (no (same_place m.source (reg r)))) (sorted_of e).moves (cell % 128) no_move (rw (kept-count e) kept) (rw (told-source, on, differ)))

    pub slot-there : (s : ℕ) → q ≡ slot s → clash ≡ false
    unfolding has
    slot-there s is =
        other-there (rw is) ∙ rw is (high (eqb u (512 + s)) refl)
      where
        high : (b : Bool) → eqb u (512 + s) ≡ b → or b false ≡ false
        high true q = let w : u ≡ 512 + s = eqb-true u (512 + s) q in absurd (omega arith)
        high false q = refl

-- ---- the cells of a register, one after the other
module _ (t : RegInfo) (e₀ : List ℕ) (r x : ℕ) where
  abbrev us : List ℕ
  us = reg_units t r

  abbrev at : ℕ → Bool
  at = clashes_at t (sorted_of e₀) (reg r)

  -- before unit j: none so far clashes, and only their cells are written
  pub record Indexing (e : List ℕ) (j : ℕ) : Type 0 where
    pub within : j ≤ length us
    pub clash : any_in at us ≡ any_in at (drop j us)
    pub all : indexed e₀ us x ≡ indexed e (drop j us) x
    pub low : (y : ℕ) → y < 1028 → get_or e y 0 ≡ get_or e₀ y 0
    pub stamp : get_or e 1540 0 ≡ get_or e₀ 1540 0
    pub next : (u : ℕ) → has u (drop j us) ≡ true → get_or e (1028 + u) 0 ≡ get_or e₀ (1028 + u) 0
    pub written : (u : ℕ) → (get_or e (1028 + u) 0 ≡ get_or e₀ (1028 + u) 0) ⊎ ((has u us ≡ true) × (at u ≡ false))

  pub indexing-start : Indexing e₀ 0
  indexing-start = record { within = omega arith; clash = refl; all = refl; low = λ y h. refl; stamp = refl; next = λ u h. refl; written = λ u. inl refl }

  module _ (so : Sourced t e₀) (known : KnownUnits t r) (once : twice (reg_units t r) ≡ false) (e : List ℕ) (j : ℕ) (i : Indexing e j) where
    same-sorted : sorted_of e ≡ sorted_of e₀
    same-sorted = low_same e₀ e i.low (omega (arith, so.few)) (omega (arith, so.few)) (omega (arith, so.few))

    module _ (below : j < length us) where
      abbrev u : ℕ
      u = get_or us j 0

      here : has u (drop j us) ≡ true
      unfolding has
      here = rw (drop-step us j 0 below, eq-eqb u u refl)

      pub unit-low : u < 512
      unit-low = known.low u (has_get_d us j below)

      pub looked-at : SourcedAt t e u
      looked-at =
          let c = i.next u here in
          record {
            few = rw (i.low 1024 (omega arith)) (omega (arith, so.few));
            known = λ m h. (let l : m < get_or e₀ 1024 0 = rw (i.low 1024 (omega arith)) at h in rw (i.low (m * 4) (omega (arith, so.few))) (so.known m l));
            indexed =
                rw same-sorted
                (λ k h on. (let p = so.indexed k u h unit-low on in record { stamp = rw (c, i.stamp) p.stamp; kept = rw c p.kept; source = rw c p.source }));
          }

      at-is : (o : Bool) → o ≡ clashes_at t (sorted_of e) (reg r) u → at u ≡ o
      at-is o h = sym (rw same-sorted at h)

      -- the unit clashes: none of the cells written is a kept source's
      pub indexing-clash : true ≡ clashes_at t (sorted_of e) (reg r) u → IndexedAs t e₀ e (reg r) true
      indexing-clash h =
          let hit = at-is true h in
          record {
            is = sym (clashes-all t (sorted_of e₀) (reg r) ∙ i.clash ∙ any_step at us j 0 below ∙ rw hit);
            low = i.low;
            yes = λ q. absurd (true≢false q);
            no = λ q. λ k v l m on. (let p = so.indexed k v l m on in by k v l on p (i.written v) hit);
          }
        where
          by : (k v : ℕ) → k < length (sorted_of e₀).moves → has v (place_units t (get_or (sorted_of e₀).moves k no_move).source) ≡ true → Points t (sorted_of e₀) e₀ v (get_or (sorted_of e₀).moves k no_move).source
              → (get_or e (1028 + v) 0 ≡ get_or e₀ (1028 + v) 0) ⊎ ((has v us ≡ true) × (at v ≡ false)) → at u ≡ true → Points t (sorted_of e₀) e v (get_or (sorted_of e₀).moves k no_move).source
          by k v l on p (inl c) hit = record { stamp = rw (c, i.stamp) p.stamp; kept = rw c p.kept; source = rw c p.source }
          by k v l on p (inr z) hit = absurd (no-clash t (sorted_of e₀) r u (has_get_d us j below) so.apart k l (equal-at t (sorted_of e₀) r v z.1 k l on) hit)

      -- it does not
      pub indexing-next : false ≡ clashes_at t (sorted_of e) (reg r) u → Indexing (set e (1028 + u) x) (j + 1)
      unfolding has
      indexing-next h =
          let miss = at-is false h in
          record {
            within = omega arith;
            clash = i.clash ∙ any_step at us j 0 below ∙ rw miss;
            all = i.all ∙ indexed-step e us x j below;
            low = λ y l. get_or-set_other e (1028 + u) y x 0 (λ q. omega arith) ∙ i.low y l;
            stamp = get_or-set_other e (1028 + u) 1540 x 0 (λ q. omega (arith, unit-low)) ∙ i.stamp;
            next = λ v l. get_or-set_other e (1028 + u) (1028 + v) x 0 (λ q. another v l (omega arith)) ∙ i.next v (later v l);
            written = λ v. cell v (eqb v u) refl miss;
          }
        where
          another : (v : ℕ) → has v (drop (j + 1) us) ≡ true → v ≡ u → ⊥
          another v l q = true≢false (sym l ∙ rw q (twice-at us j once below))

          later : (v : ℕ) → has v (drop (j + 1) us) ≡ true → has v (drop j us) ≡ true
          later v l = rw (drop-step us j 0 below) (or_right (eqb v u) (has v (drop (j + 1) us)) l)

          cell : (v : ℕ) (b : Bool) → eqb v u ≡ b → at u ≡ false → (get_or (set e (1028 + u) x) (1028 + v) 0 ≡ get_or e₀ (1028 + v) 0) ⊎ ((has v us ≡ true) × (at v ≡ false))
          cell v true q miss = let z : v ≡ u = eqb-true v u q in inr (rw z (has_get_d us j below, miss))
          cell v false q miss = over (get_or-set_other e (1028 + u) (1028 + v) x 0 (λ z. eqb-false v u q (omega arith))) (i.written v)
            where
              over : get_or (set e (1028 + u) x) (1028 + v) 0 ≡ get_or e (1028 + v) 0 → (get_or e (1028 + v) 0 ≡ get_or e₀ (1028 + v) 0) ⊎ ((has v us ≡ true) × (at v ≡ false))
                  → (get_or (set e (1028 + u) x) (1028 + v) 0 ≡ get_or e₀ (1028 + v) 0) ⊎ ((has v us ≡ true) × (at v ≡ false))
              over c (inl d) = inl (c ∙ d)
              over c (inr d) = inr d

    -- all are written
    pub indexing-done : length us ≤ j → x ≡ stamp_of e₀ * 128 + get_or e₀ 1024 0 → IndexedAs t e₀ e (reg r) false
    unfolding indexed any_in
    indexing-done end is =
        let gone = drop_of_length-le us {i = j} end in
        record {
          is = sym (clashes-all t (sorted_of e₀) (reg r) ∙ i.clash ∙ rw gone);
          low = i.low;
          yes = λ q. rw (← is) (sym (i.all ∙ rw gone));
          no = λ q. absurd (true≢false (sym q));
        }

-- a slot has no cell
pub slot-indexed : (t : RegInfo) (e : List ℕ) (s : ℕ) → Sourced t e → IndexedAs t e e (slot s) false
slot-indexed t e s so = record { is = sym (slot-clear t (sorted_of e) s (sources-known t e so)); low = λ y h. refl; yes = λ q. refl; no = λ q. absurd (true≢false (sym q)) }

-- ---- one entry more
-- the index, then the stores of a kept move, one after the other
pub kept-as : (t : RegInfo) (e e₁ e₂ w w' : List ℕ) (s d v : ℕ) → KnownPlace t (place_at s) → Sourced t e → IndexedAs t e e₁ (place_at s) false
    → e₂ ≡ counted_one (stored_move e₁ (get_or e₁ 1024 0) s d v) → length e₂ ≡ 1541 → Noted w w' (place_units t (place_at d)) (get_or e 1024 0) → KeptAs t e w e₂ w' s d v
kept-as t e e₁ e₂ w w' s d v known so i q long noted =
    let few : get_or e₁ 1024 0 + (get_or e₁ 1025 0 + get_or e₁ 1026 0) < 128 = rw (i.low 1024 (omega arith), i.low 1025 (omega arith), i.low 1026 (omega arith)) so.few in
    let m : get_or e₁ 1024 0 ≡ get_or e 1024 0 = i.low 1024 (omega arith) in
    let first : sorted_of e₁ ≡ sorted_of e = low_same e e₁ i.low (omega (arith, so.few)) (omega (arith, so.few)) (omega (arith, so.few)) in
    let stored = stored_move e₁ (get_or e₁ 1024 0) s d v in
    let long₀ : length e₁ ≡ 1541 = simp length-set at (rw q at long) in
    let long₁ : length stored ≡ 1541 = simp length-set long₀ in
    let long₂ : length e ≡ 1541 = source-length t e (place_at s) (get_or e 1024 0) (rw (i.yes refl) at long₀) in
    let done : sorted_of e₂ ≡ with_move (kept_move s d v) (sorted_of e₁) = kept-done e₁ few stored e₂ long₁ q s d v refl in
    let stayed : SameIndex e₁ e₂ = λ x h. rw q (counted-index stored x h ∙ move-index e₁ s d v (omega arith) x h) in
    let told : SameIndex (source_indexed t e (place_at s) (get_or e 1024 0)) e₂ = rw (i.yes refl) at stayed in
    record {
      sorted = rw first at done;
      noted = rw (kept-count e) noted;
      stamp = told 1540 (omega arith) ∙ source-stamp t e (place_at s) (get_or e 1024 0) known;
      told = λ u low on. told (1028 + u) (omega arith) ∙ rw (kept-count e) (source_told t e (place_at s) (get_or e 1024 0) u long₂ low on);
      others = λ u low off. told (1028 + u) (omega arith) ∙ source-others t e (place_at s) (get_or e 1024 0) u off;
    }

-- a rebuild or a dropped move
pub indexed-same : (t : RegInfo) (a b : Sorted) (e e' : List ℕ) → b.moves ≡ a.moves → SameIndex e e' → Indexed t a e → Indexed t b e'
indexed-same t a b e e' same cells h k u l low on =
    let p = h k u (rw same at l) low (rw same at on) in
    let c = cells (1028 + u) (omega arith) in
    rw same record { stamp = rw (c, cells 1540 (omega arith)) p.stamp; kept = rw c p.kept; source = rw c p.source }

-- a move that is kept
module _ (t : RegInfo) (f : Function) (e w e' w' : List ℕ) (s d v : ℕ) (few : length (sorted_of e).moves < 128) (old : Indexed t (sorted_of e) e) (done : KeptAs t e w e' w' s d v)
    (ok : SortedOk t f (with_move (kept_move s d v) (sorted_of e))) where
  abbrev l : List KeptMove
  l = (sorted_of e).moves

  abbrev a : Sorted
  a = with_move (kept_move s d v) (sorted_of e)

  last-source : (get_or a.moves (length l) no_move).source ≡ place_at s
  last-source = ap (λ (m : KeptMove). m.source) (end_is l (kept_move s d v) no_move)

  first-source : (k : ℕ) → k < length l → get_or a.moves k no_move ≡ get_or l k no_move
  first-source k h = get_or-append l (kept_move s d v ∷ []) no_move k h

  more : length a.moves ≡ length l + 1
  more = simp length-append

  -- a unit of the new source
  new-points : (u : ℕ) → u < 512 → has u (place_units t (place_at s)) ≡ true → Points t a e' u (place_at s)
  new-points u low on =
      let w = done.told u low on in
      let z : get_or e' (1028 + u) 0 % 128 ≡ length l = omega (arith, w) in
      record { stamp = rw done.stamp (omega (arith, w)); kept = omega (arith, more); source = rw z last-source }

  -- a unit of an older source alone
  old-points : (k u : ℕ) → k < length l → u < 512 → has u (place_units t (get_or l k no_move).source) ≡ true → has u (place_units t (place_at s)) ≡ false → Points t a e' u (get_or l k no_move).source
  old-points k u h low on off =
      let p = old k u h low on in
      let c = done.others u low off in
      record { stamp = rw (c, done.stamp) p.stamp; kept = rw c (omega (arith, p.kept, more)); source = rw c (ap (λ (m : KeptMove). m.source) (first-source _ p.kept) ∙ p.source) }

  -- an older source that has a unit of the new one is equal to it
  equal-source : (k u : ℕ) → k < length l → has u (place_units t (get_or l k no_move).source) ≡ true → has u (place_units t (place_at s)) ≡ true → (get_or l k no_move).source ≡ place_at s
  equal-source k u h on in-new = go (same_place (get_or l k no_move).source (place_at s)) refl
    where
      go : (b : Bool) → same_place (get_or l k no_move).source (place_at s) ≡ b → (get_or l k no_move).source ≡ place_at s
      go true q = same-is (get_or l k no_move).source (place_at s) q
      go false q =
          let o : overlap t (get_or l k no_move).source (place_at s) ≡ false = rw (first-source k h, last-source) at (ok.sources k (length l) (omega (arith, more)) (omega (arith, more)) (rw (first-source k h, last-source) q)) in
          absurd (true≢false (sym in-new ∙ any-has (λ u. has u (place_units t (place_at s))) (place_units t (get_or l k no_move).source) u (sym (meets_any _ _) ∙ o) on))

  pub indexed-kept : Indexed t a e'
  indexed-kept k u h low on = go (ltb k (length l)) refl
    where
      go : (b : Bool) → ltb k (length l) ≡ b → Points t a e' u (get_or a.moves k no_move).source
      go true q =
          let i = ltb-true k (length l) q in
          let here : has u (place_units t (get_or l k no_move).source) ≡ true = rw (first-source k i) at on in
          rw (first-source k i) (by (has u (place_units t (place_at s))) refl i here)
        where
          by : (b : Bool) → has u (place_units t (place_at s)) ≡ b → k < length l → has u (place_units t (get_or l k no_move).source) ≡ true → Points t a e' u (get_or l k no_move).source
          by true p i here = rw (equal-source k u i here p) (new-points u low p)
          by false p i here = old-points k u i low here p
      go false q =
          let i : k ≡ length l = omega (arith, ltb-false k (length l) q, more) in
          rw (i, last-source) (new-points u low (rw (i, last-source) at on))
