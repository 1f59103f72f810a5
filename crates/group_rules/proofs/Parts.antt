-- The groups of a patch that has passed its tests: what their entries become, and that each passes its own tests.
use Prim.Native.Nat.{ℕ, zero, suc, ◌+◌, ◌<◌, ◌≤◌}
use mathlib.Core.Path.{◌≡◌, refl, sym, ap, ◌∙◌, subst, fun_ext}
use mathlib.Core.Bool.{Bool, true, false, false≢true}
use mathlib.Core.List.Memᴰ
use mathlib.Core.List.{List, [], ◌∷◌}
use mathlib.Core.Option.{none}
use mathlib.Core.Logic.{⊎_elim}
use native.Mathlib.Omega.{arith}
use lib.Dec.{eqb, ltb}
use lib.ListN.{length, get_or}
use borrow.Author.Tests.{eqb-true, eqb-false, eq-eqb, ltb-true, ltb-false, le-ltb}
use Rattle.entity.specs.Logic.{pick, or, no, has, meets, twice, indices}
use Rattle.entity.specs.Place.{Place, reg, slot}
use Rattle.entity.proofs.Laws.{or-false, no_false, never_true, has_get_d, meets-comm}
use Rattle.reginfo.specs.RegInfo.{RegInfo, num_regs, place_units, reg_units}
use Rattle.reginfo.specs.Refused as target
use Rattle.reginfo.specs.Refused.{first_of}
use Rattle.reginfo.proofs.First.{first-none}
use Rattle.reginfo.proofs.Accepted.{width_fits}
use Rattle.function.specs.Function.{Function, num_values}
use Rattle.rules.specs.Scratch.{units_of_reg}
use Rattle.rules.specs.Patch.{Entry, move, remat, Patch, Sorted, nothing_sorted, destinations, bound, add, sorted_from, sorted, names_place, entry_conditions, free_destination, last_overlaps, patch_conditions}
use Rattle.rules.specs.Refusals.{entries_conditions}
use Rattle.group_rules.specs.Groups.{link, near, entry_units, chosen, firsts, held_by_another, part, labels_of, whole_conditions}
use Rattle.group_rules.specs.Labelled.{Labelled}
use Rattle.group_rules.specs.Refusals.{no_entry}
use Rattle.group_rules.proofs.Labelled.{labelled}
use Rattle.group_rules.proofs.Lists.{not-then, or_left, or_case, any-mem, mem-any, any-sub, meet, met, filter-has, has-filter, filter-once, total, total-holds, every_first, first-both, first-join}
use Rattle.group_rules.proofs.Split.{Split, after, Solid, split-add, entry-passes, dests-less}

has-indices : (i n x : ℕ) → i ≤ x → x < i + n → has x (indices i n) ≡ true
unfolding has indices
has-indices i zero x a b = absurd (omega arith)
has-indices i (suc n) x a b = go (eqb x i) refl (λ h. has-indices (i + 1) n x h (omega arith))
  where
    go : (c : Bool) → eqb x i ≡ c → (i + 1 ≤ x → has x (indices (i + 1) n) ≡ true) → or c (has x (indices (i + 1) n)) ≡ true
    go true e h = refl
    go false e h = h (let y = eqb-false x i e in omega arith)

indices-from : (i n x : ℕ) → has x (indices i n) ≡ true → i ≤ x
unfolding has indices
indices-from i zero x e = absurd (false≢true e)
indices-from i (suc n) x e = ⊎_elim (λ h. let y = eqb-true x i h in omega arith) (λ h. let y = indices-from (i + 1) n x h in omega arith) (or_case (eqb x i) (has x (indices (i + 1) n)) e)

indices-once : (i n : ℕ) → twice (indices i n) ≡ false
unfolding twice indices
indices-once i zero = refl
indices-once i (suc n) = rw (never_true (has i (indices (i + 1) n)) (λ h. let y = indices-from (i + 1) n i h in omega arith)) (indices-once (i + 1) n)

total-zero : (l : List ℕ) → 0 ≡ total (λ g. 0) l
unfolding total
total-zero [] = refl
total-zero (g ∷ l) = let e = total-zero l in omega arith

pub near-comm : (t : RegInfo) (x y : Entry) → near t x y ≡ near t y x
near-comm t x y = meets-comm (entry_units t x) (entry_units t y)

-- a place that the function has is of some unit
solid-place : (t : RegInfo) (f : Function) → target.Accepted t → (d : Place) → names_place t f d ≡ true → (u : ℕ) × (has u (place_units t d) ≡ true)
unfolding has
solid-place t f ta (reg r) e =
    let w = (width_fits t ta r (ltb-true r (num_regs t) e)).0 in
    (get_or (reg_units t r) 0 0, has_get_d (reg_units t r) 0 (omega arith))
solid-place t f ta (slot s) e = (512 + s, or_left (eqb (512 + s) (512 + s)) false (eq-eqb (512 + s) (512 + s) refl))

module _ (t : RegInfo) (f : Function) (ta : target.Accepted t) where
  module _ (Own : ℕ → Entry → Type 0) (sep : (x y : ℕ) (e e' : Entry) → Own x e → Own y e' → near t e e' ≡ true → x ≡ y) (gs : List ℕ) (once : twice gs ≡ false) (covers : (g : ℕ) (e : Entry) → Own g e → has g gs ≡ true) where
    solid : (a : Sorted) (e : Entry) → first_of (entry_conditions t f a e) ≡ none → Solid t f Own sep e
    unfolding entry_conditions
    solid a (move s d v) h =
        let q = or-false (no (names_place t f s)) (or (no (names_place t f d)) (no (ltb v (num_values f)))) (first-none _ h 1 (omega arith)) in
        solid-place t f ta d (no_false _ (or-false (no (names_place t f d)) (no (ltb v (num_values f))) q.1).0)
    solid a (remat d v) h = tt

    -- each entry is of the group that its label names
    abbrev AllOwn : List ℕ → List Entry → Type 0
    AllOwn [] [] = Unit {0}
    AllOwn [] (e ∷ es) = ⊥
    AllOwn (x ∷ ls) [] = ⊥
    AllOwn (x ∷ ls) (e ∷ es) = Own x e × AllOwn ls es

    pub all_own : (ls : List ℕ) (es : List Entry) → length ls ≡ length es → ((i : ℕ) → i < length es → Own (get_or ls i 0) (get_or es i no_entry)) → AllOwn ls es
    all_own [] [] n h = tt
    all_own [] (e ∷ es) n h = omega arith
    all_own (x ∷ ls) [] n h = omega arith
    all_own (x ∷ ls) (e ∷ es) n h = (h 0 (omega arith), all_own ls es (omega arith) (λ i k. h (suc i) (omega arith)))

    abbrev Passes : List ℕ → List Entry → (ℕ → Sorted) → Type 0
    Passes ls es b = (g : ℕ) → first_of (entries_conditions t f (chosen (λ x. eqb x g) ls es) (b g)) ≡ none

    abbrev Parted : List ℕ → List Entry → Sorted → (ℕ → Sorted) → Type 0
    Parted ls es a b = Split t f Own sep gs (sorted_from t f es a) (λ g. sorted_from t f (chosen (λ x. eqb x g) ls es) (b g)) × Passes ls es b

    module _ (x : ℕ) (e : Entry) (ls : List ℕ) (es : List Entry) (b : ℕ → Sorted) where
      same-sorted : (g : ℕ) (c : Bool)
          → sorted_from t f (chosen (λ y. eqb y g) ls es) (pick c (add t f e (b g)) (b g)) ≡ sorted_from t f (pick c (e ∷ chosen (λ y. eqb y g) ls es) (chosen (λ y. eqb y g) ls es)) (b g)
      unfolding sorted_from
      same-sorted g true = refl
      same-sorted g false = refl

      passes_on : (g : ℕ) (c : Bool) → eqb x g ≡ c → (x ≡ g → first_of (entry_conditions t f (b g) e) ≡ none)
          → first_of (entries_conditions t f (chosen (λ y. eqb y g) ls es) (pick c (add t f e (b g)) (b g))) ≡ none
          → first_of (entries_conditions t f (pick c (e ∷ chosen (λ y. eqb y g) ls es) (chosen (λ y. eqb y g) ls es)) (b g)) ≡ none
      unfolding entries_conditions
      passes_on g true k h on = first-join (entry_conditions t f (b g) e) _ (h (eqb-true x g k)) ∙ on
      passes_on g false k h on = on

    pub parted : (ls : List ℕ) (es : List Entry) (a : Sorted) (b : ℕ → Sorted) → AllOwn ls es → first_of (entries_conditions t f es a) ≡ none → Split t f Own sep gs a b → Parted ls es a b
    unfolding sorted_from chosen entries_conditions first_of
    parted [] [] a b o h s = (s, λ g. refl)
    parted [] (e ∷ es) a b o h s = absurd o
    parted (x ∷ ls) [] a b o h s = absurd o
    parted (x ∷ ls) (e ∷ es) a b o h s =
        let q = first-both (entry_conditions t f a e) (entries_conditions t f es (add t f e a)) h in
        let so = solid a e q.0 in
        let r = parted ls es (add t f e a) (after t f Own sep x e b) o.1 q.1 (split-add t f Own sep gs once a b s x e o.0 so (covers x e o.0)) in (
          subst (Split t f Own sep gs (sorted_from t f es (add t f e a))) (fun_ext (λ g. same-sorted x e ls es b g (eqb x g))) r.0,
          λ g. passes_on x e ls es b g (eqb x g) refl (λ y. subst (λ (z : ℕ). first_of (entry_conditions t f (b z) e) ≡ none) y (entry-passes t f Own sep gs once a b s x e o.0 so q.0)) (r.1 g),
        )

  -- ---- the groups of one patch
  module _ (p : Patch) where
    pub lab : Labelled (near t) no_entry p.entries (labels_of t p)
    lab = labelled Entry (near t) (near-comm t) no_entry p.entries

    abbrev pub ls : List ℕ
    ls = labels_of t p

    abbrev pub gs : List ℕ
    gs = firsts (labels_of t p)

    abbrev pub Own : ℕ → Entry → Type 0
    Own g e = (i : ℕ) × (i < length p.entries) × (get_or ls i 0 ≡ g) × (get_or p.entries i no_entry ≡ e)

    pub sep : (x y : ℕ) (e e' : Entry) → Own x e → Own y e' → near t e e' ≡ true → x ≡ y
    sep x y e e' a b h =
        sym a.2 ∙ (lab.together a.0 b.0 a.1 b.1).1 (link a.0 b.0 a.1 b.1 (rw (a.3, b.3) h)) ∙ b.2

    pub covers : (g : ℕ) (e : Entry) → Own g e → has g gs ≡ true
    unfolding firsts
    covers g e o =
        let i = o.0 in
        let le : get_or ls i 0 ≤ i = lab.first i o.1 in
        let n : length ls ≡ length p.entries = lab.each in
        let gi : get_or ls i 0 ≡ g = o.2 in
        let il : i < length p.entries = o.1 in
        has-filter (λ x. eqb (get_or ls x 0) x) (indices 0 (length ls)) g (has-indices 0 (length ls) g (omega arith) (omega arith))
        (eq-eqb (get_or ls g 0) g (ap (λ (z : ℕ). get_or ls z 0) (sym gi) ∙ lab.named i il ∙ gi))

    pub once : twice gs ≡ false
    unfolding firsts
    once = filter-once (λ x. eqb (get_or ls x 0) x) (indices 0 (length ls)) (indices-once 0 (length ls))

    module _ (h : first_of (entries_conditions t f p.entries nothing_sorted) ≡ none) where
      start : Split t f Own sep gs nothing_sorted (λ g. nothing_sorted)
      start =
          record {
            piece = λ g. record { moves = λ x m. m; own = λ m q. absurd (Memᴰ.not-nil q); remats = λ x m. m; scratched = λ x m. m; count = omega arith };
            somewhere = λ m q. absurd (Memᴰ.not-nil q);
            bounds = total-zero gs;
          }

      whole : Parted Own sep gs once covers ls p.entries nothing_sorted (λ g. nothing_sorted)
      whole = parted Own sep gs once covers ls p.entries nothing_sorted (λ g. nothing_sorted) (all_own Own sep gs once covers ls p.entries lab.each (λ i k. (i, k, refl, refl))) h start

      -- what the groups' entries become is what those of the whole patch become, split
      pub split : Split t f Own sep gs (sorted t f p) (λ g. sorted t f (part t p ls g))
      unfolding part
      split = whole.0

      module _ (room : ℕ) (k : first_of (patch_conditions t f p room (sorted t f p)) ≡ none) (g : ℕ) where
        free-less : (u : ℕ) → has u (part t p ls g).free ≡ true → has u p.free ≡ true
        unfolding part
        free-less u e = (filter-has (λ u. no (held_by_another t ls p.entries g u)) p.free u e).0

        meets-less : (d : Place) → meets (units_of_reg t f d) (part t p ls g).free ≡ true → meets (units_of_reg t f d) p.free ≡ true
        meets-less d e = let w = met (units_of_reg t f d) (part t p ls g).free e in meet w.0 (units_of_reg t f d) p.free w.1 (free-less w.0 w.2)

        no-free : free_destination t f (part t p ls g) (sorted t f (part t p ls g)) ≡ false
        unfolding patch_conditions
        no-free =
            not-then (free_destination t f p (sorted t f p)) (free_destination t f (part t p ls g) (sorted t f (part t p ls g)))
            (λ e. let w = any-mem (λ d. meets (units_of_reg t f d) (part t p ls g).free) (destinations (sorted t f p)) (dests-less t f Own sep gs once (sorted t f p) (λ g. sorted t f (part t p ls g)) split g (λ d. meets (units_of_reg t f d) (part t p ls g).free) e) in
            mem-any (λ d. meets (units_of_reg t f d) p.free) (destinations (sorted t f p)) w.0 w.1 (meets-less w.0 w.2)) (first-none _ k 0 (omega arith))

        no_last : last_overlaps t f (sorted t f (part t p ls g)) ≡ false
        unfolding patch_conditions
        no_last = not-then (last_overlaps t f (sorted t f p)) (last_overlaps t f (sorted t f (part t p ls g))) (any-sub _ (sorted t f (part t p ls g)).remats_with_scratch (sorted t f p).remats_with_scratch (split.piece g).scratched) (first-none _ k 1 (omega arith))

        pub bound-less : has g gs ≡ true → bound (sorted t f (part t p ls g)) ≤ bound (sorted t f p)
        bound-less m = rw split.bounds (total-holds (λ g. bound (sorted t f (part t p ls g))) gs g m)

        room-less : has g gs ≡ true → ltb room (bound (sorted t f (part t p ls g))) ≡ false
        unfolding patch_conditions
        room-less m =
            let b = bound-less m in
            let r = ltb-false room (bound (sorted t f p)) (first-none _ k 2 (omega arith)) in
            le-ltb room (bound (sorted t f (part t p ls g))) (omega (arith, b, r))

        own-entries : first_of (entries_conditions t f (part t p ls g).entries nothing_sorted) ≡ none
        unfolding part
        own-entries = whole.1 g

        -- each group passes its own tests
        pub part-passes : has g gs ≡ true → first_of (whole_conditions t f (part t p ls g) room) ≡ none
        unfolding patch_conditions
        part-passes m =
            first-join (entries_conditions t f (part t p ls g).entries nothing_sorted) _ own-entries
            ∙ every_first (patch_conditions t f (part t p ls g) room (sorted t f (part t p ls g))) (no-free, (no_last, (room-less m, tt)))
