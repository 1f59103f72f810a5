-- The numbers of a call by groups: those of the whole patch, and then 17; where all entries are one group, `resolve`'s.
use Prim.Native.Nat.{ℕ, zero, suc, ◌+◌, ◌<◌, ◌≤◌}
use mathlib.Core.Path.{◌≡◌, refl, sym, ap, ◌∙◌, subst}
use mathlib.Core.Bool.{Bool, true, false}
use mathlib.Core.List.{List, [], ◌∷◌, ◌++◌, map, append-nil, append_assoc, Memᴰ}
use mathlib.Core.Option.{Option, none, some}
use mathlib.Core.Logic.{◌↔◌, ◌⊎◌, inl, inr, ⊎_elim}
use native.Mathlib.Omega.{arith}
use lib.Dec.{eqb}
use lib.ListN.{length, get_or}
use borrow.Author.Tests.{eq-eqb, ne_eqb, le-ltb}
use Rattle.entity.specs.Logic.{no, any_in, indices}
use Rattle.reginfo.specs.RegInfo.{RegInfo}
use Rattle.reginfo.specs.Refused as target
use Rattle.reginfo.specs.Refused.{refused_if, first_of}
use Rattle.reginfo.proofs.First.{first-none, none_first, given-first, first-given}
use Rattle.function.specs.Function.{Function}
use Rattle.rules.specs.Edit.{Edit, filter, and_then, each}
use Rattle.rules.specs.Scratch.{Cache, ScratchAllocator, unevict}
use Rattle.rules.specs.Order.{remats, start, moves}
use Rattle.rules.specs.Patch.{Entry, Patch, Sorted, nothing_sorted, destinations, Answer, refused, resolved, answer_of, unless_refused, cache_after, add, sorted_from, sorted, entry_conditions, patch_conditions, run, resolve_sorted, resolve_from, resolve}
use Rattle.rules.specs.Refusals.{entries_conditions, call_conditions, ran_out}
use Rattle.rules.proofs.Refusals as rules
use Rattle.rules.proofs.Steps.{Every}
use Rattle.group_rules.specs.Groups.{Together, near, chosen, firsts, part, labels_of, labels, labels_from, parts, greater, followed_by, resolve_parts, whole_conditions, resolve_by_groups}
use Rattle.group_rules.specs.Refusals.{no_entry, out_or, some_out, group_conditions, OnlySlots, GroupRefusals, OneGroup}
use Rattle.group_rules.proofs.Lists.{mem-has, first-both, first-join, first_some}
use Rattle.group_rules.proofs.Labelled.{labelled}
use Rattle.group_rules.proofs.Parts.{near-comm, part-passes}

module _ (t : RegInfo) (f : Function) where
  -- a patch that passes its tests is answered by its run
  module _ (p : Patch) (room : ℕ) (c : Cache) where
    entries-pass : (l : List Entry) (a : Sorted) → first_of (entries_conditions t f l a) ≡ none → resolve_from t f p room c l a ≡ resolve_sorted t f p room c (sorted_from t f l a)
    unfolding entries_conditions resolve_from sorted_from
    entries-pass [] a h = refl
    entries-pass (e ∷ l) a h =
        let q = first-both (entry_conditions t f a e) (entries_conditions t f l (add t f e a)) h in
        rw q.0 (entries-pass l (add t f e a) q.1)

    pub by-run : first_of (whole_conditions t f p room) ≡ none → resolve t f p room c ≡ answer_of (run t f p (sorted t f p) c)
    unfolding resolve resolve_sorted
    by-run h =
        let q = first-both (entries_conditions t f p.entries nothing_sorted) (patch_conditions t f p room (sorted t f p)) h in
        entries-pass p.entries nothing_sorted q.0 ∙ ap (λ (o : Option ℕ). unless_refused o (answer_of (run t f p (sorted t f p) c))) q.1

    -- one that does not is refused
    pub by_number : (n : ℕ) → first_of (whole_conditions t f p room) ≡ some n → resolve t f p room c ≡ refused n
    unfolding call_conditions
    by_number n h =
        ((rules.refusals t f p room c).given n).1
        (first-given (call_conditions t f p room c) n
        (ap first_of (sym (append_assoc (entries_conditions t f p.entries nothing_sorted) (patch_conditions t f p room (sorted t f p)) (refused_if 17 (ran_out (run t f p (sorted t f p) c)) ∷ [])))
        ∙ first_some (whole_conditions t f p room) (refused_if 17 (ran_out (run t f p (sorted t f p) c)) ∷ []) n h))

  -- ---- groups one after the other, each of which passes its tests
  abbrev pub Passing : ℕ → List Patch → Type 0
  Passing room l = Every (λ (q : Patch). first_of (whole_conditions t f q room) ≡ none) l

  -- one is out of slots, or all are resolved
  abbrev Ends : List Patch → ℕ → Cache → Type 0
  Ends l room c =
      ((some_out t f l c ≡ true) × (resolve_parts t f l room c ≡ refused 17))
      ⊎ ((some_out t f l c ≡ false) × ((es : List Edit) × (c' : Cache) × (m : ℕ) × (resolve_parts t f l room c ≡ resolved es c' m)))

  parts-end : (l : List Patch) (room : ℕ) (c : Cache) → Passing room l → Ends l room c
  unfolding some_out resolve_parts
  parts-end [] room c h = inr (refl, ([], c, 0, refl))
  parts-end (q ∷ l) room c h =
      let e = by-run q room c h.0 in
      go (run t f q (sorted t f q) c) e (λ c'. parts-end l room c' h.1)
    where
      go : (o : Option ScratchAllocator) → resolve t f q room c ≡ answer_of o → ((c' : Cache) → Ends l room c')
          → ((out_or o (λ c'. some_out t f l c') ≡ true) × (followed_by (resolve t f q room c) (λ c'. resolve_parts t f l room c') ≡ refused 17))
          ⊎ ((out_or o (λ c'. some_out t f l c') ≡ false) × ((es : List Edit) × (c' : Cache) × (m : ℕ) × (followed_by (resolve t f q room c) (λ c'. resolve_parts t f l room c') ≡ resolved es c' m)))
      go none e on = inl (refl, rw e)
      go (some k) e on =
          ⊎_elim (λ h. inl (h.0, rw (e, h.1)))
          (λ h. inr (h.0, (k.edits ++ h.1.0, h.1.1, greater k.met h.1.2, rw (e, h.1.3)))) (on k.cache)

  every_map : (room : ℕ) (g : ℕ → Patch) (l : List ℕ) → ((x : ℕ) → Memᴰ x l → first_of (whole_conditions t f (g x) room) ≡ none) → Passing room (map g l)
  every_map room g [] h = tt
  every_map room g (x ∷ l) h = (h x (Memᴰ.head refl), every_map room g l (λ y m. h y (Memᴰ.tail m)))

  -- of a patch that passes its tests each group does
  pub parts-pass : target.Accepted t → (p : Patch) (room : ℕ) → first_of (whole_conditions t f p room) ≡ none → Passing room (parts t p)
  unfolding parts
  parts-pass ta p room h =
      let q = first-both (entries_conditions t f p.entries nothing_sorted) (patch_conditions t f p room (sorted t f p)) h in
      every_map room (part t p (labels_of t p)) (firsts (labels_of t p)) (λ g m. part-passes t f ta p q.0 room q.1 g (mem-has g (firsts (labels_of t p)) m))

  every-mem : (room : ℕ) (l : List Patch) → Passing room l → (q : Patch) → Memᴰ q l → first_of (whole_conditions t f q room) ≡ none
  every-mem room [] h q x'' = elim x'' [ ]
  every-mem room (x ∷ l) h q (Memᴰ.head e) = subst (λ (z : Patch). first_of (whole_conditions t f z room) ≡ none) (sym e) h.0
  every-mem room (x ∷ l) h q (Memᴰ.tail m) = every-mem room l h.1 q m

  pub only-slots : OnlySlots t f
  only-slots ta p room h q m = first-none _ (every-mem room (parts t p) (parts-pass ta p room (none_first _ h)) q m)

  -- ---- the answer and the first condition that holds
  abbrev Agree : Answer → Option ℕ → Type 0
  Agree r o = ((n : ℕ) × (r ≡ refused n) × (o ≡ some n)) ⊎ (((es : List Edit) × (c : Cache) × (m : ℕ) × (r ≡ resolved es c m)) × (o ≡ none))

  agree : target.Accepted t → (p : Patch) (room : ℕ) (c : Cache) → Agree (resolve_by_groups t f p room c) (first_of (group_conditions t f p room c))
  unfolding resolve_by_groups group_conditions first_of
  agree ta p room c = go (first_of (whole_conditions t f p room)) refl
    where
      go : (o : Option ℕ) → first_of (whole_conditions t f p room) ≡ o
          → Agree (unless_refused (first_of (whole_conditions t f p room)) (resolve_parts t f (parts t p) room c)) (first_of (whole_conditions t f p room ++ (refused_if 17 (some_out t f (parts t p) c) ∷ [])))
      go (some n) e = inl (n, rw e, first_some (whole_conditions t f p room) _ n e)
      go none e =
          let j = first-join (whole_conditions t f p room) (refused_if 17 (some_out t f (parts t p) c) ∷ []) e in
          ⊎_elim (λ h. inl (17, rw (e, h.1), j ∙ rw h.0)) (λ h. inr ((h.1.0, h.1.1, h.1.2, rw e h.1.3), j ∙ rw h.0)) (parts-end (parts t p) room c (parts-pass ta p room e))

  agree-given : (r : Answer) (o : Option ℕ) (n : ℕ) → Agree r o → (r ≡ refused n) ↔ (o ≡ some n)
  agree-given r o n (inl h) = (λ e. let z : h.0 ≡ n = cc in h.2 ∙ ap some z, λ e. let z : h.0 ≡ n = cc in h.1 ∙ ap refused z)
  agree-given r o n (inr h) = (λ e. let z : ◌≡◌ {A = ℕ} 0 1 = cc in absurd (omega arith), λ e. let z : ◌≡◌ {A = ℕ} 0 1 = cc in absurd (omega arith))

  agree-taken : (r : Answer) (o : Option ℕ) → Agree r o → ((es : List Edit) × (c : Cache) × (m : ℕ) × (r ≡ resolved es c m)) ↔ (o ≡ none)
  agree-taken r o (inl h) = (λ e. let k = e.3 in let z : ◌≡◌ {A = ℕ} 0 1 = cc in absurd (omega arith), λ e. let z : ◌≡◌ {A = ℕ} 0 1 = cc in absurd (omega arith))
  agree-taken r o (inr h) = (λ e. h.1, λ e. h.0)

  pub group-refusals : GroupRefusals t f
  group-refusals ta p room c =
      let a = agree ta p room c in
      record {
        given = λ n. (
          λ e. first-given (group_conditions t f p room c) n ((agree-given _ _ n a).0 e),
          λ g. (agree-given _ _ n a).1 (given-first (group_conditions t f p room c) n g),
        );
        taken = (λ w. first-none (group_conditions t f p room c) ((agree-taken _ _ a).0 w), λ h. (agree-taken _ _ a).1 (none_first (group_conditions t f p room c) h));
        cache-stays = λ n e. ap (cache_after c) e;
      }

-- ---- one group
-- a filter that passes all
filter-all : (q : ℕ → Bool) (l : List ℕ) → ((x : ℕ) → q x ≡ true) → filter q l ≡ l
unfolding filter
filter-all q [] h = refl
filter-all q (x ∷ l) h = rw (h x) (ap (x ∷◌) (filter-all q l h))

filter_none : (q : ℕ → Bool) (i n : ℕ) → ((x : ℕ) → i ≤ x → q x ≡ false) → filter q (indices i n) ≡ []
unfolding filter indices
filter_none q i zero h = refl
filter_none q i (suc n) h = rw (h i (omega arith)) (filter_none q (i + 1) n (λ x k. h x (omega arith)))

-- all labels are 0
abbrev Zeros : List ℕ → Type 0
Zeros ls = (i : ℕ) → i < length ls → get_or ls i 0 ≡ 0

chosen-all : (ls : List ℕ) (es : List Entry) → length ls ≡ length es → Zeros ls → chosen (λ x. eqb x 0) ls es ≡ es
unfolding chosen
chosen-all [] [] n z = refl
chosen-all [] (e ∷ es) n z = absurd (omega arith)
chosen-all (x ∷ ls) [] n z = refl
chosen-all (x ∷ ls) (e ∷ es) n z = rw (eq-eqb x 0 (z 0 (omega arith))) (ap (e ∷◌) (chosen-all ls es (omega arith) (λ i h. z (suc i) (omega arith))))

chosen_none : (ls : List ℕ) (es : List Entry) → Zeros ls → chosen (λ x. no (eqb x 0)) ls es ≡ []
unfolding chosen
chosen_none [] es z = refl
chosen_none (x ∷ ls) [] z = refl
chosen_none (x ∷ ls) (e ∷ es) z = rw (eq-eqb x 0 (z 0 (omega arith))) (chosen_none ls es (λ i h. z (suc i) (omega arith)))

-- past the end the default is read
get_d-zero : (ls : List ℕ) → Zeros ls → (i : ℕ) → get_or ls i 0 ≡ 0
get_d-zero [] z i = refl
get_d-zero (x ∷ ls) z zero = z 0 (omega arith)
get_d-zero (x ∷ ls) z (suc i) = get_d-zero ls (λ j h. z (suc j) (omega arith)) i

firsts-one : (ls : List ℕ) → Zeros ls → 0 < length ls → firsts ls ≡ 0 ∷ []
unfolding firsts filter indices
firsts-one [] z h = absurd (omega arith)
firsts-one (x ∷ l) z h =
    rw (eq-eqb x 0 (z 0 (omega arith))) (ap (0 ∷◌) (filter_none (λ g. eqb (get_or (x ∷ l) g 0) g) 1 (length l) (λ y k. ne_eqb (get_or (x ∷ l) y 0) y (λ e. let w = get_d-zero (x ∷ l) z y in omega arith))))

alone : (r : Answer) → followed_by r (λ c. resolved [] c 0) ≡ r
alone (refused n) = refl
alone (resolved es c m) = rw (append-nil es, le-ltb m 0 (omega arith))

module _ (t : RegInfo) (f : Function) where
  tested-first : (p : Patch) (room : ℕ) (c : Cache) (o : Option ℕ) → first_of (whole_conditions t f p room) ≡ o → unless_refused o (resolve t f p room c) ≡ resolve t f p room c
  tested-first p room c (some n) e = sym (by_number t f p room c n e)
  tested-first p room c none e = refl

  part-all : (p : Patch) → length (labels_of t p) ≡ length p.entries → Zeros (labels_of t p) → part t p (labels_of t p) 0 ≡ p
  unfolding part any_in
  part-all p n z =
      rw (chosen-all (labels_of t p) p.entries n z, chosen_none (labels_of t p) p.entries z) (ap (λ (l : List ℕ). record { free = l; entries = p.entries }) (filter-all (λ u. true) p.free (λ u. refl)))

  -- of entries that all belong together each has the first's label
  all-zeros : (p : Patch) → ((i j : ℕ) → i < length p.entries → j < length p.entries → Together (near t) no_entry p.entries i j) → Zeros (labels_of t p)
  all-zeros p h i k =
      let n = labelled Entry (near t) (near-comm t) no_entry p.entries in
      let il : i < length p.entries = omega (arith, n.each) in
      let z = n.first 0 (omega arith) in
      (n.together i 0 il (omega arith)).1 (h i 0 il (omega arith)) ∙ omega (arith, z)

  -- some entries
  some-group : (p : Patch) (room : ℕ) (c : Cache) → 0 < length p.entries
      → ((i j : ℕ) → i < length p.entries → j < length p.entries → Together (near t) no_entry p.entries i j) → resolve_by_groups t f p room c ≡ resolve t f p room c
  unfolding resolve_by_groups parts resolve_parts
  some-group p room c n h =
      let z = all-zeros p h in
      let e : length (labels_of t p) ≡ length p.entries = (labelled Entry (near t) (near-comm t) no_entry p.entries).each in
      let g : firsts (labels_of t p) ≡ 0 ∷ [] = firsts-one (labels_of t p) z (omega arith) in
      rw (g, part-all p e z, alone (resolve t f p room c)) (tested-first p room c (first_of (whole_conditions t f p room)) refl)

  -- none: there is nothing to do
  no-group : (free : List ℕ) (room : ℕ) (c : Cache) → resolve_by_groups t f (record { free = free; entries = [] }) room c ≡ resolve t f (record { free = free; entries = [] }) room c
  unfolding resolve_by_groups parts resolve_parts entries_conditions patch_conditions destinations firsts filter indices resolve resolve_from resolve_sorted run each and_then remats moves start unevict any_in labels labels_from sorted_from
  no-group free room c = refl

  pub one-group : OneGroup t f
  one-group p room c h = go p.entries p.free h
    where
      go : (es : List Entry) (free : List ℕ) → ((i j : ℕ) → i < length es → j < length es → Together (near t) no_entry es i j)
          → resolve_by_groups t f (record { free = free; entries = es }) room c ≡ resolve t f (record { free = free; entries = es }) room c
      go [] free h = no-group free room c
      go (e ∷ es) free h = some-group (record { free = free; entries = e ∷ es }) room c (omega arith) h
