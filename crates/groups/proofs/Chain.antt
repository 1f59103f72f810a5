-- The entries of a group, one after the other; and which units are free for it.
use Prim.Native.Nat.{ℕ, zero, suc, ◌+◌, ◌-◌, ◌<◌, ◌≤◌}
use mathlib.Core.Path.{◌≡◌, refl, sym, ap, ◌∙◌, subst}
use mathlib.Core.Bool.{Bool, true, false, false≢true}
use mathlib.Core.List.{List, [], ◌∷◌}
use mathlib.Core.Logic.{◌⊎◌, inl, inr}
use native.Mathlib.Omega.{arith}
use lib.Dec.{eqb}
use lib.ListN.{length, get_or, drop, drop_of_length-le}
use borrow.Author.Tests.{eqb-true, eq-eqb, ne_eqb}
use Rattle.entity.specs.Logic.{pick, and, or, no, any_in, has}
use Rattle.entity.proofs.Laws.{drop-step, and-true}
use Rattle.reginfo.specs.RegInfo.{RegInfo}
use Rattle.rules.specs.Edit.{filter}
use Rattle.rules.specs.Patch.{Entry, move, remat}
use Rattle.small_set.specs.Set.{set_of}
use Rattle.group_rules.specs.Groups.{link, near, source_units, entry_units, held_by_another, chosen, part, labels}
use Rattle.group_rules.specs.Refusals.{no_entry}
use Rattle.group_rules.proofs.Labelled.{labelled}
use Rattle.group_rules.proofs.Lists.{same_test, any-mem, or_left, has-append, meet, filter-has, has-filter}
use Rattle.group_rules.proofs.Joined.{chosen-from}
use Rattle.group_rules.proofs.Parts.{near-comm}
use Rattle.parallel_moves.specs.Given.{entries_of}
use Rattle.groups.specs.Given.{labels_in}
use Rattle.groups.specs.Linked.{next_of, Linked}
use Rattle.groups.specs.Free.{Closed, Reopened, CommonAs, FreeAs}

module _ (ls : List ℕ) (es : List Entry) (n : ℕ) (g : ℕ) where
  -- those from i on
  abbrev pub rest : ℕ → List Entry
  rest i = chosen (λ x. eqb x g) (drop i ls) (drop i es)

  -- l are those from entry k on; at the end k is 255
  abbrev pub At : ℕ → List Entry → Type 0
  At k l = ((k ≡ 255) × (l ≡ [])) ⊎ ((k < n) × (get_or ls k 0 ≡ g) × (l ≡ get_or es k no_entry ∷ rest (k + 1)))

module _ (ls : List ℕ) (es : List Entry) (n : ℕ) (g : ℕ) (ln : length ls ≡ n) (en : length es ≡ n) where
  abbrev from : ℕ → List Entry
  from i = rest ls es n g i

  abbrev Stands : ℕ → List Entry → Type 0
  Stands k l = At ls es n g k l

  rest-step : (i : ℕ) → i < n → from i ≡ pick (eqb (get_or ls i 0) g) (get_or es i no_entry ∷ from (i + 1)) (from (i + 1))
  unfolding chosen
  rest-step i h = rw (drop-step ls i 0 (omega arith), drop-step es i no_entry (omega arith))

  rest_end : (i : ℕ) → n ≤ i → from i ≡ []
  unfolding chosen
  rest_end i h = rw (drop_of_length-le ls {i = i} (omega arith))

  next-at : (i j : ℕ) → i + j ≡ n → Stands (next_of ls g i j) (from i)
  unfolding next_of
  next-at i zero e = inl (refl, rest_end i (omega arith))
  next-at i (suc j) e = go (eqb (get_or ls i 0) g) refl (next-at (i + 1) j (omega arith))
    where
      go : (b : Bool) → eqb (get_or ls i 0) g ≡ b → Stands (next_of ls g (i + 1) j) (from (i + 1)) → Stands (pick b i (next_of ls g (i + 1) j)) (from i)
      go true q r = inr (omega arith, eqb-true (get_or ls i 0) g q, rest-step i (omega arith) ∙ rw q)
      go false q r = subst (λ (l : List Entry). Stands (next_of ls g (i + 1) j) l) (sym (rest-step i (omega arith) ∙ rw q)) r

  next-above : (i j : ℕ) → i + j ≤ 128 → i ≤ next_of ls g i j
  unfolding next_of
  next-above i zero h = omega arith
  next-above i (suc j) h = go (eqb (get_or ls i 0) g) (next-above (i + 1) j (omega arith))
    where
      go : (b : Bool) → i + 1 ≤ next_of ls g (i + 1) j → i ≤ pick b i (next_of ls g (i + 1) j)
      go true r = omega arith
      go false r = omega arith

  module _ (few : n ≤ 128) (next : List ℕ) (linked : Linked ls n next) where
    -- one on
    pub at_next : (k : ℕ) (l : List Entry) → k < 128 → Stands k l → (k < n) × (l ≡ get_or es k no_entry ∷ from (k + 1)) × Stands (get_or next k 0) (from (k + 1)) × (k < get_or next k 0)
    at_next k l h (inl a) = absurd (let z = a.0 in omega arith)
    at_next k l h (inr a) =
        let j : (j : ℕ) × (k + 1 + j ≡ n) = left k a.0 in
        let e : get_or next k 0 ≡ next_of ls g (k + 1) j.0 = linked k j.0 j.1 ∙ ap (λ (z : ℕ). next_of ls z (k + 1) j.0) a.1 in
        let up = next-above (k + 1) j.0 (omega (arith, j.1)) in
        (a.0, a.2, subst (λ (z : ℕ). Stands z (from (k + 1))) (sym e) (next-at (k + 1) j.0 j.1), omega arith)
      where
        left : (k : ℕ) → k < n → (j : ℕ) × (k + 1 + j ≡ n)
        left k h = (n - (k + 1), omega arith)

    pub at-end : (k : ℕ) (l : List Entry) → 128 ≤ k → Stands k l → l ≡ []
    at-end k l h (inl a) = a.1
    at-end k l h (inr a) = absurd (let z = a.0 in omega arith)

    -- the first of the group
    pub at_first : ((i : ℕ) → i < n → get_or ls i 0 ≤ i) → g < n → get_or ls g 0 ≡ g → Stands g (chosen (λ x. eqb x g) ls es)
    at_first lower gl named = inr (gl, named, skip g (omega arith) ∙ rest-step g gl ∙ rw (eq-eqb (get_or ls g 0) g named))
      where
        skip : (i : ℕ) → i ≤ g → from 0 ≡ from i
        skip zero h = refl
        skip (suc i) h =
            let low = lower i (omega arith) in
            let e : from i ≡ from (i + 1) = rest-step i (omega arith) ∙ rw (ne_eqb (get_or ls i 0) g (λ z. omega arith)) in
            let q : i + 1 ≡ suc i = omega arith in
            skip i (omega arith) ∙ e ∙ ap (λ (z : ℕ). from z) q

-- ---- the units of sources
abbrev pub held : RegInfo → ℕ → List Entry → Bool
held t u l = any_in (λ e. has u (source_units t e)) l

module _ (t : RegInfo) where
  -- the entries of l are still to be closed
  abbrev pub CommonTo : List Entry → (free out : List Bool) → List Entry → Type 0
  CommonTo es free out l = (u : ℕ) → and (no (held t u l)) (set_of out u) ≡ and (no (held t u es)) (set_of free u)

  without : (a b s : Bool) → and (no b) (and (no a) s) ≡ and (no (or a b)) s
  without true true s = refl
  without true false s = refl
  without false b s = refl

  pub common-more : (es : List Entry) (free out out' : List Bool) (e : Entry) (l : List Entry) → Closed (source_units t e) out out' → CommonTo es free out (e ∷ l) → CommonTo es free out' l
  unfolding any_in
  common-more es free out out' e l c k u = ap (λ (b : Bool). and (no (held t u l)) b) (c u) ∙ without (has u (source_units t e)) (held t u l) (set_of out u) ∙ k u

  -- those of l are still to be reopened
  abbrev pub FreeTo : List Entry → (free common out : List Bool) → List Entry → Type 0
  FreeTo own free common out l = (u : ℕ) → or (and (held t u l) (set_of free u)) (set_of out u) ≡ or (and (held t u own) (set_of free u)) (set_of common u)

  with-them : (a b f s : Bool) → or (and b f) (or (and a f) s) ≡ or (and (or a b) f) s
  with-them true true true s = refl
  with-them true true false s = refl
  with-them true false true s = refl
  with-them true false false s = refl
  with-them false b f s = refl

  pub free_more : (own : List Entry) (free common out out' : List Bool) (e : Entry) (l : List Entry) → Reopened (source_units t e) free out out' → FreeTo own free common out (e ∷ l) → FreeTo own free common out' l
  unfolding any_in
  free_more own free common out out' e l c k u =
      ap (λ (b : Bool). or (and (held t u l) (set_of free u)) b) (c u) ∙ with-them (has u (source_units t e)) (held t u l) (set_of free u) (set_of out u) ∙ k u

-- of all entries those chosen and those not
held-split : (t : RegInfo) (u : ℕ) (q : ℕ → Bool) (ls : List ℕ) (es : List Entry) → length ls ≡ length es → held t u es ≡ or (held t u (chosen q ls es)) (held t u (chosen (λ x. no (q x)) ls es))
unfolding any_in chosen
held-split t u q [] [] n = refl
held-split t u q [] (e ∷ es) n = absurd (omega arith)
held-split t u q (x ∷ ls) [] n = absurd (omega arith)
held-split t u q (x ∷ ls) (e ∷ es) n =
    ap (λ (b : Bool). or (has u (source_units t e)) b) (held-split t u q ls es (omega arith)) ∙ go (q x)
  where
    by : (a b c : Bool) → or a (or b c) ≡ or b (or a c)
    by true true c = refl
    by true false c = refl
    by false b c = refl

    assoc : (a b c : Bool) → or a (or b c) ≡ or (or a b) c
    assoc true b c = refl
    assoc false b c = refl

    go : (b : Bool)
        → or (has u (source_units t e)) (or (held t u (chosen q ls es)) (held t u (chosen (λ x. no (q x)) ls es)))
        ≡ or (held t u (pick b (e ∷ chosen q ls es) (chosen q ls es))) (held t u (pick (no b) (e ∷ chosen (λ x. no (q x)) ls es) (chosen (λ x. no (q x)) ls es)))
    go true = assoc (has u (source_units t e)) (held t u (chosen q ls es)) (held t u (chosen (λ x. no (q x)) ls es))
    go false = by (has u (source_units t e)) (held t u (chosen q ls es)) (held t u (chosen (λ x. no (q x)) ls es))

in-filter : (q : ℕ → Bool) (l : List ℕ) (x : ℕ) → has x (filter q l) ≡ and (q x) (has x l)
in-filter q l x =
    same_test (has x (filter q l)) (and (q x) (has x l)) (λ e. let w = filter-has q l x e in rw (w.0, w.1)) (λ e. let w = and-true (q x) (has x l) e in has-filter q l x w.1 w.0)

source_in : (t : RegInfo) (u : ℕ) (e : Entry) → has u (source_units t e) ≡ true → has u (entry_units t e) ≡ true
unfolding has
source_in t u (move s d v) h = has-append u (source_units t (move s d v)) _ ∙ or_left _ _ h
source_in t u (remat d v) h = absurd (false≢true h)

-- a unit that a source of the group and a source of another group have is a unit of both: they would be one group
apart : (t : RegInfo) (es : List Entry) (g u : ℕ) → held t u (chosen (λ x. eqb x g) (labels (near t) es) es) ≡ true → held t u (chosen (λ x. no (eqb x g)) (labels (near t) es) es) ≡ true → ⊥
apart t es g u a b =
    let ls : List ℕ = labels (near t) es in
    let lab = labelled Entry (near t) (near-comm t) no_entry es in
    let x = any-mem (λ e. has u (source_units t e)) (chosen (λ x. eqb x g) ls es) a in
    let y = any-mem (λ e. has u (source_units t e)) (chosen (λ x. no (eqb x g)) ls es) b in
    let i = chosen-from (λ x. eqb x g) ls es x.0 x.1 in
    let j = chosen-from (λ x. no (eqb x g)) ls es y.0 y.1 in
    let ui : has u (entry_units t (get_or es i.0 no_entry)) ≡ true = rw i.3 (source_in t u x.0 x.2) in
    let uj : has u (entry_units t (get_or es j.0 no_entry)) ≡ true = rw j.3 (source_in t u y.0 y.2) in
    let same : get_or ls i.0 0 ≡ get_or ls j.0 0 = (lab.together i.0 j.0 i.1 j.1).1 (link i.0 j.0 i.1 j.1 (meet u _ _ ui uj)) in
    let gj : get_or ls j.0 0 ≡ g = sym same ∙ eqb-true (get_or ls i.0 0) g i.2 in
    false≢true (sym (ap no (eq-eqb (get_or ls j.0 0) g gj)) ∙ j.2)

-- "those of the whole patch that no source of another group holds"
pub free-end : (t : RegInfo) (numbers : List ℕ) (free common out : List Bool) (g : ℕ) → CommonAs t numbers free common
    → FreeTo t (chosen (λ x. eqb x g) (labels_in t numbers) (entries_of numbers)) free common out [] → FreeAs t numbers free g out
unfolding any_in part
free-end t numbers free common out g co k p num u =
    let es : List Entry = entries_of numbers in
    let ls : List ℕ = labels_in t numbers in
    let lab = labelled Entry (near t) (near-comm t) no_entry es in
    let own : Bool = held t u (chosen (λ x. eqb x g) ls es) in
    let other : Bool = held t u (chosen (λ x. no (eqb x g)) ls es) in
    let goal : has u (filter (λ u. no (held_by_another t ls es g u)) p.free) ≡ set_of out u =
    in-filter (λ u. no (held_by_another t ls es g u)) p.free u
    ∙ ap (λ (b : Bool). and (no other) b) (num.free-is u)
    ∙ law own other (set_of free u) (apart t es g u)
    ∙ ap (λ (b : Bool). or (and own (set_of free u)) (and (no b) (set_of free u))) (sym (held-split t u (λ x. eqb x g) ls es lab.each))
    ∙ ap (λ (b : Bool). or (and own (set_of free u)) b) (sym (co u))
    ∙ sym (k u) in
    rw num.are goal
  where
    law : (a b f : Bool) → (a ≡ true → b ≡ true → ⊥) → and (no b) f ≡ or (and a f) (and (no (or a b)) f)
    law true true f h = absurd (h refl refl)
    law true false true h = refl
    law true false false h = refl
    law false b f h = refl

pub common-end : (t : RegInfo) (numbers : List ℕ) (free out : List Bool) → CommonTo t (entries_of numbers) free out [] → CommonAs t numbers free out
unfolding any_in
common-end t numbers free out k u = k u

pub closed_none : (out : List Bool) → Closed [] out out
unfolding has
closed_none out u = refl

pub reopened-none : (free out : List Bool) → Reopened [] free out out
unfolding has
reopened-none free out u = refl
