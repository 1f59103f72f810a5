-- `label`: what a unit, a place and an entry noted leave known, and that the labels at the end are those of the rules.
use Prim.Native.Nat.{ℕ, ◌+◌, ◌*◌, ◌<◌, ◌≤◌}
use mathlib.Core.Path.{◌≡◌, refl, sym, ap, ◌∙◌}
use mathlib.Core.Bool.{Bool, true, false}
use mathlib.Core.List.{List}
use mathlib.Core.Logic.{◌⊎◌, inl, inr, ⊎_elim}
use native.Mathlib.Omega.{arith}
use lib.Dec.{eqb, ltb}
use lib.ListN.{length, get_or}
use borrow.Author.Tests.{eqb-true, eqb-false, eq-eqb, ltb-true, lt-ltb}
use Rattle.entity.specs.Logic.{and, or, has, cells}
use Rattle.entity.specs.Place.{place_at}
use Rattle.entity.proofs.Laws.{length-cells, get_d-cells, has_get_d, has-where, and-true}
use Rattle.reginfo.specs.RegInfo.{RegInfo, place_units}
use Rattle.rules.specs.Patch.{Entry}
use Rattle.group_rules.specs.Groups.{Together, self, link, chain, near, entry_units, labels}
use Rattle.group_rules.specs.Refusals.{no_entry}
use Rattle.group_rules.proofs.Lists.{meet, met, below?, or_left, or_right, or_case, has-append}
use Rattle.group_rules.proofs.Labelled.{now, least, least-is, Moved, moved, at_left, at_right, together-sym, closed-together, one-labelling}
use Rattle.group_rules.proofs.Parts.{near-comm}
use Rattle.groups.specs.Noting.{Renamed, UnitNoted, units_at, Noted, AllNoted, PlaceNoted, EntryNoted}
use Rattle.groups.proofs.Entries.{entry-move, entry-remat}

module _ (t : RegInfo) (l : List Entry) where
  abbrev Tied : ℕ → ℕ → Type 0
  Tied i j = Together (near t) no_entry l i j

  -- fewer units told
  pub told-less : (m : ℕ) (a b : ℕ → ℕ → Type 0) (o ls : List ℕ) → ((i u : ℕ) → i < m → b i u → a i u) → Noted t l m a o ls → Noted t l m b o ls
  told-less m a b o ls h n =
      record {
        few = n.few;
        sound = n.sound;
        first = n.first;
        named = n.named;
        owner = n.owner;
        owned = λ i u x y z. n.owned i u x y (h i u x z);
      }

  -- two that share a unit
  shared : (i j u : ℕ) → i < length l → j < length l → has u (units_at t l i) ≡ true → has u (units_at t l j) ≡ true → Tied i j
  shared i j u a b p q = link i j a b (meet u (units_at t l i) (units_at t l j) p q)

  -- ---- the labels of two that belong together become one
  module _ (m : ℕ) (ml : m ≤ 128) (told : ℕ → ℕ → Type 0) (o ls ls' : List ℕ) (n : Noted t l m told o ls) (x y : ℕ) (xl : x < m) (yl : y < m) (tied : Tied x y) where
    abbrev a : ℕ
    a = get_or ls x 0

    abbrev b : ℕ
    b = get_or ls y 0

    module _ (ren : Renamed a b ls ls') where
      at : (i : ℕ) → i < m → get_or ls' i 0 ≡ now a b (get_or ls i 0)
      at i h = ren i (omega arith)

      with-x : (i : ℕ) → i < m → (get_or ls i 0 ≡ a) ⊎ (get_or ls i 0 ≡ b) → Tied i x
      with-x i h (inl e) = n.sound i x h xl e
      with-x i h (inr e) = chain i y x (n.sound i y h yl e) (together-sym (near t) (near-comm t) no_entry l x y tied)

      not_least : (z : ℕ) → (z ≡ a → ⊥) → (z ≡ b → ⊥) → z ≡ least a b → ⊥
      not_least z na nb e = ⊎_elim (λ w. na (e ∙ w)) (λ w. nb (e ∙ w)) (least-is a b).one

      join-sound : (i j : ℕ) → i < m → j < m → Moved a b (get_or ls i 0) → Moved a b (get_or ls j 0) → now a b (get_or ls i 0) ≡ now a b (get_or ls j 0) → Tied i j
      join-sound i j hi hj (inl p) (inl q) e = chain i x j (with-x i hi p.0) (together-sym (near t) (near-comm t) no_entry l j x (with-x j hj q.0))
      join-sound i j hi hj (inl p) (inr q) e = absurd (not_least (get_or ls j 0) q.0 q.1 (sym q.2 ∙ sym e ∙ p.1))
      join-sound i j hi hj (inr p) (inl q) e = absurd (not_least (get_or ls i 0) p.0 p.1 (sym p.2 ∙ e ∙ q.1))
      join-sound i j hi hj (inr p) (inr q) e = n.sound i j hi hj (sym p.2 ∙ e ∙ q.2)

      join_first : (i : ℕ) → i < m → Moved a b (get_or ls i 0) → now a b (get_or ls i 0) ≤ i
      join_first i h (inl p) =
          let g = least-is a b in
          let z = n.first i h in
          ⊎_elim (λ e. omega (arith, g.left, z, e, p.1)) (λ e. omega (arith, g.right, z, e, p.1)) p.0
      join_first i h (inr p) = let z = n.first i h in omega (arith, z, p.2)

      below : (i : ℕ) → i < m → get_or ls i 0 < m
      below i h = let z = n.first i h in omega arith

      least-low : least a b < m
      least-low = let g = least-is a b in let z = below x xl in let w = g.left in omega arith

      least-named : get_or ls' (least a b) 0 ≡ least a b
      least-named =
          at (least a b) least-low
          ∙ ⊎_elim (λ e. ap (now a b) (ap (λ (z : ℕ). get_or ls z 0) e ∙ n.named x xl) ∙ at_left a b) (λ e. ap (now a b) (ap (λ (z : ℕ). get_or ls z 0) e ∙ n.named y yl) ∙ at_right a b) (least-is a b).one

      join-named : (i : ℕ) → i < m → Moved a b (get_or ls i 0) → get_or ls' (now a b (get_or ls i 0)) 0 ≡ now a b (get_or ls i 0)
      join-named i h (inl p) = ap (λ (z : ℕ). get_or ls' z 0) p.1 ∙ least-named ∙ sym p.1
      join-named i h (inr p) = ap (λ (z : ℕ). get_or ls' z 0) p.2 ∙ at (get_or ls i 0) (below i h) ∙ ap (now a b) (n.named i h)

      -- the units told keep their owners, and those of y at an owner with x's label are told too
      joined : (u : ℕ) → get_or o u 0 ≡ x → Noted t l m (λ i v. told i v ⊎ ((i ≡ y) × (v ≡ u))) o ls'
      joined u ou =
          record {
            few = n.few;
            sound = λ i j hi hj e. join-sound i j hi hj (moved a b (get_or ls i 0)) (moved a b (get_or ls j 0)) (sym (at i hi) ∙ e ∙ at j hj);
            first = λ i h. rw (at i h) (join_first i h (moved a b (get_or ls i 0)));
            named = λ i h. rw (at i h) (join-named i h (moved a b (get_or ls i 0)));
            owner = n.owner;
            owned = owns;
          }
        where
          owns : (i v : ℕ) → i < m → v < 4608 → told i v ⊎ ((i ≡ y) × (v ≡ u)) → (get_or o v 0 < m) × (get_or ls' (get_or o v 0) 0 ≡ get_or ls' i 0)
          owns i v h w (inl q) = let z = n.owned i v h w q in (z.0, at (get_or o v 0) z.0 ∙ ap (now a b) z.1 ∙ sym (at i h))
          owns i v h w (inr q) =
              let ov : get_or o v 0 ≡ x = ap (λ (z : ℕ). get_or o z 0) q.1 ∙ ou in
              let both : get_or ls' x 0 ≡ get_or ls' i 0 = at x xl ∙ at_left a b ∙ sym (at_right a b) ∙ sym (at y yl) ∙ ap (λ (z : ℕ). get_or ls' z 0) (sym q.0) in
              (rw ov xl, ap (λ (z : ℕ). get_or ls' z 0) ov ∙ both)

  -- ---- a unit of entry k noted
  module _ (k : ℕ) (kl : k < 128) (u : ℕ) (ul : u < 4608) (mine : has u (units_at t l k) ≡ true) (told : ℕ → ℕ → Type 0) (o ls : List ℕ) (n : Noted t l (k + 1) told o ls) where
    pub unit-fresh : (o' : List ℕ) → 128 ≤ get_or o u 0 → get_or o' u 0 ≡ k → ((v : ℕ) → (v ≡ u → ⊥) → get_or o' v 0 ≡ get_or o v 0) → Noted t l (k + 1) (λ i v. told i v ⊎ ((i ≡ k) × (v ≡ u))) o' ls
    unit-fresh o' none here others =
        record {
          few = n.few;
          sound = n.sound;
          first = n.first;
          named = n.named;
          owner = λ v w. owner v w (eqb v u) refl;
          owned = λ i v h w q. owned i v h w q (eqb v u) refl;
        }
      where
        owner : (v : ℕ) → v < 4608 → (c : Bool) → eqb v u ≡ c → (128 ≤ get_or o' v 0) ⊎ ((get_or o' v 0 < k + 1) × (has v (units_at t l (get_or o' v 0)) ≡ true))
        owner v w true e = rw (eqb-true v u e) (rw here (inr (omega arith, mine)))
        owner v w false e = rw (others v (eqb-false v u e)) (n.owner v w)

        owned : (i v : ℕ) → i < k + 1 → v < 4608 → told i v ⊎ ((i ≡ k) × (v ≡ u)) → (c : Bool) → eqb v u ≡ c → (get_or o' v 0 < k + 1) × (get_or ls (get_or o' v 0) 0 ≡ get_or ls i 0)
        owned i v h w (inl q) true e =
            let z = (n.owned i v h w q).0 in
            let y : get_or o v 0 ≡ get_or o u 0 = ap (λ (z : ℕ). get_or o z 0) (eqb-true v u e) in
            absurd (omega arith)
        owned i v h w (inr q) true e =
            let ov : get_or o' v 0 ≡ k = ap (λ (z : ℕ). get_or o' z 0) (eqb-true v u e) ∙ here in
            (omega arith, ap (λ (z : ℕ). get_or ls z 0) (ov ∙ sym q.0))
        owned i v h w (inl q) false e = rw (others v (eqb-false v u e)) (n.owned i v h w q)
        owned i v h w (inr q) false e = absurd (eqb-false v u e q.1)

    pub unit-owned : (ls' : List ℕ) → get_or o u 0 < 128 → Renamed (get_or ls (get_or o u 0) 0) (get_or ls k 0) ls ls' → Noted t l (k + 1) (λ i v. told i v ⊎ ((i ≡ k) × (v ≡ u))) o ls'
    unit-owned ls' some ren = go (n.owner u ul)
      where
        go : (128 ≤ get_or o u 0) ⊎ ((get_or o u 0 < k + 1) × (has u (units_at t l (get_or o u 0)) ≡ true)) → Noted t l (k + 1) (λ i v. told i v ⊎ ((i ≡ k) × (v ≡ u))) o ls'
        go (inl h) = absurd (omega arith)
        go (inr h) =
            let few = n.few in
            joined (k + 1) (omega arith) told o ls ls' n (get_or o u 0) k h.0 (omega arith)
            (shared (get_or o u 0) k u (omega (arith, h.0)) (omega arith) h.1 mine) ren u refl

  -- ---- entry k, labelled by its own number
  module _ (k : ℕ) (kl : k < length l) (o ls ls' : List ℕ) (n : AllNoted t l k o ls) (here : get_or ls' k 0 ≡ k) (others : (i : ℕ) → (i ≡ k → ⊥) → get_or ls' i 0 ≡ get_or ls i 0) where
    old : (i : ℕ) → i < k → get_or ls' i 0 ≡ get_or ls i 0
    old i h = others i (λ e. omega arith)

    cut : (i : ℕ) → i < k + 1 → (i < k) ⊎ (i ≡ k)
    cut i h = go (eqb i k) refl
      where
        go : (c : Bool) → eqb i k ≡ c → (i < k) ⊎ (i ≡ k)
        go true e = inr (eqb-true i k e)
        go false e = inl (let z = eqb-false i k e in omega arith)

    new-sound : (i j : ℕ) → (i < k) ⊎ (i ≡ k) → (j < k) ⊎ (j ≡ k) → get_or ls' i 0 ≡ get_or ls' j 0 → Tied i j
    new-sound i j (inl a) (inl b) e = n.sound i j a b (sym (old i a) ∙ e ∙ old j b)
    new-sound i j (inl a) (inr b) e =
        let x : get_or ls i 0 ≡ k = sym (old i a) ∙ e ∙ ap (λ (z : ℕ). get_or ls' z 0) b ∙ here in
        let y = n.first i a in
        absurd (omega arith)
    new-sound i j (inr a) (inl b) e =
        let x : get_or ls j 0 ≡ k = sym (old j b) ∙ sym e ∙ ap (λ (z : ℕ). get_or ls' z 0) a ∙ here in
        let y = n.first j b in
        absurd (omega arith)
    new-sound i j (inr a) (inr b) e = rw (a, b) (self k)

    new-first : (i : ℕ) → (i < k) ⊎ (i ≡ k) → get_or ls' i 0 ≤ i
    new-first i (inl a) = let x = n.first i a in let y = old i a in omega arith
    new-first i (inr a) = rw a (omega (arith, here))

    new-named : (i : ℕ) → (i < k) ⊎ (i ≡ k) → get_or ls' (get_or ls' i 0) 0 ≡ get_or ls' i 0
    new-named i (inl a) = let x = n.first i a in ap (λ (z : ℕ). get_or ls' z 0) (old i a) ∙ old (get_or ls i 0) (omega arith) ∙ n.named i a ∙ sym (old i a)
    new-named i (inr a) = let x : get_or ls' i 0 ≡ k = ap (λ (z : ℕ). get_or ls' z 0) a ∙ here in ap (λ (z : ℕ). get_or ls' z 0) (x ∙ sym a)

    -- the units of those before are told, and no unit of entry k
    pub entry-begun : (before : ℕ → ℕ → Bool) → ((i u : ℕ) → before i u ≡ true → (i < k) × (has u (units_at t l i) ≡ true)) → Noted t l (k + 1) (λ i u. before i u ≡ true) o ls'
    entry-begun before is =
        record {
          few = omega arith;
          sound = λ i j a b e. new-sound i j (cut i a) (cut j b) e;
          first = λ i a. new-first i (cut i a);
          named = λ i a. new-named i (cut i a);
          owner = λ u w. ⊎_elim inl (λ h. inr (omega (arith, h.0), h.1)) (n.owner u w);
          owned = λ i u a w q. let b = is i u q in let z = n.owned i u b.0 w b.1 in (omega (arith, z.0), old (get_or o u 0) z.0 ∙ z.1 ∙ sym (old i b.0));
        }

  -- ---- no entry yet, and all of them
  pub none-noted : (o ls : List ℕ) → ((u : ℕ) → u < 4608 → 128 ≤ get_or o u 0) → AllNoted t l 0 o ls
  none-noted o ls h =
      record {
        few = omega arith;
        sound = λ i j a. absurd (omega arith);
        first = λ i a. absurd (omega arith);
        named = λ i a. absurd (omega arith);
        owner = λ u w. inl (h u w);
        owned = λ i u a. absurd (omega arith);
      }

  module _ (o ls : List ℕ) (low : (i u : ℕ) → i < length l → has u (units_at t l i) ≡ true → u < 4608) (n : AllNoted t l (length l) o ls) where
    there : (i : ℕ) → i < length l → get_or (cells ls 0 (length l)) i 0 ≡ get_or ls i 0
    there i h = get_d-cells ls 0 (length l) i h ∙ ap (λ (z : ℕ). get_or ls z 0) (omega arith)

    alike : (i j : ℕ) → i < length l → j < length l → near t (get_or l i no_entry) (get_or l j no_entry) ≡ true → get_or (cells ls 0 (length l)) i 0 ≡ get_or (cells ls 0 (length l)) j 0
    alike i j a b e =
        let w = met (units_at t l i) (units_at t l j) e in
        let ul = low i w.0 a w.1 in
        there i a ∙ sym (n.owned i w.0 a ul w.1).1 ∙ (n.owned j w.0 b ul w.2).1 ∙ sym (there j b)

    pub all-labelled : cells ls 0 (length l) ≡ labels (near t) l
    all-labelled =
        one-labelling Entry (near t) (near-comm t) no_entry l (cells ls 0 (length l))
        record {
          each = length-cells ls 0 (length l);
          together = λ i j a b. ((λ e. n.sound i j a b (sym (there i a) ∙ e ∙ there j b)), closed-together (near t) (near-comm t) no_entry l (cells ls 0 (length l)) alike i j);
          first = λ i a. rw (there i a) (n.first i a);
          named = λ i a. let z = n.first i a in rw (there i a) (there (get_or ls i 0) (omega arith) ∙ n.named i a);
        }

-- ---- the units of a place, one after the other
abbrev pub Before : List ℕ → ℕ → ℕ → Type 0
Before us j u = (x : ℕ) × (x < j) × (get_or us x 0 ≡ u)

-- the first j of them are noted
abbrev pub NotedTo : RegInfo → List ℕ → ℕ → ℕ → (o₀ ls₀ o ls : List ℕ) → Type 0
NotedTo t us k j o₀ ls₀ o ls =
    (l : List Entry) (told : ℕ → ℕ → Bool) → ((u : ℕ) → has u us ≡ true → has u (units_at t l k) ≡ true) → Noted t l (k + 1) (λ i u. told i u ≡ true) o₀ ls₀
    → Noted t l (k + 1) (λ i u. (told i u ≡ true) ⊎ ((i ≡ k) × Before us j u)) o ls

module _ (t : RegInfo) (us : List ℕ) (k : ℕ) where
  pub to_start : (o ls : List ℕ) → NotedTo t us k 0 o ls o ls
  to_start o ls l told mine n = told-less t l (k + 1) (λ i u. told i u ≡ true) _ o ls (λ i u h q. ⊎_elim (λ x. x) (λ x. absurd (let z = x.1.1 in omega arith)) q) n

  pub to-more : (j : ℕ) (o₀ ls₀ o ls o' ls' : List ℕ) → k < 128 → j < length us → get_or us j 0 < 4608 → UnitNoted (get_or us j 0) k o ls o' ls' → NotedTo t us k j o₀ ls₀ o ls → NotedTo t us k (j + 1) o₀ ls₀ o' ls'
  to-more j o₀ ls₀ o ls o' ls' kl jl ul un r l told mine n =
      told-less t l (k + 1) _ _ o' ls' (λ i u h q. reached i u q) (go (below? (get_or o (get_or us j 0) 0) 128))
    where
      reached : (i u : ℕ) → (told i u ≡ true) ⊎ ((i ≡ k) × Before us (j + 1) u) → ((told i u ≡ true) ⊎ ((i ≡ k) × Before us j u)) ⊎ ((i ≡ k) × (u ≡ get_or us j 0))
      reached i u (inl x) = inl (inl x)
      reached i u (inr x) = by (eqb x.1.0 j) refl
        where
          by : (c : Bool) → eqb x.1.0 j ≡ c → ((told i u ≡ true) ⊎ ((i ≡ k) × Before us j u)) ⊎ ((i ≡ k) × (u ≡ get_or us j 0))
          by true e = inr (x.0, sym x.1.2 ∙ ap (λ (z : ℕ). get_or us z 0) (eqb-true x.1.0 j e))
          by false e = let z = eqb-false x.1.0 j e in let y = x.1.1 in inl (inr (x.0, (x.1.0, omega arith, x.1.2)))

      go : (get_or o (get_or us j 0) 0 < 128) ⊎ (128 ≤ get_or o (get_or us j 0) 0) → Noted t l (k + 1) (λ i u. ((told i u ≡ true) ⊎ ((i ≡ k) × Before us j u)) ⊎ ((i ≡ k) × (u ≡ get_or us j 0))) o' ls'
      go (inl some) =
          let w = un.owned some in
          rw w.0 (unit-owned t l k kl (get_or us j 0) ul (mine (get_or us j 0) (has_get_d us j jl)) _ o ls (r l told mine n) ls' some w.1)
      go (inr none) =
          let w = un.fresh none in
          rw w.2 (unit-fresh t l k kl (get_or us j 0) ul (mine (get_or us j 0) (has_get_d us j jl)) _ o ls (r l told mine n) o' none w.0 w.1)

  pub to_end : (j : ℕ) (o₀ ls₀ o ls : List ℕ) → length us ≤ j → NotedTo t us k j o₀ ls₀ o ls → PlaceNoted t us k o₀ ls₀ o ls
  to_end j o₀ ls₀ o ls all r l told mine n =
      told-less t l (k + 1) _ _ o ls (λ i u h q. ⊎_elim (λ x. inl x) (λ x. inr (x.0, (let w = has-where u us x.1 in (w.0, omega (arith, w.1), w.2)))) q) (r l told mine n)

-- ---- an entry: its first place, and of a move its second
module _ (t : RegInfo) (numbers : List ℕ) (k : ℕ) (o ls ls₁ o₂ ls₂ : List ℕ) (here : get_or ls₁ k 0 ≡ k) (others : (i : ℕ) → (i ≡ k → ⊥) → get_or ls₁ i 0 ≡ get_or ls i 0) where
  abbrev first : List ℕ
  first = place_units t (place_at (get_or numbers (k * 4 + 1) 0))

  abbrev second : List ℕ
  second = place_units t (place_at (get_or numbers (k * 4 + 2) 0))

  module _ (l : List Entry) where
    -- the units of the entries before
    abbrev before : ℕ → ℕ → Bool
    before i u = and (ltb i k) (has u (units_at t l i))

    before-is : (i u : ℕ) → before i u ≡ true → (i < k) × (has u (units_at t l i) ≡ true)
    before-is i u e = let w = and-true (ltb i k) (has u (units_at t l i)) e in (ltb-true i k w.0, w.1)

    is-before : (i u : ℕ) → i < k → has u (units_at t l i) ≡ true → before i u ≡ true
    is-before i u h e = rw (lt-ltb i k h, e)

    upto : (i : ℕ) → i < k + 1 → (i < k) ⊎ (i ≡ k)
    upto i h = go (eqb i k) refl
      where
        go : (c : Bool) → eqb i k ≡ c → (i < k) ⊎ (i ≡ k)
        go true e = inr (eqb-true i k e)
        go false e = inl (let z = eqb-false i k e in omega arith)

  pub remat-noted : get_or numbers (k * 4) 0 ≡ 1 → PlaceNoted t first k o ls₁ o₂ ls₂ → EntryNoted t numbers k o ls o₂ ls₂
  remat-noted kind one l kl is n =
      let units : units_at t l k ≡ first = ap (entry_units t) (is ∙ entry-remat numbers k kind) in
      told-less t l (k + 1) _ _ o₂ ls₂ (λ i u h q. ⊎_elim (λ a. inl (is-before l i u a q)) (λ a. inr (a, (ap (has u) (sym units) ∙ ap (λ (z : ℕ). has u (units_at t l z)) (sym a) ∙ q))) (upto l i h))
      (one l (before l) (λ u e. ap (has u) units ∙ e) (entry-begun t l k kl o ls ls₁ n here others (before l) (before-is l)))

  pub move-noted : (o₃ ls₃ : List ℕ) → get_or numbers (k * 4) 0 ≡ 0 → PlaceNoted t first k o ls₁ o₂ ls₂ → PlaceNoted t second k o₂ ls₂ o₃ ls₃ → EntryNoted t numbers k o ls o₃ ls₃
  move-noted o₃ ls₃ kind one two l kl is n =
      told-less t l (k + 1) _ _ o₃ ls₃ (λ i u h q. all i u (upto l i h) q)
      (two l told (λ u e. units u ∙ or_right (has u first) (has u second) e)
      (told-less t l (k + 1) _ _ o₂ ls₂ (λ i u h q. both i u (or_case (before l i u) (and (eqb i k) (has u first)) q))
      (one l (before l) (λ u e. units u ∙ or_left (has u first) (has u second) e) (entry-begun t l k kl o ls ls₁ n here others (before l) (before-is l)))))
    where
      units : (u : ℕ) → has u (units_at t l k) ≡ or (has u first) (has u second)
      units u = ap (λ (e : Entry). has u (entry_units t e)) (is ∙ entry-move numbers k kind) ∙ has-append u first second

      told : ℕ → ℕ → Bool
      told i u = or (before l i u) (and (eqb i k) (has u first))

      both : (i u : ℕ) → (before l i u ≡ true) ⊎ (and (eqb i k) (has u first) ≡ true) → (before l i u ≡ true) ⊎ ((i ≡ k) × (has u first ≡ true))
      both i u (inl e) = inl e
      both i u (inr e) = let w = and-true (eqb i k) (has u first) e in inr (eqb-true i k w.0, w.1)

      split : (u : ℕ) → has u (units_at t l k) ≡ true → (has u first ≡ true) ⊎ (has u second ≡ true)
      split u e = or_case (has u first) (has u second) (sym (units u) ∙ e)

      mine : (i u : ℕ) → i ≡ k → (has u first ≡ true) ⊎ (has u second ≡ true) → (told i u ≡ true) ⊎ ((i ≡ k) × (has u second ≡ true))
      mine i u a (inl e) = inl (or_right (before l i u) (and (eqb i k) (has u first)) (rw (eq-eqb i k a, e)))
      mine i u a (inr e) = inr (a, e)

      all : (i u : ℕ) → (i < k) ⊎ (i ≡ k) → has u (units_at t l i) ≡ true → (told i u ≡ true) ⊎ ((i ≡ k) × (has u second ≡ true))
      all i u (inl a) q = inl (or_left (before l i u) (and (eqb i k) (has u first)) (is-before l i u a q))
      all i u (inr a) q = mine i u a (split u (ap (λ (z : ℕ). has u (units_at t l z)) (sym a) ∙ q))
