-- `Labelled`, by the elements added one after the other.
use Prim.Native.Nat.{ℕ, zero, suc, ◌+◌, ◌<◌, ◌≤◌}
use mathlib.Core.Path.{◌≡◌, refl, sym, ap, ◌∙◌, subst}
use mathlib.Core.Bool.{Bool, true, false}
use mathlib.Core.List.{List, [], ◌∷◌, ◌++◌, map, append-nil, append_assoc}
use mathlib.Core.Logic.{◌⊎◌, inl, inr, ⊎_elim}
use native.Mathlib.Omega.{arith}
use native.Mathlib.Decide.{dec_lt}
use lib.Dec.{eqb, ltb}
use lib.ListN.{length, get_or, length-append, length-map, get_or-append}
use borrow.Author.Tests.{eqb-true, eqb-false, eq-eqb, ltb-true, ltb-false}
use Rattle.entity.specs.Logic.{pick, or}
use Rattle.group_rules.specs.Groups.{Together, self, link, chain, join, join_all, labels_from, labels}
use Rattle.group_rules.specs.Labelled.{Symmetric, Labelled, AllLabelled, OneLabelling}

get_d-mapped : (f : ℕ → ℕ) (l : List ℕ) (i : ℕ) → i < length l → get_or (map f l) i 0 ≡ f (get_or l i 0)
get_d-mapped f [] i h = absurd (omega arith)
get_d-mapped f (x ∷ l) zero h = refl
get_d-mapped f (x ∷ l) (suc i) h = get_d-mapped f l i (omega arith)

pub get_d-end : {A : Type 0} (l : List A) (x d : A) → get_or (l ++ (x ∷ [])) (length l) d ≡ x
get_d-end [] x d = refl
get_d-end (y ∷ l) x d = get_d-end l x d

pub length-end : {A : Type 0} (l : List A) (x : A) → length (l ++ (x ∷ [])) ≡ suc (length l)
length-end [] x = refl
length-end (y ∷ l) x = ap suc (length-end l x)

-- what becomes of a label where a and b become one
abbrev pub now : ℕ → ℕ → ℕ → ℕ
now a b x = pick (or (eqb x a) (eqb x b)) (pick (ltb a b) a b) x

abbrev pub least : ℕ → ℕ → ℕ
least a b = pick (ltb a b) a b

pub record IsLeast (a b m : ℕ) : Type 0 where
  pub left : m ≤ a
  pub right : m ≤ b
  pub one : (m ≡ a) ⊎ (m ≡ b)

pub least-is : (a b : ℕ) → IsLeast a b (least a b)
least-is a b = go (ltb a b) refl
  where
    go : (t : Bool) → ltb a b ≡ t → IsLeast a b (pick t a b)
    go true e = let h = ltb-true a b e in record { left = omega arith; right = omega arith; one = inl refl }
    go false e = let h = ltb-false a b e in record { left = omega arith; right = omega arith; one = inr refl }

-- it is one of the two, or it stays
abbrev pub Moved : ℕ → ℕ → ℕ → Type 0
Moved a b x = (((x ≡ a) ⊎ (x ≡ b)) × (now a b x ≡ least a b)) ⊎ ((x ≡ a → ⊥) × (x ≡ b → ⊥) × (now a b x ≡ x))

pub moved : (a b x : ℕ) → Moved a b x
moved a b x = go (eqb x a) (eqb x b) refl refl
  where
    go : (p q : Bool) → eqb x a ≡ p → eqb x b ≡ q → Moved a b x
    go true q e k = inl (inl (eqb-true x a e), rw e)
    go false true e k = inl (inr (eqb-true x b k), rw (e, k))
    go false false e k = inr (eqb-false x a e, eqb-false x b k, rw (e, k))

pub at_left : (a b : ℕ) → now a b a ≡ least a b
at_left a b = rw (eq-eqb a a refl)

pub at_right : (a b : ℕ) → now a b b ≡ least a b
at_right a b = go (moved a b b)
  where
    go : Moved a b b → now a b b ≡ least a b
    go (inl h) = h.1
    go (inr h) = absurd (h.1 refl)

join-at : (a b : ℕ) (ls : List ℕ) (i : ℕ) → i < length ls → get_or (join a b ls) i 0 ≡ now a b (get_or ls i 0)
unfolding join
join-at a b ls i h = get_d-mapped (now a b) ls i h

join-length : (a b : ℕ) (ls : List ℕ) → length (join a b ls) ≡ length ls
unfolding join
join-length a b ls = length-map ls (now a b)

module _ {A : Type 0} (near : A → A → Bool) (swaps : Symmetric near) (d : A) where
  pub together-sym : (l : List A) (i j : ℕ) → Together near d l i j → Together near d l j i
  together-sym l _ _ (self i) = self i
  together-sym l _ _ (link i j a b e) = link j i b a (swaps (get_or l j d) (get_or l i d) ∙ e)
  together-sym l _ _ (chain i k j x y) = chain j k i (together-sym l k j y) (together-sym l i k x)

  together-more : (l m : List A) (i j : ℕ) → Together near d l i j → Together near d (l ++ m) i j
  together-more l m _ _ (self i) = self i
  together-more l m _ _ (link i j a b e) =
      let n = length-append l m in
      link i j (omega (arith, n)) (omega (arith, n)) (rw (get_or-append l m d i a, get_or-append l m d j b) e)
  together-more l m _ _ (chain i k j x y) = chain i k j (together-more l m i k x) (together-more l m k j y)

  -- equal labels are together; each is the first's
  pub record Good (l : List A) (ls : List ℕ) : Type 0 where
    pub each : length ls ≡ length l
    pub sound : (i j : ℕ) → i < length l → j < length l → get_or ls i 0 ≡ get_or ls j 0 → Together near d l i j
    pub first : (i : ℕ) → i < length l → get_or ls i 0 ≤ i
    pub named : (i : ℕ) → i < length l → get_or ls (get_or ls i 0) 0 ≡ get_or ls i 0

  -- the labels of two that are together become one
  module _ (l : List A) (ls : List ℕ) (g : Good l ls) (i k : ℕ) (il : i < length l) (kl : k < length l) (tg : Together near d l i k) where
    a : ℕ
    a = get_or ls i 0

    b : ℕ
    b = get_or ls k 0

    low : (x : ℕ) → x < length l → x < length ls
    low x h = omega (arith, g.each)

    joined_at : (x : ℕ) → x < length l → get_or (join a b ls) x 0 ≡ now a b (get_or ls x 0)
    joined_at x h = join-at a b ls x (low x h)

    -- one whose label is one of the two is together with i
    with-i : (x : ℕ) → x < length l → (get_or ls x 0 ≡ a) ⊎ (get_or ls x 0 ≡ b) → Together near d l x i
    unfolding a b
    with-i x h (inl e) = g.sound x i h il e
    with-i x h (inr e) = chain x k i (g.sound x k h kl e) (together-sym l i k tg)

    -- the lesser is no other's
    not_least : (y : ℕ) → (y ≡ a → ⊥) → (y ≡ b → ⊥) → y ≡ least a b → ⊥
    not_least y na nb e = ⊎_elim (λ z. na (e ∙ z)) (λ z. nb (e ∙ z)) (least-is a b).one

    join-sound : (x y : ℕ) → x < length l → y < length l → Moved a b (get_or ls x 0) → Moved a b (get_or ls y 0) → now a b (get_or ls x 0) ≡ now a b (get_or ls y 0) → Together near d l x y
    join-sound x y hx hy (inl p) (inl q) e = chain x i y (with-i x hx p.0) (together-sym l y i (with-i y hy q.0))
    join-sound x y hx hy (inl p) (inr q) e = absurd (not_least (get_or ls y 0) q.0 q.1 (sym q.2 ∙ sym e ∙ p.1))
    join-sound x y hx hy (inr p) (inl q) e = absurd (not_least (get_or ls x 0) p.0 p.1 (sym p.2 ∙ e ∙ q.1))
    join-sound x y hx hy (inr p) (inr q) e = g.sound x y hx hy (sym p.2 ∙ e ∙ q.2)

    join_first : (x : ℕ) → x < length l → Moved a b (get_or ls x 0) → now a b (get_or ls x 0) ≤ x
    join_first x h (inl p) =
        let m = least-is a b in
        let y = g.first x h in
        ⊎_elim (λ e. omega (arith, m.left, y, e, p.1)) (λ e. omega (arith, m.right, y, e, p.1)) p.0
    join_first x h (inr p) = let y = g.first x h in omega (arith, y, p.2)

    below : (x : ℕ) → x < length l → get_or ls x 0 < length l
    below x h = let y = g.first x h in omega arith

    least-low : least a b < length l
    unfolding a b
    least-low = let m = least-is a b in let y = below i il in let z = m.left in omega arith

    -- the lesser names itself
    least-named : get_or (join a b ls) (least a b) 0 ≡ least a b
    unfolding a b
    least-named = joined_at (least a b) least-low ∙ ⊎_elim (λ e. ap (now a b) (ap (λ (z : ℕ). get_or ls z 0) e ∙ g.named i il) ∙ at_left a b) (λ e. ap (now a b) (ap (λ (z : ℕ). get_or ls z 0) e ∙ g.named k kl) ∙ at_right a b) (least-is a b).one

    join-named : (x : ℕ) → x < length l → Moved a b (get_or ls x 0) → get_or (join a b ls) (now a b (get_or ls x 0)) 0 ≡ now a b (get_or ls x 0)
    join-named x h (inl p) = ap (λ (z : ℕ). get_or (join a b ls) z 0) p.1 ∙ least-named ∙ sym p.1
    join-named x h (inr p) = ap (λ (z : ℕ). get_or (join a b ls) z 0) p.2 ∙ joined_at (get_or ls x 0) (below x h) ∙ ap (now a b) (g.named x h)

    join-good : Good l (join a b ls)
    join-good =
        record {
          each = join-length a b ls ∙ g.each;
          sound = λ x y hx hy e. join-sound x y hx hy (moved a b (get_or ls x 0)) (moved a b (get_or ls y 0)) (sym (joined_at x hx) ∙ e ∙ joined_at y hy);
          first = λ x h. rw (joined_at x h) (join_first x h (moved a b (get_or ls x 0)));
          named = λ x h. rw (joined_at x h) (join-named x h (moved a b (get_or ls x 0)));
        }

    -- labels that are equal stay so, and the two are
    join-keeps : (x y : ℕ) → x < length l → y < length l → get_or ls x 0 ≡ get_or ls y 0 → get_or (join a b ls) x 0 ≡ get_or (join a b ls) y 0
    join-keeps x y hx hy e = joined_at x hx ∙ ap (now a b) e ∙ sym (joined_at y hy)

    join-joins : get_or (join a b ls) i 0 ≡ get_or (join a b ls) k 0
    unfolding a b
    join-joins = joined_at i il ∙ at_left a b ∙ sym (at_right a b) ∙ sym (joined_at k kl)

  -- e at the end of the list l is joined with each of m, which stand from i on, that is near it
  record Joined (l : List A) (n : ℕ) (e : A) (i : ℕ) (m : List A) (ls ls' : List ℕ) : Type 0 where
    good : Good l ls'
    keeps : (x y : ℕ) → x < length l → y < length l → get_or ls x 0 ≡ get_or ls y 0 → get_or ls' x 0 ≡ get_or ls' y 0
    joins : (j : ℕ) → j < length m → near (get_or m j d) e ≡ true → get_or ls' (i + j) 0 ≡ get_or ls' n 0

  module _ (l : List A) (n : ℕ) (e : A) (nl : n < length l) (at : get_or l n d ≡ e) where
    one-joined : (i : ℕ) (x : A) (ls : List ℕ) → i < length l → get_or l i d ≡ x → Good l ls → (c : Bool) → near x e ≡ c
        → Joined l n e i (x ∷ []) ls (pick c (join (get_or ls i 0) (get_or ls n 0) ls) ls)
    unfolding a b
    one-joined i x ls il xe g true c =
        let tg : Together near d l i n = link i n il nl (rw (xe, at) c) in
        record {
          good = join-good l ls g i n il nl tg;
          keeps = join-keeps l ls g i n il nl tg;
          joins = λ j h q. let z : j ≡ 0 = omega arith in rw z (ap (λ (y : ℕ). get_or (join (get_or ls i 0) (get_or ls n 0) ls) y 0) (omega arith) ∙ join-joins l ls g i n il nl tg);
        }
    one-joined i x ls il xe g false c = record { good = g; keeps = λ x y hx hy q. q; joins = λ j h q. absurd (never j h q) }
      where
        never : (j : ℕ) → j < 1 → near (get_or (x ∷ []) j d) e ≡ true → ⊥
        never zero h q = let z : ◌≡◌ {A = Bool} false true = sym c ∙ q in let y : ◌≡◌ {A = ℕ} 0 1 = cc in omega arith
        never (suc j) h q = omega arith

    all-joined : (m : List A) (i : ℕ) (ls : List ℕ) → i + length m ≤ n → ((j : ℕ) → j < length m → get_or l (i + j) d ≡ get_or m j d) → Good l ls
        → Joined l n e i m ls (join_all near n e i m ls)
    unfolding join_all
    all-joined [] i ls le h g = record { good = g; keeps = λ x y hx hy q. q; joins = λ j b q. absurd (omega arith) }
    all-joined (x ∷ m) i ls le h g =
        let one = one-joined i x ls (omega arith) (ap (λ (z : ℕ). get_or l z d) (omega arith) ∙ h 0 (omega arith)) g (near x e) refl in
        let r = all-joined m (i + 1) _ (omega arith) (λ j b. ap (λ (z : ℕ). get_or l z d) (omega arith) ∙ h (suc j) (omega arith)) one.good in
        record {
          good = r.good;
          keeps = λ y z hy hz q. r.keeps y z hy hz (one.keeps y z hy hz q);
          joins = joins one r;
        }
      where
        joins : (one : Joined l n e i (x ∷ []) ls (pick (near x e) (join (get_or ls i 0) (get_or ls n 0) ls) ls)) (r : Joined l n e (i + 1) m (pick (near x e) (join (get_or ls i 0) (get_or ls n 0) ls) ls) (join_all near n e (i + 1) m (pick (near x e) (join (get_or ls i 0) (get_or ls n 0) ls) ls)))
            → (j : ℕ) → j < length (x ∷ m) → near (get_or (x ∷ m) j d) e ≡ true
            → get_or (join_all near n e (i + 1) m (pick (near x e) (join (get_or ls i 0) (get_or ls n 0) ls) ls)) (i + j) 0 ≡ get_or (join_all near n e (i + 1) m (pick (near x e) (join (get_or ls i 0) (get_or ls n 0) ls) ls)) n 0
        joins one r zero b q = r.keeps (i + 0) n (omega arith) nl (one.joins 0 (omega arith) q)
        joins one r (suc j) b q =
            ap (λ (z : ℕ). get_or (join_all near n e (i + 1) m (pick (near x e) (join (get_or ls i 0) (get_or ls n 0) ls) ls)) z 0) (omega arith) ∙ r.joins j (omega arith) q

  -- all that are near are labelled alike
  abbrev pub Closed : List A → List ℕ → Type 0
  Closed l ls = (i j : ℕ) → i < length l → j < length l → near (get_or l i d) (get_or l j d) ≡ true → get_or ls i 0 ≡ get_or ls j 0

  -- the new one, labelled by its own number
  module _ (l : List A) (ls : List ℕ) (e : A) (g : Good l ls) where
    old : (i : ℕ) → i < length l → get_or (ls ++ (length l ∷ [])) i 0 ≡ get_or ls i 0
    old i h = get_or-append ls (length l ∷ []) 0 i (omega (arith, g.each))

    new : get_or (ls ++ (length l ∷ [])) (length l) 0 ≡ length l
    new = ap (λ (z : ℕ). get_or (ls ++ (length l ∷ [])) z 0) (sym g.each) ∙ get_d-end ls (length l) 0

    abbrev Place : ℕ → Type 0
    Place i = (i < length l) ⊎ (i ≡ length l)

    place : (i : ℕ) → i < length (l ++ (e ∷ [])) → Place i
    place i h = go (dec_lt i (length l))
      where
        go : Dec (i < length l) → Place i
        go (yes k) = inl k
        go (no k) = inr (let n = length-end l e in omega (arith, n))

    alone-sound : (i j : ℕ) → Place i → Place j → get_or (ls ++ (length l ∷ [])) i 0 ≡ get_or (ls ++ (length l ∷ [])) j 0 → Together near d (l ++ (e ∷ [])) i j
    alone-sound i j (inl a) (inl b) q = together-more l (e ∷ []) i j (g.sound i j a b (sym (old i a) ∙ q ∙ old j b))
    alone-sound i j (inl a) (inr b) q =
        let z : get_or ls i 0 ≡ length l = sym (old i a) ∙ q ∙ ap (λ (k : ℕ). get_or (ls ++ (length l ∷ [])) k 0) b ∙ new in
        let y = g.first i a in
        absurd (omega arith)
    alone-sound i j (inr a) (inl b) q =
        let z : get_or ls j 0 ≡ length l = sym (old j b) ∙ sym q ∙ ap (λ (k : ℕ). get_or (ls ++ (length l ∷ [])) k 0) a ∙ new in
        let y = g.first j b in
        absurd (omega arith)
    alone-sound i j (inr a) (inr b) q = subst (Together near d (l ++ (e ∷ [])) i) (a ∙ sym b) (self i)

    alone-first : (i : ℕ) → Place i → get_or (ls ++ (length l ∷ [])) i 0 ≤ i
    alone-first i (inl a) = let y = g.first i a in let z = old i a in omega arith
    alone-first i (inr a) = rw a (let z = new in omega arith)

    alone-named : (i : ℕ) → Place i → get_or (ls ++ (length l ∷ [])) (get_or (ls ++ (length l ∷ [])) i 0) 0 ≡ get_or (ls ++ (length l ∷ [])) i 0
    alone-named i (inl a) =
        let y = g.first i a in
        ap (λ (z : ℕ). get_or (ls ++ (length l ∷ [])) z 0) (old i a) ∙ old (get_or ls i 0) (omega arith) ∙ g.named i a ∙ sym (old i a)
    alone-named i (inr a) = let z : get_or (ls ++ (length l ∷ [])) i 0 ≡ length l = ap (λ (z : ℕ). get_or (ls ++ (length l ∷ [])) z 0) a ∙ new in ap (λ (z : ℕ). get_or (ls ++ (length l ∷ [])) z 0) (z ∙ sym a)

    alone : Good (l ++ (e ∷ [])) (ls ++ (length l ∷ []))
    alone =
        record {
          each = let x = length-end l e in let y = length-end ls (length l) in omega (arith, x, y, g.each);
          sound = λ i j hi hj q. alone-sound i j (place i hi) (place j hj) q;
          first = λ i h. alone-first i (place i h);
          named = λ i h. alone-named i (place i h);
        }

    abbrev grown : List ℕ
    grown = join_all near (length l) e 0 l (ls ++ (length l ∷ []))

    grown-joined : Joined (l ++ (e ∷ [])) (length l) e 0 l (ls ++ (length l ∷ [])) grown
    grown-joined =
        all-joined (l ++ (e ∷ [])) (length l) e (let x = length-end l e in omega (arith, x)) (get_d-end l e d) l 0 (ls ++ (length l ∷ [])) (omega arith)
        (λ j h. ap (λ (z : ℕ). get_or (l ++ (e ∷ [])) z d) (omega arith) ∙ get_or-append l (e ∷ []) d j h) alone

    was : (i : ℕ) → i < length l → get_or (l ++ (e ∷ [])) i d ≡ get_or l i d
    was i h = get_or-append l (e ∷ []) d i h

    last : (i : ℕ) → i ≡ length l → get_or (l ++ (e ∷ [])) i d ≡ e
    last i h = ap (λ (z : ℕ). get_or (l ++ (e ∷ [])) z d) h ∙ get_d-end l e d

    with-last : (i : ℕ) → i < length l → near (get_or l i d) e ≡ true → get_or grown i 0 ≡ get_or grown (length l) 0
    with-last i h q = ap (λ (z : ℕ). get_or grown z 0) (omega arith) ∙ grown-joined.joins i h q

    grown-closed : Closed l ls → (i j : ℕ) → Place i → Place j → near (get_or (l ++ (e ∷ [])) i d) (get_or (l ++ (e ∷ [])) j d) ≡ true → get_or grown i 0 ≡ get_or grown j 0
    grown-closed c i j (inl a) (inl b) q =
        let n = length-end l e in
        grown-joined.keeps i j (omega arith) (omega arith) (old i a ∙ c i j a b (rw (was i a, was j b) at q) ∙ sym (old j b))
    grown-closed c i j (inl a) (inr b) q = with-last i a (rw (was i a, last j b) at q) ∙ ap (λ (z : ℕ). get_or grown z 0) (sym b)
    grown-closed c i j (inr a) (inl b) q = ap (λ (z : ℕ). get_or grown z 0) a ∙ sym (with-last j b (swaps (get_or l j d) e ∙ (rw (was j b, last i a) at q)))
    grown-closed c i j (inr a) (inr b) q = ap (λ (z : ℕ). get_or grown z 0) (a ∙ sym b)

  from : (before : List A) (ls : List ℕ) (l : List A) → Good before ls → Closed before ls → Good (before ++ l) (labels_from near before ls l) × Closed (before ++ l) (labels_from near before ls l)
  unfolding labels_from
  from before ls [] g c = rw (append-nil before) (g, c)
  from before ls (e ∷ l) g c =
      rw (sym (append_assoc before (e ∷ []) l))
      (from (before ++ (e ∷ [])) (grown before ls e g) l (grown-joined before ls e g).good (λ i j a b. grown-closed before ls e g c i j (place before ls e g i a) (place before ls e g j b)))

  -- for code that joins labels by links of its own
  pub record JoinedTwo (l : List A) (ls ls' : List ℕ) (i k : ℕ) : Type 0 where
    pub good : Good l ls'
    pub keeps : (x y : ℕ) → x < length l → y < length l → get_or ls x 0 ≡ get_or ls y 0 → get_or ls' x 0 ≡ get_or ls' y 0
    pub joins : get_or ls' i 0 ≡ get_or ls' k 0

  pub joined-two : (l : List A) (ls : List ℕ) (i k : ℕ) → Good l ls → i < length l → k < length l → Together near d l i k → JoinedTwo l ls (join (get_or ls i 0) (get_or ls k 0) ls) i k
  unfolding a b
  joined-two l ls i k g il kl tg = record { good = join-good l ls g i k il kl tg; keeps = join-keeps l ls g i k il kl tg; joins = join-joins l ls g i k il kl tg }

  pub closed-together : (l : List A) (ls : List ℕ) → Closed l ls → (i j : ℕ) → Together near d l i j → get_or ls i 0 ≡ get_or ls j 0
  closed-together l ls c _ _ (self i) = refl
  closed-together l ls c _ _ (link i j a b e) = c i j a b e
  closed-together l ls c _ _ (chain i k j x y) = closed-together l ls c i k x ∙ closed-together l ls c k j y

pub good-labelled : {A : Type 0} (near : A → A → Bool) (swaps : Symmetric near) (d : A) (l : List A) (ls : List ℕ) → Good near swaps d l ls → Closed near swaps d l ls → Labelled near d l ls
good-labelled near swaps d l ls g c = record { each = g.each; together = λ i j a b. (g.sound i j a b, closed-together near swaps d l ls c i j); first = g.first; named = g.named }

pub labelled : AllLabelled
unfolding labels
labelled A near swaps d l =
    let g = from near swaps d [] [] l record { each = refl; sound = λ i j a. absurd (omega arith); first = λ i a. absurd (omega arith); named = λ i a. absurd (omega arith) } (λ i j a. absurd (omega arith)) in
    record {
      each = g.0.each;
      together = λ i j a b. (g.0.sound i j a b, closed-together near swaps d l (labels_from near [] [] l) g.1 i j);
      first = g.0.first;
      named = g.0.named;
    }

-- two lists that are equal at each place
same_lists : (l m : List ℕ) → length l ≡ length m → ((i : ℕ) → i < length l → get_or l i 0 ≡ get_or m i 0) → l ≡ m
same_lists [] [] n h = refl
same_lists [] (y ∷ m) n h = absurd (omega arith)
same_lists (x ∷ l) [] n h = absurd (omega arith)
same_lists (x ∷ l) (y ∷ m) n h = rw (h 0 (omega arith), same_lists l m (omega arith) (λ i k. h (suc i) (omega arith)))

-- a label is not above that of another labelling: its first is together with i, so has the same label there
not-above : {A : Type 0} (near : A → A → Bool) (d : A) (l : List A) (ls ms : List ℕ) → Labelled near d l ls → Labelled near d l ms → (i : ℕ) → i < length l → get_or ls i 0 ≤ get_or ms i 0
not-above near d l ls ms a b i h =
    let k : ℕ = get_or ms i 0 in
    let kl : k < length l = let y = b.first i h in omega arith in
    let e : get_or ls k 0 ≡ get_or ls i 0 = (a.together k i kl h).1 ((b.together k i kl h).0 (b.named i h)) in
    let y = a.first k kl in
    omega arith

pub one-labelling : OneLabelling
one-labelling A near swaps d l ls a =
    let b = labelled A near swaps d l in
    same_lists ls (labels near l) (a.each ∙ sym b.each)
    (λ i h. let il : i < length l = omega (arith, a.each) in let x = not-above near d l ls (labels near l) a b i il in let y = not-above near d l (labels near l) ls b a i il in omega arith)
