-- What becomes of the entries of a patch: each ends, with its destination and its value, as a kept move or as a rebuild, and nothing else does.
use Prim.Native.Nat.{ℕ, suc, ◌<◌}
use mathlib.Core.Path.{◌≡◌, refl, sym, ap, ◌∙◌}
use mathlib.Core.Bool.{Bool, true, false, false≢true}
use mathlib.Core.List.{List, [], ◌∷◌, ◌++◌, map, Memᴰ}
use mathlib.Core.Logic.{◌⊎◌, inl, inr}
use native.Mathlib.Omega.{arith}
use lib.Dec.{eqb, eqb_refl}
use lib.ListN.{length, get_or}
use borrow.Author.Tests.{eqb-true}
use Rattle.entity.specs.Logic.{pick, and, or, no, any_in}
use Rattle.entity.specs.Place.{Place, reg, slot, same_place}
use Rattle.reginfo.specs.RegInfo.{RegInfo}
use Rattle.function.specs.Function.{Function}
use Rattle.rules.specs.Order.{KeptMove, Remat, no_move, dest, value, no_remat}
use Rattle.rules.specs.Patch.{Entry, move, remat, Patch, Sorted, destinations, becomes_remat, needs_scratch, same_move, dropped, add_remat, add_kept, add, sorted_from, sorted}
use Rattle.machine.specs.Claim.{entry_dest, entry_value}
use Rattle.machine.proofs.Tests.{of-yes}
use Rattle.machine.proofs.Premises.{remat_at}

-- tests
or-true : (a : Bool) → or a true ≡ true
or-true true = refl
or-true false = refl

or-false : (a : Bool) → or a false ≡ a
or-false true = refl
or-false false = refl

or_assoc : (a b c : Bool) → or a (or b c) ≡ or (or a b) c
or_assoc true b c = refl
or_assoc false b c = refl

or-both : (a b : Bool) → (b ≡ true → a ≡ true) → a ≡ or a b
or-both true b h = refl
or-both false true h = absurd (false≢true (h refl))
or-both false false h = refl

across : (a b c x : Bool) → or (or a x) (or b c) ≡ or (or a (or b c)) x
across true b c x = refl
across false true c true = refl
across false true c false = refl
across false false c true = sym (or-true c)
across false false c false = sym (or-false c)

middle : (a b c x : Bool) → or a (or (or b x) c) ≡ or (or a (or b c)) x
middle true b c x = refl
middle false true c x = refl
middle false false true true = refl
middle false false true false = refl
middle false false false x = or-false x

last : (a b c x : Bool) → or a (or b (or c x)) ≡ or (or a (or b c)) x
last true b c x = refl
last false true c x = refl
last false false c x = refl

both : {a b : Bool} → a ≡ true → b ≡ true → and a b ≡ true
both {a} {b} x y = rw (x, y)

and_parts : (a b : Bool) → and a b ≡ true → (a ≡ true) × (b ≡ true)
and_parts true b h = (refl, h)
and_parts false b h = absurd (false≢true h)

pub same_place_lem : (p q : Place) → same_place p q ≡ true → p ≡ q
same_place_lem (reg a) (reg b) h = ap reg (eqb-true a b h)
same_place_lem (slot a) (slot b) h = ap slot (eqb-true a b h)
same_place_lem (reg a) (slot b) h = absurd (false≢true h)
same_place_lem (slot a) (reg b) h = absurd (false≢true h)

itself : (p : Place) → same_place p p ≡ true
itself (reg a) = of-yes _ (eqb_refl a)
itself (slot a) = of-yes _ (eqb_refl a)

any-end : {A : Type 0} (p : A → Bool) (l : List A) (x : A) → any_in p (l ++ (x ∷ [])) ≡ or (any_in p l) (p x)
unfolding any_in
any-end p [] x = or-false (p x)
any-end p (y ∷ l) x = ap (or (p y)) (any-end p l x) ∙ or_assoc (p y) (any_in p l) (p x)

any-join : {A B : Type 0} (p : B → Bool) (g : A → B) (l : List A) (m : List B) → any_in p (map g l ++ m) ≡ or (any_in (λ x. p (g x)) l) (any_in p m)
unfolding any_in
any-join p g [] m = refl
any-join p g (x ∷ l) m = ap (or (p (g x))) (any-join p g l m) ∙ or_assoc (p (g x)) (any_in (λ x. p (g x)) l) (any_in p m)

any-map : {A B : Type 0} (p : B → Bool) (g : A → B) (l : List A) → any_in p (map g l) ≡ any_in (λ x. p (g x)) l
unfolding any_in
any-map p g [] = refl
any-map p g (x ∷ l) = ap (or (p (g x))) (any-map p g l)

any-in : {A : Type 0} (p : A → Bool) (l : List A) (x : A) → Memᴰ x l → p x ≡ true → any_in p l ≡ true
unfolding any_in
any-in {A = A} p [] x x4 h = elim x4 [ ]
any-in p (y ∷ l) x (Memᴰ.head e) h = rw (← e, h)
any-in p (y ∷ l) x (Memᴰ.tail m) h = rw (any-in p l x m h) (or-true (p y))

any_where : {A : Type 0} (p : A → Bool) (l : List A) (d : A) → any_in p l ≡ true → (i : ℕ) × (i < length l) × (p (get_or l i d) ≡ true)
unfolding any_in
any_where p [] d h = absurd (false≢true h)
any_where {A} p (y ∷ l) d h = go (any_where p l d) (p y) refl h
  where
    go : (any_in p l ≡ true → (i : ℕ) × (i < length l) × (p (get_or l i d) ≡ true)) → (b : Bool) → p y ≡ b → or b (any_in p l) ≡ true → (i : ℕ) × (i < length (y ∷ l)) × (p (get_or (y ∷ l) i d) ≡ true)
    go later true e h = (0, omega arith, e)
    go later false e h = let w = later h in (suc w.0, omega (arith, w.1), w.2)

module _ (t : RegInfo) (f : Function) (q : Place → ℕ → Bool) where
  -- a kept move or a rebuild passes, by its destination and value
  abbrev pub ends : Sorted → Bool
  ends a = or (any_in (λ (m : KeptMove). q m.dest m.value) a.moves) (or (any_in (λ (r : Remat). q r.dest r.value) a.remats) (any_in (λ (r : Remat). q r.dest r.value) a.remats_with_scratch))

  ends-remat : (b : Bool) (d : Place) (v : ℕ) (a : Sorted) → ends (add_remat t f b d v a) ≡ or (ends a) (q d v)
  ends-remat true d v a = rw any-end (last (any_in _ a.moves) (any_in _ a.remats) (any_in _ a.remats_with_scratch) (q d v))
  ends-remat false d v a = rw any-end (middle (any_in _ a.moves) (any_in _ a.remats) (any_in _ a.remats_with_scratch) (q d v))

  -- a dropped move is one that is kept, in destination and value
  passes : (s d : Place) (v : ℕ) (l : List KeptMove) → any_in (same_move t f s d v) l ≡ true → q d v ≡ true → any_in (λ (m : KeptMove). q m.dest m.value) l ≡ true
  unfolding any_in
  passes s d v [] h e = absurd (false≢true h)
  passes s d v (m ∷ l) h e = go (λ x. passes s d v l x e) (same_move t f s d v m) refl h
    where
      go : (any_in (same_move t f s d v) l ≡ true → any_in (λ (m : KeptMove). q m.dest m.value) l ≡ true) → (b : Bool) → same_move t f s d v m ≡ b → or b (any_in (same_move t f s d v) l) ≡ true → or (q m.dest m.value) (any_in (λ (m : KeptMove). q m.dest m.value) l) ≡ true
      go later true w h =
          let x = (and_parts (same_place m.source s) _ w).1 in
          let y = and_parts (same_place m.dest d) (eqb m.value v) x in
          rw (same_place_lem m.dest d y.0, eqb-true m.value v y.1, e)
      go later false w h = rw (later h) (or-true (q m.dest m.value))

  ends-kept : (b : Bool) (s d : Place) (v : ℕ) (a : Sorted) → (b ≡ true → any_in (same_move t f s d v) a.moves ≡ true) → ends (add_kept t f b s d v a) ≡ or (ends a) (q d v)
  ends-kept true s d v a h = or-both (ends a) (q d v) (λ e. rw (passes s d v a.moves (h refl) e))
  ends-kept false s d v a h = rw any-end (across (any_in _ a.moves) (any_in _ a.remats) (any_in _ a.remats_with_scratch) (q d v))

  ends-add : (e : Entry) (a : Sorted) → ends (add t f e a) ≡ or (ends a) (q (entry_dest e) (entry_value e))
  unfolding add
  ends-add (remat d v) a = ends-remat (needs_scratch t f d v) d v a
  ends-add (move s d v) a = go (becomes_remat t f s d v) refl
    where
      go : (b : Bool) → becomes_remat t f s d v ≡ b → ends (pick b (add_remat t f (needs_scratch t f d v) d v a) (add_kept t f (dropped t f a s d v) s d v a)) ≡ or (ends a) (q d v)
      go true e = ends-remat (needs_scratch t f d v) d v a
      go false e = ends-kept (dropped t f a s d v) s d v a (λ h. (and_parts (no (becomes_remat t f s d v)) (any_in (same_move t f s d v) a.moves) h).1)

  ends-from : (l : List Entry) (a : Sorted) → ends (sorted_from t f l a) ≡ or (ends a) (any_in (λ e. q (entry_dest e) (entry_value e)) l)
  unfolding any_in sorted_from
  ends-from [] a = sym (or-false (ends a))
  ends-from (e ∷ l) a = ends-from l (add t f e a) ∙ ap (λ (b : Bool). or b (any_in (λ e. q (entry_dest e) (entry_value e)) l)) (ends-add e a) ∙ sym (or_assoc (ends a) (q (entry_dest e) (entry_value e)) _)

  pub ends-are : (p : Patch) → ends (sorted t f p) ≡ any_in (λ e. q (entry_dest e) (entry_value e)) p.entries
  unfolding any_in
  ends-are p = ends-from p.entries _

module _ (t : RegInfo) (f : Function) (p : Patch) where
  -- a rebuild of the value v into d is listed
  abbrev At : List Remat → Place → ℕ → Type 0
  At l d v = (i : ℕ) × (i < length l) × (d ≡ (remat_at t f l i).dest) × (v ≡ (remat_at t f l i).value)

  -- a kept move or a rebuild, with or without scratch, has the entry's destination and value
  abbrev pub Became : Entry → Type 0
  Became e =
      ((i : ℕ) × (i < length (sorted t f p).moves) × (entry_dest e ≡ dest t f (sorted t f p).moves i) × (entry_value e ≡ value t f (sorted t f p).moves i))
      ⊎ (At (sorted t f p).remats (entry_dest e) (entry_value e) ⊎ At (sorted t f p).remats_with_scratch (entry_dest e) (entry_value e))

  -- the destinations of what the entries became are those of the entries
  pub dests-are : (q : Place → Bool) → any_in q (destinations (sorted t f p)) ≡ any_in (λ e. q (entry_dest e)) p.entries
  unfolding destinations
  dests-are q = rw (any-join, any-join, any-map) (ends-are t f (λ d v. q d) p)

  -- each entry's destination and value are those of a kept move or of a rebuild
  pub entry-ends : (e : Entry) → Memᴰ e p.entries → Became e
  entry-ends e m = go (any_in _ (sorted t f p).moves) (any_in _ (sorted t f p).remats) (any_in _ (sorted t f p).remats_with_scratch) refl refl refl passed
    where
      is : Place → ℕ → Bool
      is d v = and (same_place (entry_dest e) d) (eqb (entry_value e) v)

      passed : ends t f is (sorted t f p) ≡ true
      passed = ends-are t f is p ∙ any-in _ p.entries e m (both (itself (entry_dest e)) (of-yes _ (eqb_refl (entry_value e))))

      told : (d : Place) (v : ℕ) → is d v ≡ true → (entry_dest e ≡ d) × (entry_value e ≡ v)
      told d v h = let y = and_parts (same_place (entry_dest e) d) _ h in (same_place_lem (entry_dest e) d y.0, eqb-true (entry_value e) v y.1)

      go : (a b c : Bool) → any_in (λ (m : KeptMove). is m.dest m.value) (sorted t f p).moves ≡ a → any_in (λ (r : Remat). is r.dest r.value) (sorted t f p).remats ≡ b → any_in (λ (r : Remat). is r.dest r.value) (sorted t f p).remats_with_scratch ≡ c → or a (or b c) ≡ true → Became e
      go true b c x y z h = let w = any_where _ (sorted t f p).moves no_move x in let r = told _ _ w.2 in inl (w.0, w.1, r.0, r.1)
      go false true c x y z h = let w = any_where _ (sorted t f p).remats no_remat y in let r = told _ _ w.2 in inr (inl (w.0, w.1, r.0, r.1))
      go false false true x y z h = let w = any_where _ (sorted t f p).remats_with_scratch no_remat z in let r = told _ _ w.2 in inr (inr (w.0, w.1, r.0, r.1))
      go false false false x y z h = absurd (false≢true h)
