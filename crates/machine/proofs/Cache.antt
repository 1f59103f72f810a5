-- The slot cache: a slot taken, and one put back.
use mathlib.Core.Path.{◌≡◌, refl, sym, ◌∙◌, ap, subst}
use mathlib.Core.Bool.{not}
use mathlib.Core.List.{List, [], ◌∷◌}
use mathlib.Core.Option.{some, none}
use mathlib.Core.Logic.{◌⊎◌, inl, inr, ⊎_elim}
use Prim.Native.Nat.{ℕ, ◌+◌, ◌≤◌, ◌<◌}
use native.Mathlib.Omega.{arith}
use lib.Dec.{T, T_not, not_T, eqb, eqb_refl, ltb}
use Rattle.entity.specs.Logic.{has}
use Rattle.reginfo.specs.RegInfo.{RegInfo}
use Rattle.function.specs.Function.{Function}
use Rattle.rules.specs.Edit.{updated}
use Rattle.rules.specs.Scratch.{Cache, Acquired, acquire_from, acquire, release}
use Rattle.rules.proofs.Steps.{All, updated-at, updated-same}
use Rattle.machine.proofs.Tests.{has_in, has-cons, or_l, or_r, and_split, both, if}
use Rattle.machine.proofs.Memory.{distinct}

module _ (t : RegInfo) (F : Function) where
  -- in a stack, or not made yet
  abbrev pub Loose : Cache → ℕ → Type 0
  Loose p s = ((z : ℕ) × T (has_in (p.stacks z) s)) ⊎ (F.slots + p.made ≤ s)

  pub record CacheOk (p : Cache) : Type 0 where
    pub once : (z : ℕ) → T (distinct (p.stacks z))
    pub sole : (a b s : ℕ) → T (has_in (p.stacks a) s) → T (has_in (p.stacks b) s) → a ≡ b
    pub low : (z s : ℕ) → T (has_in (p.stacks z) s) → F.slots ≤ s
    pub made : (z s : ℕ) → T (has_in (p.stacks z) s) → s < F.slots + p.made

  -- s is taken: it was loose, and what is loose now was so and isn't s
  pub record Taken (p : Cache) (r : Acquired) : Type 0 where
    pub ok : CacheOk r.cache
    pub was : Loose p r.slot
    pub isnt : (x : ℕ) → Loose r.cache x → Loose p x × (x ≡ r.slot → ⊥)
    pub above : F.slots ≤ r.slot
    pub below : r.slot < F.slots + r.cache.made
    pub grows : p.made ≤ r.cache.made

  take-list : (z : ℕ) (p : Cache) → CacheOk p → (l : List ℕ) → p.stacks z ≡ l → All (Taken p) (acquire_from t F l z p)
  unfolding acquire_from has distinct
  take-list z p ok [] e =
      if (All (Taken p)) (ltb p.made F.limit) (some (record { slot = F.slots + p.made; cache = record { stacks = p.stacks; made = p.made + 1 } })) none
      (λ h. record {
        ok = record { once = ok.once; sole = ok.sole; low = ok.low; made = λ a s k. omega (arith, ok.made a s k) };
        was = inr (omega arith);
        isnt = λ x. ⊎_elim (λ k. (inl k, λ q. omega (arith, ok.made k.0 x k.1))) (λ k. (inr (omega arith), λ q. omega arith));
        above = omega arith;
        below = omega arith;
        grows = omega arith;
      })
      (λ h. tt)
  take-list z p ok (s ∷ ss) e =
      record {
        ok =
            record {
              once = λ a. updated-at (λ y. T (distinct y)) z ss p.stacks a (λ _. sep.1) (λ _. ok.once a);
              sole = λ a b x h k. ok.sole a b x (sub a x h) (sub b x k);
              low = λ a x h. ok.low a x (sub a x h);
              made = λ a x h. ok.made a x (sub a x h);
            };
        was = inl (z, top);
        isnt = λ x.
            ⊎_elim (λ k. (inl (k.0, sub k.0 x k.1), λ q. T_not (has_in ss s) sep.0 (gone k.0 x q k.1)))
            (λ k. (inr k, λ q. let b : s < F.slots + p.made = ok.made z s top in omega arith));
        above = ok.low z s top;
        below = ok.made z s top;
        grows = omega arith;
      }
    where
      sep : T (not (has_in ss s)) × T (distinct ss)
      sep = and_split (not (has_in ss s)) (distinct ss) (subst (λ (y : List ℕ). T (distinct y)) e (ok.once z))

      top : T (has_in (p.stacks z) s)
      top = subst (λ (y : List ℕ). T (has_in y s)) (sym e) (or_l (eqb s s) (has_in ss s) (eqb_refl s))

      sub : (a x : ℕ) → T (has_in (updated z ss p.stacks a) x) → T (has_in (p.stacks a) x)
      sub a x =
          updated-at (λ y. T (has_in y x) → T (has_in (p.stacks a) x)) z ss p.stacks a
          (λ q h. subst (λ (y : List ℕ). T (has_in y x)) (sym (ap p.stacks q ∙ e)) (or_r (eqb x s) (has_in ss x) h)) (λ _ h. h)

      -- s is in no stack any more
      gone : (a x : ℕ) → x ≡ s → T (has_in (updated z ss p.stacks a) x) → T (has_in ss s)
      gone a x q h =
          let h' : T (has_in (updated z ss p.stacks a) s) = subst (λ (y : ℕ). T (has_in (updated z ss p.stacks a) y)) q h in
          let az : a ≡ z = ok.sole a z s (sub a s h') top in
          subst (λ (y : List ℕ). T (has_in y s)) (ap (updated z ss p.stacks) az ∙ updated-same z ss p.stacks) h'

  pub take-ok : (z : ℕ) (p : Cache) → CacheOk p → All (Taken p) (acquire t F z p)
  take-ok z p ok = take-list z p ok (p.stacks z) refl

  given : (z s : ℕ) (p : Cache) (a x : ℕ) → T (has_in ((release t F z s p).stacks a) x) → ((x ≡ s) × (a ≡ z)) ⊎ T (has_in (p.stacks a) x)
  given z s p a x =
      updated-at (λ y. T (has_in y x) → ((x ≡ s) × (a ≡ z)) ⊎ T (has_in (p.stacks a) x)) z (s ∷ p.stacks z) p.stacks a
      (λ q h. ⊎_elim (λ e. inl (e, q)) (λ i. inr (subst (λ (y : ℕ). T (has_in (p.stacks y) x)) (sym q) i)) (has-cons (p.stacks z) s x h)) (λ _ h. inr h)

  pub give-ok : (z s : ℕ) (p : Cache) → F.slots ≤ s → s < F.slots + p.made → (Loose p s → ⊥) → CacheOk p → CacheOk (release t F z s p)
  unfolding distinct
  give-ok z s p a b f ok =
      record {
        once = λ y.
            updated-at (λ l. T (distinct l)) z (s ∷ p.stacks z) p.stacks y
            (λ _. both (not (has_in (p.stacks z) s)) (distinct (p.stacks z)) (not_T (has_in (p.stacks z) s) (λ k. f (inl (z, k)))) (ok.once z)) (λ _. ok.once y);
        sole = λ c d x h k.
            ⊎_elim
            (λ e. ⊎_elim (λ q. e.1 ∙ sym q.1) (λ q. absurd (f (inl (d, subst (λ (y : ℕ). T (has_in (p.stacks d) y)) e.0 q)))) (given z s p d x k))
            (λ e. ⊎_elim (λ q. absurd (f (inl (c, subst (λ (y : ℕ). T (has_in (p.stacks c) y)) q.0 e)))) (λ q. ok.sole c d x e q) (given z s p d x k)) (given z s p c x h);
        low = λ y x k. ⊎_elim (λ e. let q : x ≡ s = e.0 in omega arith) (ok.low y x) (given z s p y x k);
        made = λ y x k. ⊎_elim (λ e. let q : x ≡ s = e.0 in omega arith) (ok.made y x) (given z s p y x k);
      }

  pub loose-give : (z s : ℕ) (p : Cache) (x : ℕ) → Loose (release t F z s p) x → (x ≡ s) ⊎ Loose p x
  loose-give z s p x (inl k) = ⊎_elim (λ e. inl e.0) (λ i. inr (inl (k.0, i))) (given z s p k.0 x k.1)
  loose-give z s p x (inr k) = inr (inr k)
