-- Who carries which value: the count of a value is the number of its carriers, and no move carries a value twice.
use mathlib.Core.Path.{◌≡◌, refl, sym, ◌∙◌, ap, subst}
use mathlib.Core.Bool.{Bool, true, false, not, ◌&&◌, ◌||◌}
use mathlib.Core.List.{List, [], ◌∷◌, ◌++◌}
use mathlib.Core.Logic.{◌⊎◌, inl, inr, ⊎_elim}
use Prim.Native.Nat.{ℕ, suc, ◌≤◌, ◌<◌}
use native.Mathlib.Omega.{arith}
use lib.Dec.{T, T_not, eqb, eqb_refl}
use Rattle.entity.specs.Logic.{has}
use Rattle.rules.specs.Edit.{updated}
use Rattle.rules.specs.Order.{State, is_pending, Diverted, carry_one, carry}
use Rattle.rules.proofs.Steps.{updated-at, updated-same, updated-other}
use Rattle.machine.proofs.Tests.{has_in, has-cons, has-head, has-tail, has_other, or_split, or_r, and_split, both, if}
use Rattle.machine.proofs.Memory.{distinct}
use Rattle.machine.proofs.Tally.{tally, tally-cong, tally-up}

module _ (n : ℕ) where
  pub record TabOk (b : Diverted) : Type 0 where
    pub counts : (v : ℕ) → b.ref_count v ≡ tally (λ k. has_in (b.values k) v) n
    pub once : (k : ℕ) → T (distinct (b.values k))

  pub record Grown (v : ℕ) (st : ℕ → State) (b b' : Diverted) : Type 0 where
    pub ok : TabOk b'
    pub only : (i x : ℕ) → T (has_in (b'.values i) x) → T (has_in (b.values i) x) ⊎ T (is_pending (st i))
    pub more : (i x : ℕ) → T (has_in (b.values i) x) → T (has_in (b'.values i) x)
    pub others : (x : ℕ) → (x ≡ v → ⊥) → b'.ref_count x ≡ b.ref_count x
    pub up : b.ref_count v ≤ b'.ref_count v

  snoc-self : (l : List ℕ) (v : ℕ) → T (has_in (l ++ (v ∷ [])) v)
  unfolding has
  snoc-self [] v = has-head [] v
  snoc-self (u ∷ l) v = or_r (eqb v u) (has_in (l ++ (v ∷ [])) v) (snoc-self l v)

  snoc-more : (l : List ℕ) (v x : ℕ) → T (has_in l x) → T (has_in (l ++ (v ∷ [])) x)
  unfolding has
  snoc-more [] v x h = absurd h
  snoc-more (u ∷ l) v x h = go (eqb x u) h (λ y. snoc-more l v x y)
    where
      go : (b : Bool) → T (b || has_in l x) → (T (has_in l x) → T (has_in (l ++ (v ∷ [])) x)) → T (b || has_in (l ++ (v ∷ [])) x)
      go true h r = tt
      go false h r = r h

  snoc-other : (l : List ℕ) (v x : ℕ) → (x ≡ v → ⊥) → has_in (l ++ (v ∷ [])) x ≡ has_in l x
  unfolding has
  snoc-other [] v x d = has_other [] v x d
  snoc-other (u ∷ l) v x d = ap (λ z. eqb x u || z) (snoc-other l v x d)

  snoc-distinct : (l : List ℕ) (v : ℕ) → T (not (has_in l v)) → T (distinct l) → T (distinct (l ++ (v ∷ [])))
  unfolding has distinct
  snoc-distinct [] v a b = tt
  snoc-distinct (u ∷ l) v a b =
      let q = or_split (eqb v u) (has_in l v) a in
      let s = and_split (not (has_in l u)) (distinct l) b in
      let d : u ≡ v → ⊥ = (λ e. T_not (eqb v u) q.0 (subst (λ (z : ℕ). T (eqb v z)) (sym e) (eqb_refl v))) in
      both (not (has_in (l ++ (v ∷ [])) u)) (distinct (l ++ (v ∷ []))) (subst (λ (z : Bool). T (not z)) (sym (snoc-other l v u d)) s.0) (snoc-distinct l v q.1 s.1)

  grown-refl : (v : ℕ) (st : ℕ → State) (b : Diverted) → TabOk b → Grown v st b b
  grown-refl v st b o = record { ok = o; only = λ i x h. inl h; more = λ i x h. h; others = λ x d. refl; up = omega arith }

  grown-trans : (v : ℕ) (st : ℕ → State) (a b c : Diverted) → Grown v st a b → Grown v st b c → Grown v st a c
  grown-trans v st a b c g h =
      record { ok = h.ok; only = λ i x y. ⊎_elim (g.only i x) (λ z. inr z) (h.only i x y); more = λ i x y. h.more i x (g.more i x y); others = λ x d. h.others x d ∙ g.others x d; up = omega (arith, g.up, h.up) }

  mark-one : (v : ℕ) (st : ℕ → State) (k : ℕ) (b : Diverted) → k < n → TabOk b
      → Grown v st b (carry_one v st k b) × (T (is_pending (st k)) → T (has_in ((carry_one v st k b).values k) v))
  unfolding carry_one
  mark-one v st k b l o =
      if (λ (y : Diverted). Grown v st b y × (T (is_pending (st k)) → T (has_in (y.values k) v))) (is_pending (st k) && not (has_in (b.values k) v)) b' b (λ h. (grown h, λ _. put))
      (λ h. (grown-refl v st b o, λ op. not-not (is_pending (st k)) (has_in (b.values k) v) op h))
    where
      b' : Diverted
      b' = record { ref_count = updated v (suc (b.ref_count v)) b.ref_count; values = updated k (b.values k ++ (v ∷ [])) b.values }

      not-not : (a b : Bool) → T a → T (not (a && not b)) → T b
      not-not true true x y = tt
      not-not true false x y = y
      not-not false b x y = absurd x

      put : T (has_in (updated k (b.values k ++ (v ∷ [])) b.values k) v)
      put = updated-at (λ y. T (has_in y v)) k (b.values k ++ (v ∷ [])) b.values k (λ e. snoc-self (b.values k) v) (λ d. absurd (d refl))

      grown : T (is_pending (st k) && not (has_in (b.values k) v)) → Grown v st b b'
      grown h =
          record {
            ok =
                record {
                  counts = λ x.
                      updated-at (λ y. y ≡ tally (λ i. has_in (updated k (b.values k ++ (v ∷ [])) b.values i) x) n) v (suc (b.ref_count v)) b.ref_count x
                      (λ e. subst (λ (z : ℕ). suc (b.ref_count v) ≡ tally (λ i. has_in (updated k (b.values k ++ (v ∷ [])) b.values i) z) n) (sym e)
                      (ap suc (o.counts v) ∙ sym (tally-up (λ i. has_in (b.values i) v) (λ i. has_in (updated k (b.values k ++ (v ∷ [])) b.values i) v) n k l (and_split (is_pending (st k)) (not (has_in (b.values k) v)) h).1 put
                      (λ i d. ap (λ y. has_in y v) (sym (updated-other k (b.values k ++ (v ∷ [])) b.values i d))))))
                      (λ d. o.counts x ∙ tally-cong (λ i. has_in (b.values i) x) (λ i. has_in (updated k (b.values k ++ (v ∷ [])) b.values i) x) n
                      (λ i _. updated-at (λ y. has_in (b.values i) x ≡ has_in y x) k (b.values k ++ (v ∷ [])) b.values i
                      (λ e. subst (λ (z : ℕ). has_in (b.values z) x ≡ has_in (b.values k ++ (v ∷ [])) x) (sym e) (sym (snoc-other (b.values k) v x d))) (λ _. refl)));
                  once = λ i.
                      updated-at (λ y. T (distinct y)) k (b.values k ++ (v ∷ [])) b.values i
                      (λ _. snoc-distinct (b.values k) v (and_split (is_pending (st k)) (not (has_in (b.values k) v)) h).1 (o.once k)) (λ _. o.once i);
                };
            only = λ i x.
                updated-at (λ z. T (has_in z x) → T (has_in (b.values i) x) ⊎ T (is_pending (st i))) k (b.values k ++ (v ∷ [])) b.values i
                (λ e _. inr (subst (λ (z : ℕ). T (is_pending (st z))) (sym e) (and_split (is_pending (st k)) (not (has_in (b.values k) v)) h).0)) (λ _ y. inl y);
            more = λ i x y.
                updated-at (λ z. T (has_in z x)) k (b.values k ++ (v ∷ [])) b.values i
                (λ e. snoc-more (b.values k) v x (subst (λ (z : ℕ). T (has_in (b.values z) x)) e y)) (λ _. y);
            others = λ x d. updated-other v (suc (b.ref_count v)) b.ref_count x d;
            up = omega (arith, updated-same v (suc (b.ref_count v)) b.ref_count);
          }

  pub mark-ok : (v : ℕ) (st : ℕ → State) (ks : List ℕ) (b : Diverted) → ((k : ℕ) → T (has_in ks k) → k < n) → TabOk b
      → Grown v st b (carry v st ks b) × ((k : ℕ) → T (has_in ks k) → T (is_pending (st k)) → T (has_in ((carry v st ks b).values k) v))
  unfolding carry has
  mark-ok v st [] b l o = (grown-refl v st b o, λ k h. absurd h)
  mark-ok v st (k ∷ ks) b l o =
      let one = mark-one v st k b (l k (has-head ks k)) o in
      let rest = mark-ok v st ks (carry_one v st k b) (λ i h. l i (has-tail ks k i h)) one.0.ok in (
        grown-trans v st b (carry_one v st k b) (carry v st ks (carry_one v st k b)) one.0 rest.0,
        λ i h op.
            ⊎_elim
            (λ e. rest.0.more i v (subst (λ (z : ℕ). T (has_in ((carry_one v st k b).values z) v)) (sym e) (one.1 (subst (λ (z : ℕ). T (is_pending (st z))) e op))))
            (λ y. rest.1 i y op) (has-cons ks k i h),
      )
