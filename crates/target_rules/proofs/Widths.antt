-- Rule 4: the widths of the banks' registers, one register after another.
use Prim.Native.Nat.{ℕ, zero, suc, ◌+◌, ◌<◌, ◌≤◌}
use mathlib.Core.Path.{◌≡◌, refl, sym, ap, ◌∙◌}
use mathlib.Core.Bool.{Bool, true, false, true≢false}
use mathlib.Core.List.{List}
use native.Mathlib.Omega.{arith}
use lib.Dec.{eqb, leb}
use lib.ListN.{length, get_or, set, length-set, replicate, length-replicate}
use lib.Seq.{get_or-set_same, get_or-set_other}
use borrow.Author.Tests.{eq-eqb, ne_eqb, eqb-true, eqb-false, ltb-true, leb-true}
use Rattle.entity.specs.Logic.{pick, and, no}
use Rattle.entity.proofs.Laws.{and-true}
use Rattle.reginfo.specs.RegInfo.{RegInfo, num_banks, num_regs, bank_for_reg, reg_units, is_memory_reg}
use Rattle.reginfo.specs.Refused.{some_below, outside_limits, width_differs, unfit_width, unequal_widths}
use Rattle.target_limits.proofs.Limits.{banks-few, counts_of, reg-limits}
use Rattle.target_rules.specs.Rules.{Widths}
use Rattle.target_limits.proofs.Walks.{some-below, none-below}

-- of the registers below i, and of register i
each_next : (P : ℕ → Type 0) (i : ℕ) → ((r : ℕ) → r < i → P r) → P i → (r : ℕ) → r < i + 1 → P r
each_next P i before here r h = go (eqb r i) refl
  where
    go : (b : Bool) → eqb r i ≡ b → P r
    go true e = rw (eqb-true r i e) here
    go false e = let n : r ≡ i → ⊥ = eqb-false r i e in before r (omega arith)

module _ (t : RegInfo) where
  -- a memory register of another width than one
  wide-memory : (r : ℕ) → r < num_regs t → is_memory_reg t r ≡ true → (length (reg_units t r) ≡ 1 → ⊥) → unequal_widths t ≡ true
  unfolding unequal_widths
  wide-memory r h m f = some-below (unfit_width t) (num_regs t) r h (rw (m, ne_eqb (length (reg_units t r)) 1 f))

  -- two registers of one bank that are not memory
  unequal : (r q : ℕ) → r < num_regs t → q < num_regs t → is_memory_reg t r ≡ false → is_memory_reg t q ≡ false → bank_for_reg t r ≡ bank_for_reg t q
      → (length (reg_units t r) ≡ length (reg_units t q) → ⊥) → unequal_widths t ≡ true
  unfolding unequal_widths
  unequal r q h k m n e f =
      some-below (unfit_width t) (num_regs t) r h
      (rw m (some-below (width_differs t r) (num_regs t) q k (rw (n, eq-eqb (bank_for_reg t r) (bank_for_reg t q) e, ne_eqb (length (reg_units t r)) (length (reg_units t q)) f))))

  -- at the end
  pub widths-equal : (w : List ℕ) → Widths t w (num_regs t) → unequal_widths t ≡ false
  unfolding unequal_widths
  widths-equal w k = none-below (unfit_width t) (num_regs t) (λ r h. fit r h (is_memory_reg t r) refl)
    where
      alike : (r q : ℕ) → r < num_regs t → q < num_regs t → is_memory_reg t r ≡ false → width_differs t r q ≡ false
      alike r q h g m = go (is_memory_reg t q) refl (eqb (bank_for_reg t r) (bank_for_reg t q)) refl
        where
          go : (a : Bool) → is_memory_reg t q ≡ a → (b : Bool) → eqb (bank_for_reg t r) (bank_for_reg t q) ≡ b → and (no a) (and b (no (eqb (length (reg_units t r)) (length (reg_units t q))))) ≡ false
          go true n b e = refl
          go false n true e =
              let one = eqb-true (bank_for_reg t r) (bank_for_reg t q) e in
              rw (eq-eqb (length (reg_units t r)) (length (reg_units t q)) (sym (k.same r h m) ∙ ap (λ (b : ℕ). get_or w b 0) one ∙ k.same q g n))
          go false n false e = refl

      fit : (r : ℕ) → r < num_regs t → (a : Bool) → is_memory_reg t r ≡ a → pick a (no (eqb (length (reg_units t r)) 1)) (some_below (num_regs t) (width_differs t r)) ≡ false
      fit r h true m = rw (eq-eqb (length (reg_units t r)) 1 (k.memory r h m))
      fit r h false m = none-below (width_differs t r) (num_regs t) (λ q g. alike r q h g m)

  -- within the limits
  module _ (h : outside_limits t ≡ false) where
    pub bank-low : (r : ℕ) → r < num_regs t → bank_for_reg t r < 8
    bank-low r k = omega (arith, ltb-true (bank_for_reg t r) (num_banks t) (reg-limits t h r k).1, banks-few t (counts_of t h))

    width_some : (r : ℕ) → r < num_regs t → 1 ≤ length (reg_units t r)
    width_some r k = leb-true 1 (length (reg_units t r)) (and-true (leb 1 (length (reg_units t r))) (leb (length (reg_units t r)) 8) (reg-limits t h r k).2).0

    -- register i, where w has the widths before it
    module _ (w : List ℕ) (i : ℕ) (k : i < num_regs t) (s : Widths t w i) where
      later : (b : ℕ) → (get_or w b 0 ≡ 0 → ⊥) → (r : ℕ) × (r < i + 1) × (is_memory_reg t r ≡ false) × (bank_for_reg t r ≡ b) × (length (reg_units t r) ≡ get_or w b 0)
      later b f = let o = s.from b f in (o.0, omega (arith, o.1), o.2, o.3, o.4)

      -- memory, or not the first of its bank
      pub widths-next : (is_memory_reg t i ≡ true → length (reg_units t i) ≡ 1) → (is_memory_reg t i ≡ false → get_or w (bank_for_reg t i) 0 ≡ length (reg_units t i)) → Widths t w (i + 1)
      widths-next m e =
          record {
            long = s.long;
            memory = each_next (λ r. is_memory_reg t r ≡ true → length (reg_units t r) ≡ 1) i s.memory m;
            same = each_next (λ r. is_memory_reg t r ≡ false → get_or w (bank_for_reg t r) 0 ≡ length (reg_units t r)) i s.same e;
            from = later;
          }

      pub widths-wide : is_memory_reg t i ≡ true → (length (reg_units t i) ≡ 1 → ⊥) → unequal_widths t ≡ true
      widths-wide = wide-memory i k

      -- not memory
      module _ (n : is_memory_reg t i ≡ false) where
        -- the first of its bank
        pub widths-first : get_or w (bank_for_reg t i) 0 ≡ 0 → Widths t (set w (bank_for_reg t i) (length (reg_units t i))) (i + 1)
        widths-first z =
            record {
              long = simp length-set s.long;
              memory = each_next (λ r. is_memory_reg t r ≡ true → length (reg_units t r) ≡ 1) i s.memory (λ m. absurd (true≢false (sym m ∙ n)));
              same = each_next (λ r. is_memory_reg t r ≡ false → get_or w' (bank_for_reg t r) 0 ≡ length (reg_units t r)) i before (λ _. here);
              from = from;
            }
          where
            w' : List ℕ
            w' = set w (bank_for_reg t i) (length (reg_units t i))

            here : get_or w' (bank_for_reg t i) 0 ≡ length (reg_units t i)
            here = get_or-set_same w (bank_for_reg t i) (length (reg_units t i)) 0 (omega (arith, bank-low i k, s.long))

            there : (b : ℕ) → (b ≡ bank_for_reg t i → ⊥) → get_or w' b 0 ≡ get_or w b 0
            there b f = get_or-set_other w (bank_for_reg t i) b (length (reg_units t i)) 0 f

            before : (r : ℕ) → r < i → is_memory_reg t r ≡ false → get_or w' (bank_for_reg t r) 0 ≡ length (reg_units t r)
            before r b m =
                let none : bank_for_reg t r ≡ bank_for_reg t i → length (reg_units t r) ≡ 0 = λ q. sym (s.same r b m) ∙ ap (λ (b : ℕ). get_or w b 0) q ∙ z in
                there (bank_for_reg t r) (λ q. omega (arith, width_some r (omega arith), none q)) ∙ s.same r b m

            from : (b : ℕ) → (get_or w' b 0 ≡ 0 → ⊥) → (r : ℕ) × (r < i + 1) × (is_memory_reg t r ≡ false) × (bank_for_reg t r ≡ b) × (length (reg_units t r) ≡ get_or w' b 0)
            from b f = go (eqb b (bank_for_reg t i)) refl
              where
                go : (x : Bool) → eqb b (bank_for_reg t i) ≡ x → (r : ℕ) × (r < i + 1) × (is_memory_reg t r ≡ false) × (bank_for_reg t r ≡ b) × (length (reg_units t r) ≡ get_or w' b 0)
                go true e =
                    let q = eqb-true b (bank_for_reg t i) e in
                    (i, omega arith, n, sym q, sym here ∙ ap (λ (b : ℕ). get_or w' b 0) (sym q))
                go false e =
                    let d = there b (eqb-false b (bank_for_reg t i) e) in
                    let o = later b (λ y. f (d ∙ y)) in
                    (o.0, o.1, o.2, o.3, o.4 ∙ sym d)

        pub widths-other : (get_or w (bank_for_reg t i) 0 ≡ 0 → ⊥) → (get_or w (bank_for_reg t i) 0 ≡ length (reg_units t i) → ⊥) → unequal_widths t ≡ true
        widths-other f g =
            let o = s.from (bank_for_reg t i) f in
            unequal o.0 i (omega (arith, o.1)) k o.2 n o.3 (λ e. g (sym o.4 ∙ e))

-- before the first register
abbrev zeros : ℕ → List ℕ
zeros n = replicate n 0

zeros-at : (n b : ℕ) → get_or (zeros n) b 0 ≡ 0
zeros-at zero b = refl
zeros-at (suc n) zero = refl
zeros-at (suc n) (suc b) = zeros-at n b

pub widths-none : (t : RegInfo) → Widths t (zeros 8) 0
widths-none t = record { long = length-replicate {A = ℕ} 8 0; memory = λ r h. absurd (omega arith); same = λ r h. absurd (omega arith); from = λ b f. absurd (f (zeros-at 8 b)) }
