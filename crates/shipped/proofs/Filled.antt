-- A table after the writes of the shipped target is read as the shipped target. What a cell holds is looked up in the writes, so that
-- the whole target is one computation, whatever the table held.
use Prim.Native.Nat.{ℕ, zero, suc, ◌+◌, ◌*◌, ◌/◌, ◌%◌, ◌<◌, ◌≤◌}
use mathlib.Core.Path.{◌≡◌, refl, ap, ◌∙◌, fun_ext}
use mathlib.Core.Bool.{Bool, true, false}
use mathlib.Core.List.{List, [], ◌∷◌, map}
use native.Mathlib.Omega.{arith}
use lib.Dec.{eqb, ltb, leb}
use lib.ListN.{get_or, length, set, length-set}
use lib.Seq.{get_or-set_same, get_or-set_other}
use borrow.Author.Tests.{eqb-true, eqb-false, lt-ltb, ltb-true, leb-true}
use Rattle.entity.specs.Logic.{pick, and, all_in, indices, cells}
use Rattle.reginfo.specs.RegInfo.{Bank, Reg, Class, RegInfo}
use Rattle.reginfo.specs.Table.{bank_at, reg_at, class_at, reg_info_of, Indexed}
use Rattle.shipped.specs.Shipped.{shipped_units, bank_of, bank_regs, shipped_bank, shipped_reg, shipped_class, shipped}
use Rattle.shipped.specs.Writes.{Write, written, rising, copied, reg_writes, regs_writes, class_writes, bank_writes, shipped_writes}
use Rattle.shipped.proofs.Rule.{alike}

-- what a cell that held d holds after the writes
look : ℕ → List Write → ℕ → ℕ
look d [] i = d
look d (w ∷ l) i = look (pick (eqb i w.cell) w.word d) l i

inside : List Write → Bool
inside l = all_in (λ w. ltb w.cell 107520) l

get_d_set : (t : List ℕ) (j x i : ℕ) → j < length t → get_or (set t j x) i 0 ≡ pick (eqb i j) x (get_or t i 0)
get_d_set t j x i h = go (eqb i j) refl
  where
    go : (b : Bool) → eqb i j ≡ b → get_or (set t j x) i 0 ≡ pick b x (get_or t i 0)
    go true e = rw (eqb-true i j e) (get_or-set_same t j x 0 h)
    go false e = get_or-set_other t j i x 0 (eqb-false i j e)

and_both : (a b : Bool) → and a b ≡ true → (a ≡ true) × (b ≡ true)
and_both true b e = (refl, e)
and_both false b e = absurd (let z : ◌≡◌ {A = ℕ} 0 1 = cc in omega arith)

looked : (t : List ℕ) (l : List Write) → length t ≡ 107520 → inside l ≡ true → (i : ℕ) → get_or (written t l) i 0 ≡ look (get_or t i 0) l i
unfolding written look inside all_in
looked t [] s e i = refl
looked t (w ∷ l) s e i =
    let p = and_both (ltb w.cell 107520) (inside l) e in
    let h : w.cell < length t = rw s (ltb-true _ _ p.0) in
    looked (set t w.cell w.word) l (length-set t w.cell w.word ∙ s) p.1 i ∙ ap (λ (d : ℕ). look d l i) (get_d_set t w.cell w.word i h)

-- a target as its cells give it
cells_by : (ℕ → ℕ) → ℕ → ℕ → List ℕ
cells_by g i zero = []
cells_by g i (suc n) = g i ∷ cells_by g (i + 1) n

bank_by : (ℕ → ℕ) → ℕ → Bank
bank_by g b = record { size = g (8704 + b * 4); top = g (8705 + b * 4); stack = g (8706 + b * 4) }

reg_by : (ℕ → ℕ) → ℕ → Reg
reg_by g r = record { memory = g (r * 16); bank = g (1 + r * 16); units = cells_by g (8 + r * 16) (g (2 + r * 16)) }

class_by : (ℕ → ℕ) → ℕ → Class
class_by g c = record { bank = g (8192 + c * 8); slots = g (8193 + c * 8); members = cells_by g (9216 + c * 512) (g (8194 + c * 8)); order = cells_by g (41984 + c * 512) (g (8195 + c * 8)) }

info_by : (ℕ → ℕ) → RegInfo
info_by g = record { units = g 8736; banks = map (bank_by g) (indices 0 (g 8737)); regs = map (reg_by g) (indices 0 (g 8738)); classes = map (class_by g) (indices 0 (g 8739)) }

module _ (t : List ℕ) where
  abbrev held : ℕ → ℕ
  held i = get_or t i 0

  cells-by : (i n : ℕ) → cells t i n ≡ cells_by held i n
  unfolding cells cells_by
  cells-by i zero = refl
  cells-by i (suc n) = ap (λ (l : List ℕ). get_or t i 0 ∷ l) (cells-by (i + 1) n)

  bank-by : bank_at t ≡ bank_by held
  unfolding bank_at bank_by
  bank-by = refl

  reg-by : reg_at t ≡ reg_by held
  unfolding reg_at reg_by
  reg-by = fun_ext (λ r. rw cells-by)

  class-by : class_at t ≡ class_by held
  unfolding class_at class_by
  class-by = fun_ext (λ c. rw (cells-by (9216 + c * 512), cells-by (41984 + c * 512)))

  info-by : reg_info_of t ≡ info_by held
  unfolding reg_info_of info_by
  info-by = rw (bank-by, reg-by, class-by)

module _ (t : List ℕ) (s : length t ≡ 107520) where
  now-held : ℕ → ℕ
  now-held i = look (get_or t i 0) shipped_writes i

  all-inside : inside shipped_writes ≡ true
  unfolding inside all_in shipped_writes bank_writes class_writes regs_writes reg_writes rising copied shipped_units indices
  all-inside = refl

  filled-cell : (i : ℕ) → get_or (written t shipped_writes) i 0 ≡ now-held i
  unfolding now-held
  filled-cell i = looked t shipped_writes s all-inside i

  computed : info_by now-held ≡ shipped
  unfolding now-held look info_by bank_by reg_by class_by cells_by shipped_writes bank_writes class_writes regs_writes reg_writes rising copied shipped_units indices bank_of bank_regs shipped_bank shipped_reg shipped_class shipped
  computed = refl

  pub filled_is : reg_info_of (written t shipped_writes) ≡ shipped
  filled_is = info-by (written t shipped_writes) ∙ ap info_by (fun_ext filled-cell) ∙ computed

  -- where each member stands: k is member k % 32 of class k / 32
  seat : ℕ → ℕ
  seat k = pick (ltb (k % 32) (now-held (8194 + k / 32 * 8))) (now-held (74752 + k / 32 * 512 + now-held (9216 + k / 32 * 512 + k % 32))) (k % 32)

  seats : map seat (indices 0 192) ≡ map (λ (k : ℕ). k % 32) (indices 0 192)
  unfolding seat now-held look shipped_writes bank_writes class_writes regs_writes reg_writes rising copied shipped_units indices
  seats = refl

  classes-six : now-held 8739 ≡ 6
  unfolding now-held look shipped_writes bank_writes class_writes regs_writes reg_writes rising copied shipped_units indices
  classes-six = refl

  members-few : (c : ℕ) → c < 6 → now-held (8194 + c * 8) ≤ 32
  unfolding now-held look shipped_writes bank_writes class_writes regs_writes reg_writes rising copied shipped_units indices
  members-few c h = leb-true _ _ (alike (λ (k : ℕ). leb (now-held (8194 + k * 8)) 32) (λ (k : ℕ). true) true 6 c refl h)

  seated : (c p : ℕ) → c < 6 → p < now-held (8194 + c * 8) → now-held (74752 + c * 512 + now-held (9216 + c * 512 + p)) ≡ p
  unfolding seat
  seated c p h l =
      let f = members-few c h in
      let a : (c * 32 + p) / 32 ≡ c = omega arith in
      let b : (c * 32 + p) % 32 ≡ p = omega arith in
      rw (a, b, lt-ltb p (now-held (8194 + c * 8)) l) at (alike seat (λ (k : ℕ). k % 32) 0 192 (c * 32 + p) seats (omega arith))

  pub filled_indexed : Indexed (written t shipped_writes)
  filled_indexed c h p l =
      let h6 : c < 6 = rw (filled-cell 8739, classes-six) at h in
      let n : p < now-held (8194 + c * 8) = rw (filled-cell (8194 + c * 8)) at l in
      rw (filled-cell (9216 + c * 512 + p), filled-cell (74752 + c * 512 + now-held (9216 + c * 512 + p))) (seated c p h6 n)
