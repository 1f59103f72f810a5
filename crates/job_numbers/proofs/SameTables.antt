-- The job that is read back has the tables that were written: a list behind its count is told by its numbers.
use Prim.Native.Nat.{ℕ, zero, suc}
use mathlib.Core.Path.{◌≡◌, refl, sym, ap, ◌∙◌}
use mathlib.Core.Bool.{Bool, true, false}
use mathlib.Core.List.{List, [], ◌∷◌, ◌++◌, append_assoc, map}
use native.Mathlib.Omega.{arith}
use lib.Dec.{eqb}
use lib.ListN.{length}
use Rattle.entity.specs.Logic.{pick}
use Rattle.reginfo.specs.RegInfo.{Bank, Reg, Class, RegInfo, num_banks, num_classes, bank_for_class}
use Rattle.reginfo.specs.Refused.{target_refusal}
use Rattle.function.specs.Function.{ValueData, Function}
use Rattle.number.specs.Read.{got}
use Rattle.reading.specs.Reading.{below, between, times}
use Rattle.job_target.specs.Target.{target}
use Rattle.job_function.specs.Reads.{remat_value, value, valued, function}
use Rattle.job_rules.specs.Job.{Header, after_target, header, opening}
use Rattle.job_rules.proofs.WasRead.{early-got, given-got}
use Rattle.job_numbers.specs.Numbers.{Job, counted, each_of, bank_numbers, reg_numbers, class_numbers, target_numbers, value_numbers, function_numbers, patches_numbers, job_numbers, read_patches, read_job}
use Rattle.job_numbers.specs.Claim.{plain_value, plain, SameTables}
use Rattle.job_numbers.proofs.Stands.{made, where-read, after}
use Rattle.job_numbers.proofs.SameJob.{same-job}

-- ---- a list of numbers behind its count
same-list : (xs ys x y : List ℕ) → length xs ≡ length ys → xs ++ x ≡ ys ++ y → (xs ≡ ys) × (x ≡ y)
same-list [] [] x y n e = (refl, e)
same-list [] (b ∷ ys) x y n e = absurd (omega arith)
same-list (a ∷ xs) [] x y n e = absurd (omega arith)
same-list (a ∷ xs) (b ∷ ys) x y n e =
    let w = same-list xs ys x y (omega arith) (cc) in
    let z : a ≡ b = cc in
    (rw (z, w.0), w.1)

same-counted : (xs ys x y : List ℕ) → counted xs ++ x ≡ counted ys ++ y → (xs ≡ ys) × (x ≡ y)
same-counted xs ys x y e = same-list xs ys x y (cc) (cc)

-- things behind their count: what their numbers say of each
module _ {A B : Type 0} (numbers : A → List ℕ) (say : A → B)
    (one : (a b : A) (x y : List ℕ) → numbers a ++ x ≡ numbers b ++ y → (say a ≡ say b) × (x ≡ y)) where
  same-each : (l m : List A) (x y : List ℕ) → length l ≡ length m → each_of numbers l ++ x ≡ each_of numbers m ++ y → (map say l ≡ map say m) × (x ≡ y)
  unfolding each_of
  same-each [] [] x y n e = (refl, e)
  same-each [] (b ∷ m) x y n e = absurd (omega arith)
  same-each (a ∷ l) [] x y n e = absurd (omega arith)
  same-each (a ∷ l) (b ∷ m) x y n e =
      let w = one a b (each_of numbers l ++ x) (each_of numbers m ++ y) (simp append_assoc at e) in
      let u = same-each l m x y (omega arith) w.1 in
      (rw (w.0, u.0), u.1)

map_same : {A : Type 0} (l : List A) → map (λ x. x) l ≡ l
map_same [] = refl
map_same (x ∷ l) = rw (map_same l)

-- all is said
module _ {A : Type 0} (numbers : A → List ℕ) (one : (a b : A) (x y : List ℕ) → numbers a ++ x ≡ numbers b ++ y → (a ≡ b) × (x ≡ y)) where
  same-all : (l m : List A) (x y : List ℕ) → length l ≡ length m → each_of numbers l ++ x ≡ each_of numbers m ++ y → (l ≡ m) × (x ≡ y)
  same-all l m x y n e =
      let w = same-each numbers (λ (x : A). x) one l m x y n e in
      (sym (map_same l) ∙ w.0 ∙ map_same m, w.1)

-- ---- the target
same-bank : (a b : Bank) (x y : List ℕ) → bank_numbers a ++ x ≡ bank_numbers b ++ y → (a ≡ b) × (x ≡ y)
same-bank a b x y e =
    let s : a.size ≡ b.size = cc in
    let t : a.top ≡ b.top = cc in
    let k : a.stack ≡ b.stack = cc in
    ((λ i. record { size = s i; top = t i; stack = k i }), cc)

same_reg : (a b : Reg) (x y : List ℕ) → reg_numbers a ++ x ≡ reg_numbers b ++ y → (a ≡ b) × (x ≡ y)
same_reg a b x y e =
    let m : a.memory ≡ b.memory = cc in
    let k : a.bank ≡ b.bank = cc in
    let w = same-counted a.units b.units x y (cc) in
    ((λ i. record { memory = m i; bank = k i; units = w.0 i }), w.1)

same_class : (a b : Class) (x y : List ℕ) → class_numbers a ++ x ≡ class_numbers b ++ y → (a ≡ b) × (x ≡ y)
same_class a b x y e =
    let k : a.bank ≡ b.bank = cc in
    let s : a.slots ≡ b.slots = cc in
    let lists : (counted a.members ++ counted a.order) ++ x ≡ (counted b.members ++ counted b.order) ++ y = cc in
    let w = same-counted a.members b.members (counted a.order ++ x) (counted b.order ++ y) (simp append_assoc at lists) in
    let u = same-counted a.order b.order x y w.1 in
    ((λ i. record { bank = k i; slots = s i; members = w.0 i; order = u.0 i }), u.1)

abbrev after_banks : RegInfo → List ℕ
after_banks t = length t.regs ∷ (each_of reg_numbers t.regs ++ (length t.classes ∷ each_of class_numbers t.classes))

same_target : (a b : RegInfo) (x y : List ℕ) → target_numbers a ++ x ≡ target_numbers b ++ y → (a ≡ b) × (x ≡ y)
unfolding target_numbers
same_target a b x y e =
    let u : a.units ≡ b.units = cc in
    let n : length a.banks ≡ length b.banks = cc in
    let e₁ : (each_of bank_numbers a.banks ++ after_banks a) ++ x ≡ (each_of bank_numbers b.banks ++ after_banks b) ++ y = cc in
    let w = same-all bank_numbers same-bank a.banks b.banks _ _ n (simp append_assoc at e₁) in
    let m : length a.regs ≡ length b.regs = cc w.1 in
    let e₂ : each_of reg_numbers a.regs ++ (length a.classes ∷ (each_of class_numbers a.classes ++ x))
    ≡ each_of reg_numbers b.regs ++ (length b.classes ∷ (each_of class_numbers b.classes ++ y)) = cc w.1 in
    let v = same-all reg_numbers same_reg a.regs b.regs _ _ m e₂ in
    let z = same-all class_numbers same_class a.classes b.classes x y (cc v.1) (cc v.1) in
    ((λ i. record { units = u i; banks = w.0 i; regs = v.0 i; classes = z.0 i }), z.1)

-- ---- the function: a class that is not written is not told
same-value : (a b : ValueData) (x y : List ℕ) → value_numbers a ++ x ≡ value_numbers b ++ y → (plain_value a ≡ plain_value b) × (x ≡ y)
same-value a b x y e =
    let k : a.bank ≡ b.bank = cc in
    let c : a.cost ≡ b.cost = cc in
    let w = go (eqb a.cost 0) (eqb b.cost 0) (ap (λ (n : ℕ). eqb n 0) c) (cc) in
    ((λ i. record { bank = k i; cost = c i; class = w.0 i }), w.1)
  where
    go : (z u : Bool) → z ≡ u → pick z [] (a.class ∷ []) ++ x ≡ pick u [] (b.class ∷ []) ++ y
        → (pick z 0 a.class ≡ pick u 0 b.class) × (x ≡ y)
    go true true z e = (refl, e)
    go false false z e = (cc, cc)
    go true false z e = absurd (let z : ◌≡◌ {A = ℕ} 0 1 = cc in omega arith)
    go false true z e = absurd (let z : ◌≡◌ {A = ℕ} 0 1 = cc in omega arith)

same-function : (a b : Function) (x y : List ℕ) → function_numbers a ++ x ≡ function_numbers b ++ y → (plain a ≡ plain b) × (x ≡ y)
unfolding function_numbers plain
same-function a b x y e =
    let s : a.slots ≡ b.slots = cc in
    let m : a.limit ≡ b.limit = cc in
    let w = same-each value_numbers (λ (v : ValueData). plain_value v) same-value a.values b.values x y (cc) (cc) in
    ((λ i. record { values = w.0 i; slots = s i; limit = m i; kept = 1 }), w.1)

-- a function that was read is plain
module _ (t : RegInfo) where
  value-plain : (l : List ℕ) (v : ValueData) (r : List ℕ) → value t l ≡ got v r → plain_value v ≡ v
  unfolding value remat_value
  value-plain l v r e = after (below (num_banks t) l) _ e (λ b q is e. after (below 3 q) _ e (λ cost p is e. go b cost p (eqb cost 0) refl e))
    where
      go : (b cost : ℕ) (p : List ℕ) (z : Bool) → eqb cost 0 ≡ z
          → pick z (got (record { bank = b; cost = 0; class = 0 }) p) (remat_value t b cost p) ≡ got v r
          → plain_value v ≡ v
      go b cost p true z e = made (λ v r. plain_value v ≡ v) e refl
      go b cost p false z e =
          after (below (num_classes t) p) _ e
          (λ k o is e. made (λ v r. plain_value v ≡ v) (where-read (eqb (bank_for_class t k) b) 9 _ v r e) (rw z))

  values-plain : (n : ℕ) (l : List ℕ) (vs : List ValueData) (r : List ℕ) → times n (value t) l ≡ got vs r → map (λ v. plain_value v) vs ≡ vs
  unfolding times
  values-plain zero l vs r e = made (λ vs r. map (λ v. plain_value v) vs ≡ vs) e refl
  values-plain (suc n) l vs r e =
      after (value t l) _ e
      (λ v q is e. after (times n (value t) q) _ e
      (λ xs p on e. made (λ vs r. map (λ v. plain_value v) vs ≡ vs) e
      (let z = value-plain l v q is in let u = values-plain n q xs p on in λ i. z i ∷ u i)))

  function-plain : (l : List ℕ) (f : Function) (r : List ℕ) → function t 1 l ≡ got f r → plain f ≡ f
  unfolding function valued plain
  function-plain l f r e =
      after (between 0 4096 l) _ e
      (λ n q is e. after (between 0 4096 q) _ e
      (λ slots p is e. after (between 0 2048 p) _ e
      (λ limit o is e. after (times n (value t) o) _ e
      (λ vs k on e. made (λ f r. plain f ≡ f) e
      (let u = values-plain n o vs k on in λ i. record { values = u i; slots = slots; limit = limit; kept = 1 })))))

opening-plain : (l : List ℕ) (x : Header) (r : List ℕ) → opening 1 l ≡ got x r → plain x.function ≡ x.function
unfolding opening header after_target
opening-plain l x r e =
    after (target l) _ (early-got 1 l _ x r e).2
    (λ t q is e. after (function t 1 q) _ (given-got (target_refusal t) _ x r e).1
    (λ f p on e. after (between 1 1024 p) _ e
    (λ n o is e. made (λ x r. plain x.function ≡ x.function) e (function-plain t q f p on))))

job-plain : (l : List ℕ) (j : Job) (r : List ℕ) → read_job l ≡ got j r → plain j.function ≡ j.function
unfolding read_job
job-plain l j r e =
    after (opening 1 l) _ e
    (λ x q is e. after (read_patches x.target x.function x.patches q) _ e
    (λ ps o on e. made (λ j r. plain j.function ≡ j.function) e (opening-plain l x q is)))

pub same_tables : SameTables
unfolding job_numbers
same_tables t f ps j r h e =
    let is = same-job (target_numbers t ++ (function_numbers f ++ ps)) j r h e in
    let a = same_target j.target t (function_numbers j.function ++ patches_numbers j.patches) (function_numbers f ++ ps) is in
    let b = same-function j.function f (patches_numbers j.patches) ps a.1 in
    (a.0, sym (job-plain _ j r e) ∙ b.0, b.1)
