-- A class number that the table does not hold is refused at the class count: read with held banks, a target is the same.
use Prim.Native.Nat.{ℕ, zero, suc, ◌<◌, ◌≤◌}
use mathlib.Core.Path.{◌≡◌, refl}
use mathlib.Core.Bool.{Bool, true, false}
use mathlib.Core.List.{List, [], ◌∷◌, map}
use native.Mathlib.Omega.{arith}
use lib.Dec.{ltb, leb}
use borrow.Author.Tests.{le-leb, ltb-false, leb-true, leb-false}
use Rattle.entity.specs.Logic.{pick, and, no, any_in}
use Rattle.entity.proofs.Laws.{or-false, and-true}
use Rattle.reginfo.specs.RegInfo.{Bank, Reg, RegInfo}
use Rattle.number.specs.Read.{Read, got, refused, then}
use Rattle.number.specs.Number.{number}
use Rattle.reading.specs.Reading.{tested, between, times}
use Rattle.job_target.specs.Target.{bank, reg, classes, unknown_class, target}
use Rattle.job_target.specs.Held.{held, held_bank, bank_held}
use Rattle.job_target.specs.Steps.{with_classes, with_regs, with_banks}

-- ---- one bank, and all
bank-held : (l : List ℕ) → bank_held l ≡ then (bank l) (λ b r. got (held_bank b) r)
unfolding bank bank_held held_bank
bank-held l = go (between 0 31 l)
  where
    three : (size top : ℕ) (x : Read ℕ) → then x (λ stack p. got (record { size = size; top = held top; stack = held stack }) p) ≡ then (then x (λ stack p. got (record { size = size; top = top; stack = stack }) p)) (λ b r. got (held_bank b) r)
    three size top (got n r) = refl
    three size top (refused k) = refl

    two : (size : ℕ) (x : Read ℕ) → then x (λ top q. then (number q) (λ stack p. got (record { size = size; top = held top; stack = held stack }) p)) ≡ then (then x (λ top q. then (number q) (λ stack p. got (record { size = size; top = top; stack = stack }) p))) (λ b r. got (held_bank b) r)
    two size (got n r) = three size n (number r)
    two size (refused k) = refl

    go : (x : Read ℕ) → then x (λ size r. then (number r) (λ top q. then (number q) (λ stack p. got (record { size = size; top = held top; stack = held stack }) p))) ≡ then (then x (λ size r. then (number r) (λ top q. then (number q) (λ stack p. got (record { size = size; top = top; stack = stack }) p)))) (λ b r. got (held_bank b) r)
    go (got n r) = two n (number r)
    go (refused k) = refl

banks-held : (n : ℕ) (l : List ℕ) → times n bank_held l ≡ then (times n bank l) (λ bs r. got (map held_bank bs) r)
unfolding times
banks-held zero l = refl
banks-held (suc n) l = rw (bank-held l) (go (bank l) (banks-held n))
  where
    rest : (b : Bank) (x : Read (List Bank)) → then (then x (λ bs r. got (map held_bank bs) r)) (λ bs q. got (held_bank b ∷ bs) q) ≡ then (then x (λ bs q. got (b ∷ bs) q)) (λ bs r. got (map held_bank bs) r)
    rest b (got bs r) = refl
    rest b (refused k) = refl

    go : (x : Read Bank) → ((l : List ℕ) → times n bank_held l ≡ then (times n bank l) (λ bs r. got (map held_bank bs) r))
        → then (then x (λ b r. got (held_bank b) r)) (λ b r. then (times n bank_held r) (λ bs q. got (b ∷ bs) q)) ≡ then (then x (λ b r. then (times n bank r) (λ bs q. got (b ∷ bs) q))) (λ bs r. got (map held_bank bs) r)
    go (got b r) on = rw (on r) (rest b (times n bank r))
    go (refused k) on = refl

-- ---- what a class count of at most 64 says
held-leb : (n x : ℕ) → n ≤ 64 → leb n (held x) ≡ leb n x
held-leb n x h = go (ltb x 65535) refl
  where
    go : (b : Bool) → ltb x 65535 ≡ b → leb n (pick b x 65535) ≡ leb n x
    go true e = refl
    go false e = let l : 65535 ≤ x = ltb-false x 65535 e in rw (le-leb n 65535 (omega arith), le-leb n x (omega arith))

held-is : (n x : ℕ) → n ≤ 64 → leb n x ≡ false → held x ≡ x
held-is n x h e = go (ltb x 65535) refl
  where
    go : (b : Bool) → ltb x 65535 ≡ b → pick b x 65535 ≡ x
    go true f = refl
    go false f = let l : 65535 ≤ x = ltb-false x 65535 f in let k : x < n = leb-false n x e in absurd (omega arith)

held-unknown : (n : ℕ) (bs : List Bank) → n ≤ 64 → any_in (unknown_class n) (map held_bank bs) ≡ any_in (unknown_class n) bs
unfolding any_in held_bank
held-unknown n [] h = refl
held-unknown n (b ∷ bs) h = rw (held-leb n b.top h, held-leb n b.stack h, held-unknown n bs h)

held_same : (n : ℕ) (bs : List Bank) → n ≤ 64 → any_in (unknown_class n) bs ≡ false → map held_bank bs ≡ bs
unfolding any_in held_bank
held_same n [] h e = refl
held_same n (b ∷ bs) h e =
    let w = or-false (unknown_class n b) (any_in (unknown_class n) bs) e in
    let v = or-false (leb n b.top) (leb n b.stack) w.0 in
    rw (held-is n b.top h v.0, held-is n b.stack h v.1, held_same n bs h w.1)

-- ---- the rest of a target
classes-same : (units n : ℕ) (bs : List Bank) (m : ℕ) (regs : List Reg) (l : List ℕ) → with_classes units n (map held_bank bs) m regs l ≡ with_classes units n bs m regs l
unfolding with_classes tested
classes-same units n bs m regs l = go (number l)
  where
    end : List Bank → ℕ → List ℕ → Read RegInfo
    end banks c j = then (classes c n m 0 j) (λ cs i. got (record { units = units; banks = banks; regs = regs; classes = cs }) i)

    pass : (c : ℕ) (r : List ℕ) (a : Bool) → c ≤ 64 → any_in (unknown_class c) bs ≡ a → then (pick (no a) (got c r) (refused 2)) (end (map held_bank bs)) ≡ then (pick (no a) (got c r) (refused 2)) (end bs)
    pass c r true h e = refl
    pass c r false h e = rw (held_same c bs h e)

    count : (c : ℕ) (r : List ℕ) (b : Bool) → and (leb 1 c) (leb c 64) ≡ b → then (pick (and b (no (any_in (unknown_class c) (map held_bank bs)))) (got c r) (refused 2)) (end (map held_bank bs)) ≡ then (pick (and b (no (any_in (unknown_class c) bs))) (got c r) (refused 2)) (end bs)
    count c r true e = let h : c ≤ 64 = leb-true c 64 (and-true (leb 1 c) (leb c 64) e).1 in rw (held-unknown c bs h) (pass c r (any_in (unknown_class c) bs) h refl)
    count c r false e = refl

    go : (x : Read ℕ) → then (then x (λ c r. pick (and (and (leb 1 c) (leb c 64)) (no (any_in (unknown_class c) (map held_bank bs)))) (got c r) (refused 2))) (end (map held_bank bs)) ≡ then (then x (λ c r. pick (and (and (leb 1 c) (leb c 64)) (no (any_in (unknown_class c) bs))) (got c r) (refused 2))) (end bs)
    go (got c r) = count c r (and (leb 1 c) (leb c 64)) refl
    go (refused k) = refl

regs_same : (units n : ℕ) (bs : List Bank) (l : List ℕ) → with_regs units n (map held_bank bs) l ≡ with_regs units n bs l
unfolding with_regs
regs_same units n bs l = go (between 1 512 l)
  where
    rows : (m : ℕ) (x : Read (List Reg)) → then x (λ regs k. with_classes units n (map held_bank bs) m regs k) ≡ then x (λ regs k. with_classes units n bs m regs k)
    rows m (got regs k) = classes-same units n bs m regs k
    rows m (refused k) = refl

    go : (x : Read ℕ) → then x (λ m o. then (times m (reg units n) o) (λ regs k. with_classes units n (map held_bank bs) m regs k)) ≡ then x (λ m o. then (times m (reg units n) o) (λ regs k. with_classes units n bs m regs k))
    go (got m o) = rows m (times m (reg units n) o)
    go (refused k) = refl

pub target-held : (l : List ℕ) → then (between 1 512 l) (λ units r. with_banks units r) ≡ target l
unfolding target with_banks with_regs with_classes
target-held l = go (between 1 512 l)
  where
    rows : (units n : ℕ) (x : Read (List Bank)) → then (then x (λ bs r. got (map held_bank bs) r)) (λ bs p. with_regs units n bs p) ≡ then x (λ bs p. with_regs units n bs p)
    rows units n (got bs p) = regs_same units n bs p
    rows units n (refused k) = refl

    count : (units : ℕ) (x : Read ℕ) → then x (λ n q. then (times n bank_held q) (λ bs p. with_regs units n bs p)) ≡ then x (λ n q. then (times n bank q) (λ bs p. with_regs units n bs p))
    count units (got n q) = rw (banks-held n q) (rows units n (times n bank q))
    count units (refused k) = refl

    go : (x : Read ℕ) → then x (λ units r. with_banks units r) ≡ then x (λ units r. then (between 1 8 r) (λ n q. then (times n bank q) (λ bs p. with_regs units n bs p)))
    go (got units r) = count units (between 1 8 r)
    go (refused k) = refl
