-- What is read with a setting of one or two is an accepted function with that setting, whatever the target.
use Prim.Native.Nat.{ℕ, zero, suc, ◌+◌, ◌<◌, ◌≤◌}
use mathlib.Core.Path.{◌≡◌, refl, sym, ap, subst}
use mathlib.Core.Bool.{Bool, true, false}
use mathlib.Core.List.{List, [], ◌∷◌}
use mathlib.Core.Option.{none}
use native.Mathlib.Omega.{arith}
use lib.ListN.{length, get_or, drop}
use lib.Dec.{eqb, ltb, leb}
use borrow.Author.Tests.{ltb-true, leb-true, le-leb}
use Rattle.entity.specs.Logic.{pick, and, or, no, indices}
use Rattle.entity.proofs.Laws.{and-true}
use Rattle.reginfo.specs.RegInfo.{RegInfo, num_banks, num_classes, bank_for_class}
use Rattle.reginfo.specs.Table.{reg_info_of}
use Rattle.function.specs.Table.{function_of}
use Rattle.function.specs.Function.{ValueData, Function, no_value, num_values, value_bank, remat_cost, remat_class, is_setting}
use Rattle.function.specs.Refused.{counts_fit, value_fits, foreign_class, values_refusal, function_refusal, Accepted}
use Rattle.number.specs.Read.{Read, got, refused, then}
use Rattle.number.specs.Number.{number}
use Rattle.reading.specs.Reading.{tested, below, between, times}
use Rattle.reading.specs.Answer.{NextAt}
use Rattle.reading.specs.declared.Next as X
use Rattle.reading.specs.declared.Next.{Next}
use Rattle.job_function.specs.Answer.{FunctionRead}
use Rattle.job_function.specs.Reads.{remat_value, value, valued, function, function_within, ReadWithin, ReadAccepted}

-- ---- what was read, of what its parts read
pub then-got : {A B : Type 0} (x : Read A) (g : A → List ℕ → Read B) (b : B) (r : List ℕ) → then x g ≡ got b r → (a : A) × (l : List ℕ) × (x ≡ got a l) × (g a l ≡ got b r)
then-got (got a l) g b r e = (a, l, refl, e)
then-got (refused k) g b r e = absurd (let z : ◌≡◌ {A = ℕ} 0 1 = cc in omega arith)

pub pick-got : {A : Type 0} (p : Bool) (a b : A) (l r : List ℕ) (k : ℕ) → pick p (got a l) (refused k) ≡ got b r → (p ≡ true) × (a ≡ b)
pick-got true a b l r k e = (refl, cc)
pick-got false a b l r k e = absurd (let z : ◌≡◌ {A = ℕ} 0 1 = cc in omega arith)

pub tested-got : (ok : ℕ → Bool) (l : List ℕ) (n : ℕ) (r : List ℕ) → tested ok l ≡ got n r → ok n ≡ true
unfolding tested
tested-got ok l n r e =
    let p = then-got (number l) (λ n r. pick (ok n) (got n r) (refused 2)) n r e in
    let q = pick-got (ok p.0) p.0 n p.1 r 2 p.3 in
    rw q.1 at q.0

module _ {A : Type 0} (one : List ℕ → Read A) (P : A → Type 0) (d : A) (sound : (l : List ℕ) (x : A) (r : List ℕ) → one l ≡ got x r → P x) where
  pub times-got : (n : ℕ) (l : List ℕ) (xs : List A) (r : List ℕ) → times n one l ≡ got xs r → (length xs ≡ n) × ((i : ℕ) → i < n → P (get_or xs i d))
  unfolding times
  times-got zero l xs r e = let q : [] ≡ xs = cc in (sym (ap length q), λ i h. absurd (omega arith))
  times-got (suc n) l xs r e =
      let p = then-got (one l) (λ x r. then (times n one r) (λ xs q. got (x ∷ xs) q)) xs r e in
      let q = then-got (times n one p.1) (λ xs q. got (p.0 ∷ xs) q) xs r p.3 in
      let on = times-got n p.1 q.0 q.1 q.2 in
      let e' : got (p.0 ∷ q.0) q.1 ≡ got xs r = q.3 in
      let is : p.0 ∷ q.0 ≡ xs = cc in
      subst (λ (ys : List A). (length ys ≡ suc n) × ((i : ℕ) → i < suc n → P (get_or ys i d))) is (ap suc on.0, each p.0 q.0 (sound l p.0 p.1 p.2) on.1)
    where
      each : (x : A) (ys : List A) → P x → ((i : ℕ) → i < n → P (get_or ys i d)) → (i : ℕ) → i < suc n → P (get_or (x ∷ ys) i d)
      each x ys a on zero h = a
      each x ys a on (suc i) h = on i (omega arith)

-- ---- a value that was read
abbrev fits : RegInfo → ValueData → Bool
fits t x = and (ltb x.bank (num_banks t)) (and (leb x.cost 2) (or (no (no (eqb x.cost 0))) (ltb x.class (num_classes t))))

abbrev foreign : RegInfo → ValueData → Bool
foreign t x = and (no (eqb x.cost 0)) (no (eqb (bank_for_class t x.class) x.bank))

pub record Sound (t : RegInfo) (x : ValueData) : Type 0 where
  pub fit : fits t x ≡ true
  pub own : foreign t x ≡ false

module _ (t : RegInfo) where
  value-sound : (l : List ℕ) (x : ValueData) (r : List ℕ) → value t l ≡ got x r → Sound t x
  unfolding value remat_value
  value-sound l x r e =
      let p = then-got (below (num_banks t) l) (λ b r. then (below 3 r) (λ cost q. pick (eqb cost 0) (got (record { bank = b; cost = 0; class = 0 }) q) (remat_value t b cost q))) x r e in
      let q = then-got (below 3 p.1) (λ cost q. pick (eqb cost 0) (got (record { bank = p.0; cost = 0; class = 0 }) q) (remat_value t p.0 cost q)) x r p.3 in
      go p.0 q.0 q.1 (tested-got (λ x. ltb x (num_banks t)) l p.0 p.1 p.2) (ltb-true q.0 3 (tested-got (λ x. ltb x 3) p.1 q.0 q.1 q.2)) (eqb q.0 0) refl q.3
    where
      go : (b cost : ℕ) (q : List ℕ) → ltb b (num_banks t) ≡ true → cost < 3 → (z : Bool) → eqb cost 0 ≡ z → pick z (got (record { bank = b; cost = 0; class = 0 }) q) (remat_value t b cost q) ≡ got x r → Sound t x
      go b cost q hb hc true z e =
          let is : record { bank = b; cost = 0; class = 0 } ≡ x = cc in
          subst (λ (y : ValueData). Sound t y) is record { fit = rw hb; own = refl }
      go b cost q hb hc false z e =
          let p = then-got (below (num_classes t) q) (λ c r. pick (eqb (bank_for_class t c) b) (got (record { bank = b; cost = cost; class = c }) r) (refused 9)) x r e in
          let w = pick-got (eqb (bank_for_class t p.0) b) (record { bank = b; cost = cost; class = p.0 }) x p.1 r 9 p.3 in
          subst (λ (y : ValueData). Sound t y) w.1
          record { fit = rw (hb, le-leb cost 2 (omega arith), z, tested-got (λ x. ltb x (num_classes t)) q p.0 p.1 p.2); own = rw (z, w.0) }

  none-refused : (f : Function) → ((v : ℕ) → v < num_values f → Sound t (get_or f.values v no_value)) → (i n : ℕ) → i + n ≤ num_values f → values_refusal t f (indices i n) ≡ none
  unfolding values_refusal indices value_fits foreign_class value_bank remat_cost remat_class
  none-refused f s i zero h = refl
  none-refused f s i (suc n) h =
      let w = s i (omega arith) in
      rw (w.fit, w.own) (none-refused f s (i + 1) n (omega arith))

  accepted : (kept n slots limit : ℕ) (vs : List ValueData) → is_setting kept ≡ true → leb n 4096 ≡ true → leb slots 4096 ≡ true → leb limit 2048 ≡ true → length vs ≡ n → ((i : ℕ) → i < n → Sound t (get_or vs i no_value)) → Accepted t (record { values = vs; slots = slots; limit = limit; kept = kept })
  unfolding function_refusal counts_fit
  accepted kept n slots limit vs k a b c e s = rw (k, e, a, b, c) (none-refused (record { values = vs; slots = slots; limit = limit; kept = kept }) (λ v h. s v (omega arith)) 0 n (omega arith))

  got-accepted : (g f : Function) (l r : List ℕ) → got g l ≡ got f r → Accepted t g → Accepted t f × (f.kept ≡ g.kept)
  got-accepted g f l r e a = let is : g ≡ f = cc in subst (λ (x : Function). Accepted t x × (x.kept ≡ g.kept)) is (a, refl)

pub read-accepted : ReadAccepted
unfolding function valued
read-accepted t kept k l f r e =
    let p = then-got (between 0 4096 l) (λ n r. then (between 0 4096 r) (λ slots q. then (between 0 2048 q) (λ limit p. valued t kept n slots limit p))) f r e in
    let q = then-got (between 0 4096 p.1) (λ slots q. then (between 0 2048 q) (λ limit o. valued t kept p.0 slots limit o)) f r p.3 in
    let o = then-got (between 0 2048 q.1) (λ limit o. valued t kept p.0 q.0 limit o) f r q.3 in
    let w = then-got (times p.0 (value t) o.1) (λ vs r. got (record { values = vs; slots = q.0; limit = o.0; kept = kept }) r) f r o.3 in
    let v = times-got (value t) (Sound t) no_value (value-sound t) p.0 o.1 w.0 w.1 w.2 in
    got-accepted t (record { values = w.0; slots = q.0; limit = o.0; kept = kept }) f w.1 r w.3
    (accepted t kept p.0 q.0 o.0 w.0 k (high 4096 l p.0 p.1 p.2) (high 4096 p.1 q.0 q.1 q.2) (high 2048 q.1 o.0 o.1 o.2) v.0 v.1)
  where
    high : (m : ℕ) (l : List ℕ) (n : ℕ) (r : List ℕ) → between 0 m l ≡ got n r → leb n m ≡ true
    high m l n r e = (and-true (leb 0 n) (leb n m) (tested-got (λ x. and (leb 0 x) (leb x m)) l n r e)).1

-- ---- N within other limits
tested-other : (ok other : ℕ → Bool) (l : List ℕ) (n : ℕ) (r : List ℕ) → tested ok l ≡ got n r → other n ≡ true → tested other l ≡ got n r
unfolding tested
tested-other ok other l n r e h =
    let p = then-got (number l) (λ n r. pick (ok n) (got n r) (refused 2)) n r e in
    let q = pick-got (ok p.0) p.0 n p.1 r 2 p.3 in
    let g = p.3 in
    let o : other p.0 ≡ true = rw q.1 h in
    let w : got p.0 p.1 ≡ got n r = rw q.0 at g in
    rw (p.2, o) w

valued-slots : (t : RegInfo) (kept n slots limit : ℕ) (l : List ℕ) (f : Function) (r : List ℕ) → valued t kept n slots limit l ≡ got f r → f.slots ≡ slots
unfolding valued
valued-slots t kept n slots limit l f r e =
    let w = then-got (times n (value t) l) (λ vs r. got (record { values = vs; slots = slots; limit = limit; kept = kept }) r) f r e in
    let g = w.3 in
    let is : record { values = w.0; slots = slots; limit = limit; kept = kept } ≡ f = cc in
    sym (ap (λ (x : Function). x.slots) is)

module _ (t : RegInfo) (kept : ℕ) (l : List ℕ) (f : Function) (r : List ℕ) where
  -- what is read with N tested one way, of an N that passes another test
  other_test : (ok other : ℕ → Bool) → ((n : ℕ) → ok n ≡ true → f.slots ≡ n → other n ≡ true)
      → then (between 0 4096 l) (λ n r. then (tested ok r) (λ slots q. then (between 0 2048 q) (λ limit p. valued t kept n slots limit p))) ≡ got f r
      → (then (between 0 4096 l) (λ n r. then (tested other r) (λ slots q. then (between 0 2048 q) (λ limit p. valued t kept n slots limit p))) ≡ got f r) × (ok f.slots ≡ true)
  other_test ok other h e =
      let p = then-got (between 0 4096 l) (λ n r. then (tested ok r) (λ slots q. then (between 0 2048 q) (λ limit p. valued t kept n slots limit p))) f r e in
      let q = then-got (tested ok p.1) (λ slots q. then (between 0 2048 q) (λ limit o. valued t kept p.0 slots limit o)) f r p.3 in
      let o = then-got (between 0 2048 q.1) (λ limit o. valued t kept p.0 q.0 limit o) f r q.3 in
      let is = valued-slots t kept p.0 q.0 o.0 o.1 f r o.3 in
      let passes = tested-got ok p.1 q.0 q.1 q.2 in
      (rw (p.2, tested-other ok other p.1 q.0 q.1 q.2 (h q.0 passes is)) q.3, rw is passes)

module _ (least most : ℕ) (few : most ≤ 4096) (t : RegInfo) (kept : ℕ) (l : List ℕ) (f : Function) (r : List ℕ) where
  within-any : function_within least most t kept l ≡ got f r → (function t kept l ≡ got f r) × (least ≤ f.slots) × (f.slots ≤ most)
  unfolding function function_within
  within-any e =
      let a =
      other_test t kept l f r (λ x. and (leb least x) (leb x most)) (λ x. and (leb 0 x) (leb x 4096))
      (λ n h is. let low : leb 0 n ≡ true = le-leb 0 n (omega arith) in rw (low, le-leb n 4096 (omega (arith, leb-true n most (and-true (leb least n) (leb n most) h).1))) refl) e
      in
      let b = and-true (leb least f.slots) (leb f.slots most) a.1 in
      (a.0, leb-true least f.slots b.0, leb-true f.slots most b.1)

  any-within : function t kept l ≡ got f r → least ≤ f.slots → f.slots ≤ most → function_within least most t kept l ≡ got f r
  unfolding function function_within
  any-within e low high =
      (other_test t kept l f r (λ x. and (leb 0 x) (leb x 4096)) (λ x. and (leb least x) (leb x most))
      (λ n h is. let a : leb least n ≡ true = le-leb least n (omega arith) in let b : leb n most ≡ true = le-leb n most (omega arith) in rw (a, b) refl) e).0

pub read-within : ReadWithin
read-within least most few t kept l f r = (within-any least most few t kept l f r, λ h. any-within least most few t kept l f r h.0 h.1 h.2)

-- what `read_function` leaves in the table, for whoever reads on
pub function-next : (t : List ℕ) (kept : ℕ) → is_setting kept ≡ true → (s : List ℕ) (at : ℕ) (f : List ℕ) (r : Next) → FunctionRead t kept s at f r → NextAt (function (reg_info_of t) kept) s at (function_of f) (Accepted (reg_info_of t) (function_of f)) r
function-next t kept k s at f (X.TheVariants.At next) h =
    record { reads = h.reads; past = (omega (arith, h.onward.0), (λ _. h.onward.1), (read-accepted (reg_info_of t) kept k (drop at s) (function_of f) (drop next s) (sym h.reads)).0) }
function-next t kept k s at f (X.TheVariants.Refused m) h = record { reads = h.reads; past = tt }
