-- A job that was opened, or not.
use Prim.Native.Nat.{ℕ, ◌<◌}
use mathlib.Core.Path.{◌≡◌, refl, sym, ap, ◌∙◌}
use mathlib.Core.Bool.{Bool, true, false}
use mathlib.Core.List.{List}
use native.Mathlib.Omega.{arith}
use lib.ListN.{length}
use Rattle.reginfo.specs.Refused.{target_refusal}
use Rattle.price.specs.declared.Prices.{Prices}
use Rattle.price.specs.Price.{in_range}
use Rattle.number.specs.Read.{Read, got, refused, then}
use Rattle.number.specs.declared.Number.TheVariants as N
use Rattle.print.specs.Text.{refused_line}
use Rattle.print.specs.Put.{Room}
use Rattle.print.proofs.Lengths.{refused-short}
use Rattle.job_target.specs.Target.{target}
use Rattle.job_function.proofs.Accepted.{then-got}
use Rattle.job_rules.specs.Job.{Header, after_target}
use Rattle.job_rules.specs.Priced.{unless_outside, opening_if, opening_priced}
use Rattle.job.specs.Steps.{HeaderAt}
use Rattle.job_rules.proofs.WasRead.{early-got, given-got}
use Rattle.price_job.specs.Text.{runs_fit, prices_done, after_opening, job_prices}

within : (ok : Bool) (x : Read Header) (h : Header) (r : List ℕ) → unless_outside ok x ≡ got h r → ok ≡ true
within true x h r e = refl
within false x h r e = absurd (let z : ◌≡◌ {A = ℕ} 0 1 = cc in omega arith)

-- prices of a job that was opened are in their range
opened-within : (ok : Bool) (kept : ℕ) (l : List ℕ) (h : Header) (r : List ℕ) → opening_if ok kept l ≡ got h r → ok ≡ true
unfolding opening_if
opened-within ok kept l h r e =
    let a = early-got kept l _ h r e in
    let b = then-got (target l) _ h r a.2 in
    let c = given-got (target_refusal b.0) (unless_outside ok (after_target b.0 kept b.1)) h r b.3 in
    within ok (after_target b.0 kept b.1) h r c.1

is-refused : (s t f : List ℕ) (k : ℕ) (x : Read Header) → HeaderAt s x (N.Refused k) t f → x ≡ refused k
is-refused s t f k (refused j) h = let z : k ≡ j = cc in ap refused (sym z)
is-refused s t f k (got x r) h = absurd (let z : ◌≡◌ {A = ℕ} 0 1 = cc in omega arith)

is-got : (s t f : List ℕ) (n at : ℕ) (x : Read Header) → HeaderAt s x (N.Is n at) t f → (h : Header) × (r : List ℕ) × (x ≡ got h r) × (h.patches ≡ n)
is-got s t f n at (refused j) h = absurd (let z : ◌≡◌ {A = ℕ} 0 1 = cc in omega arith)
is-got s t f n at (got x r) h = (x, r, refl, cc)

module _ (p : Prices) (runs : List ℕ) (kept : ℕ) (s t f : List ℕ) where
  pub text-refused : (k : ℕ) → HeaderAt s (opening_priced p kept s) (N.Refused k) t f → job_prices p runs kept s ≡ refused_line k
  text-refused k h = ap (after_opening p runs kept s) (is-refused s t f k (opening_priced p kept s) h)

  module _ (n at : ℕ) (h : HeaderAt s (opening_priced p kept s) (N.Is n at) t f) where
    pub prices-within : in_range p ≡ true
    prices-within = let g = is-got s t f n at (opening_priced p kept s) h in opened-within (in_range p) kept s g.0 g.1 g.2

    pub text-unfit : runs_fit (length runs) n ≡ false → job_prices p runs kept s ≡ refused_line 2
    text-unfit e = let g = is-got s t f n at (opening_priced p kept s) h in ap (after_opening p runs kept s) g.2 ∙ rw (g.3, e)

    pub text-fit : runs_fit (length runs) n ≡ true → job_prices p runs kept s ≡ prices_done p runs kept s
    text-fit e = let g = is-got s t f n at (opening_priced p kept s) h in ap (after_opening p runs kept s) g.2 ∙ rw (g.3, e)

pub refused-room : (out : List ℕ) (k : ℕ) → length out ≡ 131072 → k < 4294967296 → Room out 0 (refused_line k)
refused-room out k e h = record { fits = omega (arith, e, refused-short k h) }
