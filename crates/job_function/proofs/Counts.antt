-- The whole function: its values, the counts beside them, and its setting.
use Prim.Native.Nat.{ℕ, ◌+◌, ◌*◌, ◌<◌, ◌≤◌}
use mathlib.Core.Path.{◌≡◌, sym, ap, ◌∙◌}
use mathlib.Core.List.{List}
use native.Mathlib.Omega.{arith}
use lib.ListN.{length, get_or, set, length-set}
use lib.Seq.{get_or-set_same, get_or-set_other}
use Rattle.reginfo.specs.RegInfo.{RegInfo}
use Rattle.reginfo.specs.Table.{reg_info_of}
use Rattle.function.specs.Function.{ValueData, Function}
use Rattle.function.specs.Table.{value_at, function_of}
use Rattle.number.specs.Read.{Read, got, then}
use Rattle.number.specs.declared.Number as N
use Rattle.reading.specs.Reading.{between, times}
use Rattle.reading.specs.Answer.{ReadAt, NextAt, Past}
use Rattle.reading.specs.declared.Next as X
use Rattle.reading.specs.declared.Next.{Next}
use Rattle.reading.proofs.Laws.{number-refused, number-then, part-refused, part_then, done}
use Rattle.reading.proofs.Lists.{rows_same}
use Rattle.job_function.specs.Reads.{value, valued, function, function_within}
use Rattle.job_function.specs.Answer.{Onward, FunctionReadWithin, FunctionRead, first_values}

-- ---- the counts are written where no value stands
module _ (f : List ℕ) (long : length f ≡ 16388) (kept n slots limit : ℕ) (few : n ≤ 4096) where
  abbrev pub counted : List ℕ
  counted = set (set (set (set f 16384 n) 16385 slots) 16386 limit) 16387 kept

  counted-below : (i : ℕ) → i < 16384 → get_or counted i 0 ≡ get_or f i 0
  counted-below i h =
      let f₁ = set f 16384 n in
      let f₂ = set f₁ 16385 slots in
      let f₃ = set f₂ 16386 limit in
      get_or-set_other f₃ 16387 i kept 0 (λ e. omega arith) ∙ get_or-set_other f₂ 16386 i limit 0 (λ e. omega arith) ∙ get_or-set_other f₁ 16385 i slots 0 (λ e. omega arith) ∙ get_or-set_other f 16384 i n 0 (λ e. omega arith)

  counted-values : first_values counted n ≡ first_values f n
  unfolding value_at
  counted-values =
      rows_same (value_at f) (value_at counted) 0 n
      (λ k h. let e : 0 + k ≡ k = omega arith in rw (e, counted-below (k * 4) (omega arith), counted-below (1 + k * 4) (omega arith), counted-below (2 + k * 4) (omega arith)))

  counted_is : function_of counted ≡ record { values = first_values f n; slots = slots; limit = limit; kept = kept }
  unfolding function_of
  counted_is =
      let f₁ = set f 16384 n in
      let f₂ = set f₁ 16385 slots in
      let f₃ = set f₂ 16386 limit in
      let l₁ : length f₁ ≡ 16388 = length-set f 16384 n ∙ long in
      let l₂ : length f₂ ≡ 16388 = length-set f₁ 16385 slots ∙ l₁ in
      let l₃ : length f₃ ≡ 16388 = length-set f₂ 16386 limit ∙ l₂ in
      let a : get_or counted 16384 0 ≡ n = get_or-set_other f₃ 16387 16384 kept 0 (λ e. omega arith) ∙ get_or-set_other f₂ 16386 16384 limit 0 (λ e. omega arith) ∙ get_or-set_other f₁ 16385 16384 slots 0 (λ e. omega arith) ∙ get_or-set_same f 16384 n 0 (omega arith) in
      let b : get_or counted 16385 0 ≡ slots = get_or-set_other f₃ 16387 16385 kept 0 (λ e. omega arith) ∙ get_or-set_other f₂ 16386 16385 limit 0 (λ e. omega arith) ∙ get_or-set_same f₁ 16385 slots 0 (omega arith) in
      let c : get_or counted 16386 0 ≡ limit = get_or-set_other f₃ 16387 16386 kept 0 (λ e. omega arith) ∙ get_or-set_same f₂ 16386 limit 0 (omega arith) in
      let d : get_or counted 16387 0 ≡ kept = get_or-set_same f₃ 16387 kept 0 (omega arith) in
      rw (a, b, c, d, counted-values)

-- ---- values, then the counts; w is their number as an index
module _ (t : RegInfo) (s : List ℕ) (at kept n slots limit : ℕ) (f : List ℕ) (w : ℕ) (is : w ≡ n) where
  abbrev whole : List ValueData → List ℕ → Read Function
  whole vs r = got (record { values = vs; slots = slots; limit = limit; kept = kept }) r

  pub no-values : (x : Function) (k : ℕ) → NextAt (times w (value t)) s at (first_values f w) Unit (X.TheVariants.Refused k) → NextAt (valued t kept n slots limit) s at x Unit (X.TheVariants.Refused k)
  unfolding valued
  no-values x k h = part-refused (times n (value t)) whole s at (first_values f n) Unit x Unit k (rw is at h)

  pub values-done : (long : length f ≡ 16388) (few : n ≤ 4096) (next : ℕ) → NextAt (times w (value t)) s at (first_values f w) Unit (X.TheVariants.At next) → NextAt (valued t kept n slots limit) s at (function_of (counted f long kept n slots limit few)) Unit (X.TheVariants.At next)
  unfolding valued
  values-done long few next h =
      let x : Function = function_of (counted f long kept n slots limit few) in
      part_then (times n (value t)) whole s at (first_values f n) Unit x Unit next (X.TheVariants.At next) (rw is at h)
      (λ _. done (whole (first_values f n)) s next x Unit (λ l. ap (λ (y : Function). got y l) (sym (counted_is f long kept n slots limit few))) tt)

-- ---- the function
module _ (least most : ℕ) (t : List ℕ) (kept : ℕ) (s : List ℕ) (at : ℕ) (f : List ℕ) where
  abbrev limited : ℕ → ℕ → List ℕ → Read Function
  limited n slots q = then (between 0 2048 q) (λ limit p. valued (reg_info_of t) kept n slots limit p)

  abbrev slotted : ℕ → List ℕ → Read Function
  slotted n r = then (between least most r) (λ slots q. limited n slots q)

  pub no-count : (k : ℕ) → ReadAt (between 0 4096) s at (N.TheVariants.Refused k) → FunctionReadWithin least most t kept s at f (X.TheVariants.Refused k)
  unfolding function_within
  no-count k h = record { reads = rw (← h.reads); onward = tt }

  module _ (n a : ℕ) (h : ReadAt (between 0 4096) s at (N.TheVariants.Is n a)) where
    count-then : (r : Next) → NextAt (slotted n) s a (function_of f) Unit r → FunctionReadWithin least most t kept s at f r
    unfolding function_within
    count-then r g = record { reads = rw (← h.reads) g.reads; onward = on r g.past }
      where
        on : (r : Next) → Past s a Unit r → Onward s at r
        on (X.TheVariants.At next) p = (omega (arith, h.onward.0, p.0), p.1 h.onward.1)
        on (X.TheVariants.Refused k) p = tt

    pub no-slots : (k : ℕ) → ReadAt (between least most) s a (N.TheVariants.Refused k) → FunctionReadWithin least most t kept s at f (X.TheVariants.Refused k)
    no-slots k g = count-then (X.TheVariants.Refused k) (number-refused (between least most) (limited n) s a (function_of f) Unit k g)

    module _ (slots b : ℕ) (g : ReadAt (between least most) s a (N.TheVariants.Is slots b)) where
      slots-then : (r : Next) → NextAt (limited n slots) s b (function_of f) Unit r → FunctionReadWithin least most t kept s at f r
      slots-then r i = count-then r (number-then (between least most) (limited n) s a (function_of f) Unit slots b r g i)

      pub no-limit : (k : ℕ) → ReadAt (between 0 2048) s b (N.TheVariants.Refused k) → FunctionReadWithin least most t kept s at f (X.TheVariants.Refused k)
      no-limit k i = slots-then (X.TheVariants.Refused k) (number-refused (between 0 2048) (valued (reg_info_of t) kept n slots) s b (function_of f) Unit k i)

      pub then-values : (limit c : ℕ) → ReadAt (between 0 2048) s b (N.TheVariants.Is limit c) → (r : Next) → NextAt (valued (reg_info_of t) kept n slots limit) s c (function_of f) Unit r → FunctionReadWithin least most t kept s at f r
      then-values limit c i r j = slots-then r (number-then (between 0 2048) (valued (reg_info_of t) kept n slots) s b (function_of f) Unit limit c r i j)

-- N from 0 to 4,096 is no other test than a function's own
pub any-slots : (t : List ℕ) (kept : ℕ) (s : List ℕ) (at : ℕ) (f : List ℕ) (r : Next) → FunctionReadWithin 0 4096 t kept s at f r → FunctionRead t kept s at f r
unfolding function function_within
any-slots t kept s at f r h = record { reads = h.reads; onward = h.onward }
