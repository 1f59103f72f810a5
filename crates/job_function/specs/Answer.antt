-- What the readers of a function answer at an offset.
use Rattle.std.specs.Prelude.{ℕ, ◌<◌, ◌≤◌, ◌≡◌, List, map, length, drop}
use Rattle.entity.specs.Logic.{indices}
use Rattle.reginfo.specs.Table.{reg_info_of}
use Rattle.function.specs.Function.{ValueData}
use Rattle.function.specs.Table.{value_at, function_of}
use Rattle.number.specs.Read.{Read, got, refused}
use Rattle.reading.specs.Answer.{next_of}
use Rattle.reading.specs.declared.Next.{Next}
use Rattle.reading.specs.declared.Next.TheVariants.{At, Refused}
use Rattle.job_function.specs.Reads.{function, function_within}
use Rattle.job_function.specs.declared.Row.{Row}
use Rattle.job_function.specs.declared.Row.TheVariants as row

-- the next offset is past what was read and within the bytes
abbrev pub Onward : List ℕ → ℕ → Next → Type 0
Onward s at (At next) = (at < next) × (next ≤ length s)
Onward s at (Refused k) = Unit

-- the function, of `kept` kept evictions, is the one that stands in the table f afterwards; where it is refused, f may hold anything
pub record FunctionRead (t : List ℕ) (kept : ℕ) (s : List ℕ) (at : ℕ) (f : List ℕ) (r : Next) : Type 0 where
  pub reads : next_of s (function_of f) r ≡ function (reg_info_of t) kept (drop at s)
  pub onward : Onward s at r

-- 02 l: the same, its N from `least` to `most`
pub record FunctionReadWithin (least most : ℕ) (t : List ℕ) (kept : ℕ) (s : List ℕ) (at : ℕ) (f : List ℕ) (r : Next) : Type 0 where
  pub reads : next_of s (function_of f) r ≡ function_within least most (reg_info_of t) kept (drop at s)
  pub onward : Onward s at r

-- the first n values of a table
abbrev pub first_values : List ℕ → ℕ → List ValueData
first_values f n = map (value_at f) (indices 0 n)

-- one value
abbrev pub row_of : List ℕ → Row → Read ValueData
row_of s (row.Is b cost c next) = got (record { bank = b.0; cost = cost; class = c.0 }) (drop next s)
row_of s (row.Refused k) = refused k

abbrev pub RowOnward : List ℕ → ℕ → Row → Type 0
RowOnward s at (row.Is b cost c next) = (at < next) × (next ≤ length s)
RowOnward s at (row.Refused k) = Unit

pub record RowRead (d : List ℕ → Read ValueData) (s : List ℕ) (at : ℕ) (r : Row) : Type 0 where
  pub reads : row_of s r ≡ d (drop at s)
  pub onward : RowOnward s at r
