-- A job's bytes read as numbers, and what is written of them held against the job.
use Prim.Native.Nat.{ℕ, suc, ◌+◌, ◌-◌, ◌<◌, ◌≤◌}
use mathlib.Core.Path.{◌≡◌, refl, sym, ap, subst, ◌∙◌}
use mathlib.Core.Bool.{Bool, true, false}
use mathlib.Core.List.{List, [], ◌∷◌, ◌++◌, append_assoc, append-nil}
use mathlib.Core.Logic.{inl, inr}
use native.Mathlib.Omega.{arith}
use native.Mathlib.Numerals.{add-one}
use lib.ListN.{length, take, drop, set, length-drop, length-set, drop_of_length-le}
use lib.Seq.{take_all, take-suc-set, take_at, get_or-drop}
use borrow.Author.Tests.{le-leb, lt-leb}
use Rattle.std.specs.Prelude.{Option, Some, None}
use Rattle.entity.specs.Logic.{pick}
use Rattle.reginfo.specs.Table.{reg_info_of}
use Rattle.function.specs.Known.{Checked}
use Rattle.function.specs.Table.{function_of}
use Rattle.number.specs.Read.{Read, got, refused}
use Rattle.number.specs.Number.{number, encoded, Bytes}
use Rattle.number.specs.Answer.{NumberAt, read_of}
use Rattle.number.specs.declared.Number.{Number}
use Rattle.number.specs.declared.Number.TheVariants as N
use Rattle.number.proofs.Laws.{only-form, one-refusal}
use Rattle.print.specs.Text.{refused_line}
use Rattle.records.specs.Bytes.{same_list}
use Rattle.records.proofs.Comparing.{same-exactly}
use Rattle.reading.specs.declared.Next.TheVariants as X
use Rattle.job_rules.specs.Job.{Opened, beginning}
use Rattle.job.specs.Steps.{BegunAt}
use Rattle.job_numbers.specs.Numbers.{Written, bytes_of, wrote, not_written, written}
use Rattle.job_bytes.proofs.Putting.{bytes-none, bytes_one, bytes-append}
use Rattle.job_writer.specs.declared.Written as code
use Rattle.job_writer.specs.Steps.{WrittenAs}
use Rattle.rewrite.specs.declared.Outcome.{Outcome}
use Rattle.rewrite.specs.declared.Outcome.TheVariants.{Same, Refused, NoNumbers, Differs, End}
use Rattle.rewrite.specs.Rewritten.{DecodedAs, tells_of, recorded_from, recorded_in, agreed, HeldAs, tables_numbers, FromTables, BothAre, Rewritten}

-- ---- the bytes before `at` are those of the first n numbers
pub record Decoding (s numbers : List ℕ) (at n : ℕ) : Type 0 where
  pub long : length numbers ≡ 16384
  pub few : n ≤ at
  pub within : at ≤ length s
  pub is : bytes_of (take n numbers) ++ drop at s ≡ s

pub begun : (s numbers : List ℕ) → length numbers ≡ 16384 → Decoding s numbers 0 0
begun s numbers h = record { long = h; few = omega arith; within = omega arith; is = rw bytes-none }

module _ (s numbers : List ℕ) (at n : ℕ) (d : Decoding s numbers at n) (r : Number) (a : NumberAt s at r) where
  pub no_number : (k : ℕ) → r ≡ N.Refused k → DecodedAs s numbers None
  no_number k e =
      let x : number (drop at s) ≡ refused k = sym a.reads ∙ ap (read_of s) e in
      (take n numbers, at, d.is, x ∙ ap refused (one-refusal (drop at s) k x))

  module _ (x next : ℕ) (e : r ≡ N.Is x next) where
    onward : (at < next) × (next ≤ length s)
    onward = rw e at a.onward

    pub ahead : at < next
    ahead = onward.0

    pub one_number : Bytes s → length s ≤ 16384 → at < length s → Decoding s (set numbers n x) next (n + 1)
    one_number b l h =
        let y : number (drop at s) ≡ got x (drop next s) = sym a.reads ∙ ap (read_of s) e in
        let f : drop at s ≡ encoded x ++ drop next s = (only-form (drop at s) x (drop next s) (λ i. rw (get_or-drop at s i 0) (b (at + i))) y).1 in
        let t : take (n + 1) (set numbers n x) ≡ take n numbers ++ (x ∷ []) = rw (add-one n) (take-suc-set numbers n x (omega (arith, d.long, d.few))) in
        record {
          long = length-set numbers n x ∙ d.long;
          few = omega (arith, d.few, ahead);
          within = onward.1;
          is =
              rw (t, bytes-append (take n numbers) (x ∷ []), bytes_one x, append_assoc (bytes_of (take n numbers)) (encoded x) (drop next s), ← f)
              d.is;
        }

pub all-numbers : (s numbers : List ℕ) (at n : ℕ) → length s ≤ 16384 → Decoding s numbers at n → length s ≤ at → DecodedAs s numbers (Some n)
all-numbers s numbers at n l d h =
    let z : drop at s ≡ [] = drop_of_length-le s {i = at} h in
    (omega (arith, d.few, d.within, d.long), d.long, sym (append-nil (bytes_of (take n numbers))) ∙ rw z at d.is)

pub decoded : (s numbers : List ℕ) (r : Option ℕ) (n : ℕ) → DecodedAs s numbers r → r ≡ Some n
    → (n ≤ length numbers) × (length numbers ≡ 16384) × (bytes_of (take n numbers) ≡ s)
decoded s numbers r n h e = subst (DecodedAs s numbers) e h

-- ---- the last line of a text
pub not-told : (text : List ℕ) (k m : ℕ) → m ≡ length (refused_line k) → length text < m → false ≡ tells_of text k
not-told text k m e h = let q : length text < length (refused_line k) = rw e at h in rw (lt-leb (length (refused_line k)) (length text) q)

pub last_line : (text : List ℕ) (k m : ℕ) (r : Bool) → m ≡ length (refused_line k) → m ≤ length text
    → r ≡ same_list (take (length text - (length text - m)) (drop (length text - m) text)) (refused_line k) → r ≡ tells_of text k
last_line text k m r e h q =
    let l : m ≤ length text → length (refused_line k) ≤ length text = λ g. rw (← e) g in
    let all : take (length text - (length text - m)) (drop (length text - m) text) ≡ drop (length text - m) text =
    take_all (length text - (length text - m)) (drop (length text - m) text) (rw (length-drop (length text - m) text) (omega arith)) in
    rw (le-leb (length (refused_line k)) (length text) (l h)) (rw e at (rw all at q))

-- ---- what was written
module _ (x : Written) (out out' : List ℕ) (r : code.Written) (w : WrittenAs x out out' r) where
  pub refused_as : (k : ℕ) → r ≡ code.TheVariants.Refused k → x ≡ not_written k
  refused_as k e = go x w
    where
      go : (y : Written) → WrittenAs y out out' r → y ≡ not_written k
      go (wrote l) v = absurd (let z : ◌≡◌ {A = ℕ} 0 1 = cc in omega arith)
      go (not_written j) v = let q : j ≡ k = cc in ap not_written q

  pub written_as : (n : ℕ) → r ≡ code.TheVariants.Bytes n → (n ≤ length out) × (x ≡ wrote (take n out'))
  written_as n e = go x w
    where
      go : (y : Written) → WrittenAs y out out' r → (n ≤ length out) × (y ≡ wrote (take n out'))
      go (wrote l) v =
          let q : n ≡ length l = cc in
          (omega (arith, v.1), ap wrote (sym (rw (q, v.2) (take_at l (drop (length l) out) (length l) refl))))
      go (not_written j) v = absurd (let z : ◌≡◌ {A = ℕ} 0 1 = cc in omega arith)

pub same-job : (job : List ℕ) (x : Written) (l : List ℕ) (b : Bool) → x ≡ wrote l → b ≡ same_list job l → b ≡ true → x ≡ wrote job
same-job job x l b e s t = let q : job ≡ l = (same-exactly job l).0 (sym s ∙ t) in rw q e

-- ---- the tables that the opening was read into
begun-is : (s t f : List ℕ) (x : Read Opened) (next : ℕ) → BegunAt s x (X.At next) t f → x ≡ got (record { target = reg_info_of t; function = function_of f }) (drop next s)
begun-is s t f (refused k) next h = absurd (let z : ◌≡◌ {A = ℕ} 0 1 = cc in omega arith)
begun-is s t f (got x rest) next h = let same : next ≡ h.0 = cc in rw (h.4, h.5, h.2, same)

begun-within : (s t f : List ℕ) (x : Read Opened) (next : ℕ) → BegunAt s x (X.At next) t f → (next ≤ length s) × Checked t f
begun-within s t f (refused k) next h = absurd (let z : ◌≡◌ {A = ℕ} 0 1 = cc in omega arith)
begun-within s t f (got x rest) next h = let same : next ≡ h.0 = cc in (rw same h.3, h.6)

begun-refused : (s t f : List ℕ) (x : Read Opened) (k : ℕ) → BegunAt s x (X.Refused k) t f → x ≡ refused k
begun-refused s t f (refused j) k h = ap refused (let z : j ≡ k = cc in z)
begun-refused s t f (got x rest) k h = absurd (let z : ◌≡◌ {A = ℕ} 0 1 = cc in omega arith)

module _ (s t f : List ℕ) (told : ℕ) where
  pub unopened : (k : ℕ) → BegunAt s (beginning 1 s) (X.Refused k) t f → agreed told k ≡ true → FromTables s told Refused
  unopened k h a = (k, inl (begun-refused s t f (beginning 1 s) k h), a)

  pub known : (next : ℕ) → BegunAt s (beginning 1 s) (X.At next) t f → (next ≤ length s) × Checked t f
  known next h = begun-within s t f (beginning 1 s) next h

  pub from-tables : (next : ℕ) (ns : List ℕ) (r : Outcome) → BegunAt s (beginning 1 s) (X.At next) t f → bytes_of ns ≡ drop next s
      → HeldAs s (written (tables_numbers t f ns) 16384) told r → FromTables s told r
  from-tables next ns Same b e h = ((t, f, drop next s, ns, begun-is s t f (beginning 1 s) next b, e, h.0), h.1)
  from-tables next ns Refused b e h = (h.0, inr (t, f, drop next s, ns, begun-is s t f (beginning 1 s) next b, e, h.1), h.2)
  from-tables next ns NoNumbers b e h = tt
  from-tables next ns Differs b e h = tt
  from-tables next ns End b e h = tt

-- the bytes from an offset on
pub rest_all : (s : List ℕ) (next : ℕ) → take (length s - next) (drop next s) ≡ drop next s
rest_all s next = take_all (length s - next) (drop next s) (rw (length-drop next s) (omega arith))

pub no-numbers : (job text numbers : List ℕ) (r : Option ℕ) → DecodedAs job numbers r → r ≡ None → Rewritten job text NoNumbers
no-numbers job text numbers r h e = rw e at h

pub rewritten : (job text ns : List ℕ) (first second r : Outcome) → bytes_of ns ≡ job → HeldAs job (written ns 16384) (recorded_in text) first
    → FromTables job (recorded_in text) second → BothAre first second r → Rewritten job text r
rewritten job text ns first second Same e c d b = ((ns, e, rw b.0 at c), rw b.1 at d)
rewritten job text ns first second Refused e c d b = ((ns, e, rw b.0 at c), rw b.1 at d)
rewritten job text ns first second NoNumbers e c d b = absurd b
rewritten job text ns first second Differs e c d b = tt
rewritten job text ns first second End e c d b = tt

-- ---- the numbers before k are not the text's
recorded-step : (text : List ℕ) (k : ℕ) → k < 23 → recorded_from text k (23 - k) ≡ pick (tells_of text k) k (recorded_from text (k + 1) (23 - (k + 1)))
unfolding recorded_from
recorded-step text k h = let z : 23 - k ≡ suc (23 - (k + 1)) = omega arith in rw z

pub recorded-here : (text : List ℕ) (k : ℕ) (b : Bool) → k < 23 → b ≡ tells_of text k → b ≡ true → recorded_from text k (23 - k) ≡ k
recorded-here text k b h e t = recorded-step text k h ∙ rw (sym e ∙ t)

pub recorded-later : (text : List ℕ) (k : ℕ) (b : Bool) → k < 23 → b ≡ tells_of text k → b ≡ false → recorded_from text k (23 - k) ≡ recorded_from text (k + 1) (23 - (k + 1))
recorded-later text k b h e t = recorded-step text k h ∙ rw (sym e ∙ t)

pub recorded-none : (text : List ℕ) (k : ℕ) → 23 ≤ k → recorded_from text k (23 - k) ≡ 0
unfolding recorded_from
recorded-none text k h = let z : 23 - k ≡ 0 = omega arith in rw z
