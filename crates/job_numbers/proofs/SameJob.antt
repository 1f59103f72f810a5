-- "What it writes reads back as the same job": what is read is what stands there, and bytes stand for one list of numbers alone.
use Prim.Native.Nat.{ℕ, zero, suc, ◌+◌, ◌/◌, ◌%◌, ◌<◌}
use mathlib.Core.Path.{◌≡◌, refl, sym, ap, ◌∙◌}
use mathlib.Core.Bool.{Bool, true, false}
use mathlib.Core.List.{List, [], ◌∷◌, ◌++◌}
use native.Mathlib.Omega.{arith}
use lib.Dec.{ltb}
use lib.ListN.{length}
use borrow.Author.Tests.{ltb-true, le-ltb}
use Rattle.entity.specs.Logic.{pick, all_in}
use Rattle.entity.proofs.Laws.{and-true}
use Rattle.number.specs.Read.{Read, got, refused}
use Rattle.number.specs.Number.{groups, number, groups_of, Bytes}
use Rattle.number.proofs.Laws.{read_back}
use Rattle.job_numbers.specs.Numbers.{Job, each_of, job_numbers, bytes_of, read_job, number_of, wrote, not_written, unless_number, written}
use Rattle.job_numbers.specs.Claim.{Numbers, SameJob, ReadsBack, Rewritten}
use Rattle.job_numbers.proofs.OldBytes.{job-stands, old-bytes}

-- ---- what is written is bytes
one_byte : (b : ℕ) (l : List ℕ) → b < 256 → Bytes l → Bytes (b ∷ l)
one_byte b l h k zero = h
one_byte b l h k (suc i) = k i

groups-bytes : (k n : ℕ) (r : List ℕ) → Bytes r → Bytes (groups_of k n ++ r)
unfolding groups_of
groups-bytes zero n r h = h
groups-bytes (suc k) n r h = go (ltb n 128) refl (groups-bytes k (n / 128) r h)
  where
    go : (b : Bool) → ltb n 128 ≡ b → Bytes (groups_of k (n / 128) ++ r) → Bytes (pick b (n ∷ []) ((n % 128 + 128) ∷ groups_of k (n / 128)) ++ r)
    go true b on = one_byte n r (omega (arith, ltb-true n 128 b)) h
    go false b on = one_byte (n % 128 + 128) (groups_of k (n / 128) ++ r) (omega arith) on

all-bytes : (ns : List ℕ) → Bytes (bytes_of ns)
unfolding bytes_of each_of
all-bytes [] = λ i. omega arith
all-bytes (n ∷ ns) = groups-bytes 5 n (bytes_of ns) (all-bytes ns)

-- ---- and of one list of numbers
first_back : (n : ℕ) (ns : List ℕ) → Numbers (n ∷ ns) → (number (bytes_of (n ∷ ns)) ≡ got n (bytes_of ns)) × Numbers ns
unfolding bytes_of each_of all_in
first_back n ns h =
    let w = and-true (ltb n 4294967296) (all_in (λ n. ltb n 4294967296) ns) h in
    (read_back n (bytes_of ns) (ltb-true n 4294967296 w.0), w.1)

none-there : number (bytes_of []) ≡ refused 1
unfolding bytes_of each_of number groups
none-there = refl

pub one_list : (ns ms : List ℕ) → Numbers ns → Numbers ms → bytes_of ns ≡ bytes_of ms → ns ≡ ms
one_list [] [] h k e = refl
one_list [] (m ∷ ms) h k e =
    let a = (first_back m ms k).0 in
    let b : number (bytes_of []) ≡ number (bytes_of (m ∷ ms)) = ap number e in
    let c = none-there in
    absurd (let z : ◌≡◌ {A = ℕ} 0 1 = cc in omega arith)
one_list (n ∷ ns) [] h k e =
    let a = (first_back n ns h).0 in
    let b : number (bytes_of (n ∷ ns)) ≡ number (bytes_of []) = ap number e in
    let c = none-there in
    absurd (let z : ◌≡◌ {A = ℕ} 0 1 = cc in omega arith)
one_list (n ∷ ns) (m ∷ ms) h k e =
    let a = first_back n ns h in
    let b = first_back m ms k in
    let c : number (bytes_of (n ∷ ns)) ≡ number (bytes_of (m ∷ ms)) = ap number e in
    let d : got n (bytes_of ns) ≡ got m (bytes_of ms) = sym a.0 ∙ c ∙ b.0 in
    let is : n ≡ m = cc in
    let more : ns ≡ ms = one_list ns ms a.1 b.1 (cc) in
    rw (is, more)

pub same-job : SameJob
same-job ns j r h e =
    let w = job-stands (bytes_of ns) j r (all-bytes ns) e in
    one_list (job_numbers j) ns w.1.numbers h (old-bytes (bytes_of ns) j r (all-bytes ns) e).1

-- ---- of what is written
pub reads-back : ReadsBack
unfolding written
reads-back ns room bytes h e = go (read_job (bytes_of ns)) refl (ltb room (length (bytes_of ns))) e
  where
    go : (x : Read Job) → read_job (bytes_of ns) ≡ x → (b : Bool)
        → unless_number (number_of x) (pick b (not_written 18) (wrote (bytes_of ns))) ≡ wrote bytes
        → (j : Job) × (read_job bytes ≡ got j []) × (job_numbers j ≡ ns)
    go (refused k) is b e = absurd (let z : ◌≡◌ {A = ℕ} 0 1 = cc in omega arith)
    go (got j r) is true e = absurd (let z : ◌≡◌ {A = ℕ} 0 1 = cc in omega arith)
    go (got j r) is false e =
        let same : bytes_of ns ≡ bytes = cc in
        let w = old-bytes (bytes_of ns) j r (all-bytes ns) is in
        (j, ap read_job (sym same) ∙ is ∙ ap (λ (q : List ℕ). got j q) w.0, same-job ns j r h is)

pub rewritten : Rewritten
unfolding written
rewritten l j r room h e k = let w = old-bytes l j r h e in rw (w.1, e, le-ltb room (length l) k)
