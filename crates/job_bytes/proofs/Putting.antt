-- Laws of bytes put one behind the other.
use Prim.Native.Nat.{ℕ, zero, suc, ◌+◌, ◌-◌, ◌/◌, ◌%◌, ◌^◌, ◌<◌, ◌≤◌}
use mathlib.Core.Path.{◌≡◌, refl, sym, ap, ◌∙◌}
use mathlib.Core.List.{List, [], ◌∷◌, ◌++◌, append_assoc, append-nil}
use native.Mathlib.Omega.{arith}
use native.Mathlib.Numerals.{add-one}
use lib.ListN.{length, take, set, length-append}
use lib.Seq.{take-suc-set, take_all}
use borrow.Author.Tests.{lt-ltb, le-ltb}
use Rattle.number.specs.Number.{groups_of, encoded}
use Rattle.job_numbers.specs.Numbers.{each_of, bytes_of}
use Rattle.std.specs.Prelude.{Option, Some, None}
use Rattle.job_bytes.specs.Puts.{Puts}

apart : {A : Type 0} {n : ℕ} → None ≡ Some n → A
apart e = absurd (let z : ◌≡◌ {A = ℕ} 0 1 = cc in omega arith)

pub puts-at : {work work' bytes : List ℕ} {at next : ℕ} → take next work' ≡ take at work ++ bytes → (at ≤ 65536 → next ≤ 65536) → Puts work at bytes work' (Some next)
puts-at {work} {work'} {bytes} {at} {next} s w =
    record {
      stand = λ n e. let q : n ≡ next = cc in rw q s;
      within = λ n e h. let q : n ≡ next = cc in rw q (w h);
      over = λ e. apart (sym e);
    }

pub puts-over : {work work' bytes : List ℕ} {at : ℕ} → 65536 < length (take at work ++ bytes) → Puts work at bytes work' None
puts-over h = record { stand = λ n e. apart e; within = λ n e. apart e; over = λ e. h }

pub puts-as : {work work' a whole : List ℕ} {at : ℕ} {r x : Option ℕ} → whole ≡ a → Puts work at a work' r → r ≡ x → Puts work at whole work' x
puts-as e p o = rw (e, ← o) p

-- ---- one byte
pub byte_put : (work : List ℕ) (at b : ℕ) → length work ≡ 65536 → at < 65536 → Puts work at (b ∷ []) (set work at b) (Some (at + 1))
byte_put work at b l h = puts-at (rw (add-one at, take-suc-set work at b (omega arith))) (λ g. omega arith)

pub byte-over : (work : List ℕ) (at b : ℕ) → length work ≡ 65536 → 65536 ≤ at → Puts work at (b ∷ []) work None
byte-over work at b l h = puts-over (rw (take_all at work (omega arith), length-append work (b ∷ [])) (omega arith))

-- ---- two parts
module _ {work mid a whole : List ℕ} {at : ℕ} {r : Option ℕ} (b : List ℕ) (e : whole ≡ a ++ b) (p : Puts work at a mid r) where
  pub first-over : r ≡ None → Puts work at whole mid None
  first-over o = puts-over (rw (e, ← append_assoc (take at work) a b, length-append (take at work ++ a) b) (omega (arith, p.over o)))

  pub then-puts : {work' : List ℕ} {next : ℕ} {x : Option ℕ} → r ≡ Some next → Puts mid next b work' x → Puts work at whole work' x
  then-puts {work'} {next} {x} o q =
      let joined : take next mid ++ b ≡ take at work ++ whole = rw (p.stand next o, e) (append_assoc (take at work) a b) in
      record {
        stand = λ n k. q.stand n k ∙ joined;
        within = λ n k h. q.within n k (p.within next o h);
        over = λ k. rw (← joined) (q.over k);
      }

-- ---- part by part: of the bytes to be put from `at` on, `rest` are left
pub record Left (work : List ℕ) (at : ℕ) (whole mid : List ℕ) (q : ℕ) (rest : List ℕ) : Type 0 where
  pub is : take q mid ++ rest ≡ take at work ++ whole
  pub within : at ≤ 65536 → q ≤ 65536

pub all_left : {work : List ℕ} {at : ℕ} {whole : List ℕ} (rest : List ℕ) → whole ≡ rest → Left work at whole work at rest
all_left {work} {at} rest e = record { is = ap (λ (l : List ℕ). take at work ++ l) (sym e); within = λ h. h }

module _ {work whole mid rest : List ℕ} {at q : ℕ} (l : Left work at whole mid q rest) where
  pub none_left : rest ≡ [] → Puts work at whole mid (Some q)
  none_left e = puts-at (sym (append-nil (take q mid)) ∙ rw e at l.is) l.within

  pub last-puts : {work' : List ℕ} {x : Option ℕ} → Puts mid q rest work' x → Puts work at whole work' x
  last-puts p =
      record {
        stand = λ n k. p.stand n k ∙ l.is;
        within = λ n k h. p.within n k (l.within h);
        over = λ k. rw (← l.is) (p.over k);
      }

  module _ {a mid' : List ℕ} {r : Option ℕ} (b : List ℕ) (e : rest ≡ a ++ b) (p : Puts mid q a mid' r) where
    pub one-over : r ≡ None → Puts work at whole mid' None
    one-over o = last-puts (first-over b e p o)

    pub one-put : {next : ℕ} → r ≡ Some next → Left work at whole mid' next b
    one-put {next} o =
        record {
          is = rw (p.stand next o, append_assoc (take q mid) a b, ← e) l.is;
          within = λ h. p.within next o (l.within h);
        }

-- ---- the groups of a number
pub some-groups : (k n : ℕ) → 128 ≤ n → n < 128 ^ k → groups_of k n ≡ ((n % 128 + 128) ∷ []) ++ groups_of (k - 1) (n / 128)
unfolding groups_of
some-groups zero n h l = absurd (omega arith)
some-groups (suc k) n h l = let e : suc k - 1 ≡ k = omega arith in rw (le-ltb n 128 h, e)

pub one-group : (k n : ℕ) → n < 128 → 0 < k → groups_of k n ≡ n ∷ []
unfolding groups_of
one-group zero n h l = absurd (omega arith)
one-group (suc k) n h l = rw (lt-ltb n 128 h)

pub fewer : (k n : ℕ) → 128 ≤ n → n < 128 ^ k → (0 < k - 1) × (n / 128 < 128 ^ (k - 1))
fewer zero n h l = absurd (omega arith)
fewer (suc zero) n h l = absurd (omega arith)
fewer (suc (suc k)) n h l = let e : suc (suc k) - 1 ≡ suc k = omega arith in rw e (omega arith, omega arith)

-- ---- the bytes of numbers
pub bytes-more : (n : ℕ) (ns : List ℕ) → bytes_of (n ∷ ns) ≡ encoded n ++ bytes_of ns
unfolding bytes_of each_of
bytes-more n ns = refl

pub bytes_one : (n : ℕ) → bytes_of (n ∷ []) ≡ encoded n
unfolding bytes_of each_of
bytes_one n = append-nil (encoded n)

pub bytes-none : bytes_of [] ≡ []
unfolding bytes_of each_of
bytes-none = refl

pub bytes-append : (a b : List ℕ) → bytes_of (a ++ b) ≡ bytes_of a ++ bytes_of b
unfolding bytes_of each_of
bytes-append [] b = refl
bytes-append (n ∷ a) b = rw (bytes-append a b) (sym (append_assoc (encoded n) (bytes_of a) (bytes_of b)))
