-- Laws of text put into bytes: two puts one after the other are one put of the texts appended.
use Prim.Native.Nat.{ℕ, ◌+◌, ◌<◌, ◌≤◌}
use mathlib.Core.Path.{◌≡◌, refl, sym, ap, ◌∙◌}
use mathlib.Core.List.{List, [], ◌++◌, append_assoc}
use native.Mathlib.Omega.{arith}
use native.Mathlib.Numerals.{add-one}
use lib.ListN.{length, take, drop, set, get_or, length-append, length-drop, length-set, take-append-drop}
use lib.Seq.{take_at, drop_at, drop-drop, length-take-le, paste, paste-zero, paste-suc, take-length}
use Rattle.print.specs.Put.{Room, Put}

pub nothing_put : {out : List ℕ} {n : ℕ} → Room out n [] → Put out out n [] n
nothing_put {out} {n} h =
    let z : n + 0 ≡ n = omega arith in
    record { room = h.fits; stands = rw (z, take-append-drop n out); next = sym z }

-- no byte is added or lost
pub same_length : {out out' : List ℕ} {n r : ℕ} {text : List ℕ} → Put out out' n text r → length out' ≡ length out
same_length {out} {out'} {n} {r} {text} p =
    let front : length (take n out) ≡ n = length-take-le n out (omega (arith, p.room)) in
    rw (p.stands, length-append (take n out) (text ++ drop (n + length text) out), length-append text (drop (n + length text) out), front, length-drop (n + length text) out) (omega (arith, p.room))

-- room for two texts is room for the first, and for the second once the first is put
pub front-room : {out : List ℕ} {n : ℕ} {a : List ℕ} (b : List ℕ) → Room out n (a ++ b) → Room out n a
front-room {a = a} b h = record { fits = omega (arith, h.fits, length-append a b) }

pub next-room : {out m : List ℕ} {n i : ℕ} {a b : List ℕ} → Put out m n a i → Room out n (a ++ b) → Room m i b
next-room {a = a} {b = b} p h = record { fits = omega (arith, h.fits, length-append a b, same_length p, p.next) }

module _ {out m : List ℕ} {n i : ℕ} {a : List ℕ} (p : Put out m n a i) where
  head-length : length (take n out ++ a) ≡ n + length a
  head-length = length-append (take n out) a ∙ ap (λ (k : ℕ). k + length a) (length-take-le n out (omega (arith, p.room)))

  split : m ≡ (take n out ++ a) ++ drop (n + length a) out
  split = p.stands ∙ sym (append_assoc (take n out) a (drop (n + length a) out))

  before : take i m ≡ take n out ++ a
  before = rw (p.next, split) (take_at (take n out ++ a) (drop (n + length a) out) (n + length a) head-length)

  past : (k : ℕ) → drop (i + k) m ≡ drop (n + length a + k) out
  past k =
      let s : drop i m ≡ drop (n + length a) out = rw (p.next, split) (drop_at (take n out ++ a) (drop (n + length a) out) (n + length a) head-length) in
      sym (drop-drop k i m) ∙ rw s (drop-drop k (n + length a) out)

  -- two puts one after the other
  pub then-put : {out' : List ℕ} {r : ℕ} {b : List ℕ} → Put m out' i b r → Put out out' n (a ++ b) r
  then-put {out'} {r} {b} q =
      let l : n + length a + length b ≡ n + length (a ++ b) = omega (arith, length-append a b) in
      record {
        room = omega (arith, q.room, p.next, same_length p, length-append a b);
        stands = q.stands ∙ rw (before, past (length b), l, append_assoc (take n out) a (b ++ drop (n + length (a ++ b)) out), append_assoc a b (drop (n + length (a ++ b)) out));
        next = omega (arith, q.next, p.next, length-append a b);
      }

-- ---- byte by byte: the first i bytes of the text stand there
pub record Copying (out₀ text : List ℕ) (n : ℕ) (out : List ℕ) (i : ℕ) : Type 0 where
  pub copied : out ≡ paste out₀ n text i
  pub within : i ≤ length text
  pub long : length out ≡ length out₀

module _ (out₀ text : List ℕ) (n : ℕ) (h : Room out₀ n text) where
  pub none-copied : Copying out₀ text n out₀ 0
  none-copied = record { copied = paste-zero out₀ n text; within = omega arith; long = refl }

  pub one-copied : (out : List ℕ) (i : ℕ) → Copying out₀ text n out i → i < length text → Copying out₀ text n (set out (n + i) (get_or text i 0)) (i + 1)
  one-copied out i c l =
      record {
        copied = rw (c.copied, add-one i) (paste-suc out₀ n text i 0 (omega (arith, h.fits)) l);
        within = omega arith;
        long = length-set out (n + i) (get_or text i 0) ∙ c.long;
      }

  pub all-copied : (out : List ℕ) (i : ℕ) → Copying out₀ text n out i → length text ≤ i → Put out₀ out n text (n + i)
  all-copied out i c l =
      let e : i ≡ length text = omega (arith, c.within) in
      record { room = h.fits; stands = rw (c.copied, e, take-length text) (append_assoc (take n out₀) text (drop (n + length text) out₀)); next = ap (λ (k : ℕ). n + k) e }
