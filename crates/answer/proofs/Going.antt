-- The patches of a job, one after the other.
use Prim.Native.Nat.{ℕ, suc, ◌+◌, ◌-◌, ◌<◌, ◌≤◌}
use mathlib.Core.Path.{◌≡◌, refl, sym, ap, ◌∙◌}
use mathlib.Core.List.{List, [], ◌∷◌, ◌++◌, append_assoc, append-nil}
use mathlib.Core.Option.{Option, none, some}
use native.Mathlib.Omega.{arith}
use lib.ListN.{length, drop, length-drop}
use Rattle.parallel_moves.specs.Given.{CacheOk}
use Rattle.print.specs.Put.{Put}
use Rattle.print.proofs.Putting.{nothing_put, then-put, same_length}
use Rattle.answer_text.specs.Heads.{patch_words}
use Rattle.job_rules.specs.Job.{Resolver, Done, Answers, ends_with, left_over}
use Rattle.answer.specs.Room.{patches_in}
use Rattle.answer.specs.Words.{words_of, AllPacked}
use Rattle.answer.specs.declared.Onward.TheVariants as O
use Rattle.answer.specs.Whole.{rest_in, Next, ended, Wholly}

-- answers after those that were given
abbrev pub after : List Done → Answers → Answers
after l a = record { done = l ++ a.done; refusal = a.refusal }

words_append : (l m : List Done) → words_of (l ++ m) ≡ words_of l ++ words_of m
unfolding words_of
words_append [] m = refl
words_append (d ∷ l) m = rw (words_append l m) (sym (append_assoc (patch_words d.edits d.made d.position) (words_of l) (words_of m)))

words-one : (d : Done) → words_of (d ∷ []) ≡ patch_words d.edits d.made d.position
unfolding words_of
words-one d = append-nil (patch_words d.edits d.made d.position)

packed-append : (l m : List Done) → AllPacked l → AllPacked m → AllPacked (l ++ m)
packed-append [] m p q = q
packed-append (d ∷ l) m p q = (p.0, packed-append l m p.1 q)

-- the answers of the patches so far stand in the words, and the others are still to come
pub record Going (by : Resolver) (t f s : List ℕ) (a : Answers) (words₀ cache words : List ℕ) (at n left : ℕ) : Type 0 where
  pub done : List Done
  pub is : a ≡ after done (rest_in by t f s at cache left (length words - n))
  pub put : Put words₀ words 0 (words_of done) n
  pub cached : CacheOk f cache
  pub packed : AllPacked done

-- the answers end here
all_told : (a : Answers) (words₀ words : List ℕ) (n : ℕ) (l : List Done) → Put words₀ words 0 (words_of l) n → AllPacked l → (o : Option ℕ) → a ≡ after l (ends_with o) → Wholly words₀ a (ended o n) words
all_told a words₀ words n l p k o e =
    let d : a.done ≡ l = ap (λ (x : Answers). x.done) e ∙ append-nil l in
    let r : a.refusal ≡ o = ap (λ (x : Answers). x.refusal) e in
    let z : 0 + length (words_of l) ≡ length (words_of l) = omega arith in
    rw (d, r) record { is = ap (ended o) (p.next ∙ z); fits = omega (arith, p.room); stands = rw z at p.stands; packed = k }

over : (l : List ℕ) → 0 < length l → left_over l ≡ ends_with (some 8)
over [] h = absurd (omega arith)
over (b ∷ l) h = refl

none_over : (l : List ℕ) → length l ≡ 0 → left_over l ≡ ends_with none
none_over [] h = refl
none_over (b ∷ l) h = absurd (omega arith)

module _ (by : Resolver) (t f s : List ℕ) (a : Answers) (words₀ : List ℕ) where
  pub begun : (cache : List ℕ) (at left : ℕ) → a ≡ rest_in by t f s at cache left (length words₀) → CacheOk f cache → Going by t f s a words₀ cache words₀ at 0 left
  unfolding words_of
  begun cache at left e c =
      let z : length words₀ - 0 ≡ length words₀ = omega arith in
      record { done = []; is = rw z e; put = nothing_put record { fits = omega arith }; cached = c; packed = tt }

  module _ (cache words : List ℕ) (at n left : ℕ) (g : Going by t f s a words₀ cache words at n left) where
    pub room : n ≤ length words
    room = omega (arith, g.put.next, g.put.room, same_length g.put)

    some_left : 0 < left → a ≡ after g.done (rest_in by t f s at cache (suc (left - 1)) (length words - n))
    some_left h = let e : left ≡ suc (left - 1) = omega arith in g.is ∙ ap (λ (k : ℕ). after g.done (rest_in by t f s at cache k (length words - n))) e

    pub refused-here : (cache' words' : List ℕ) (k : ℕ) → 0 < left → Next by t f s at cache cache' words words' n (O.Refused k) → Wholly words₀ a (ended (some k) n) words'
    refused-here cache' words' k h x =
        rw x.1 (all_told a words₀ words n g.done g.put g.packed (some k) (some_left h ∙ ap (after g.done) (x.0 (left - 1))))

    pub goes_on : (cache' words' : List ℕ) (next m : ℕ) → 0 < left → Next by t f s at cache cache' words words' n (O.At next m) → Going by t f s a words₀ cache' words' next m (left - 1)
    goes_on cache' words' next m h x =
        let l : List Done = g.done ++ (x.0 ∷ []) in
        let e : words_of l ≡ words_of g.done ++ patch_words x.0.edits x.0.made x.0.position = rw (words_append g.done (x.0 ∷ []), words-one x.0) in
        record {
          done = l;
          is =
              some_left h ∙ ap (after g.done) (x.1 (left - 1))
              ∙ rw (same_length x.2, append_assoc g.done (x.0 ∷ []) (rest_in by t f s next cache' (left - 1) (length words - m)).done);
          put = rw e (then-put g.put x.2);
          cached = x.3;
          packed = packed-append g.done (x.0 ∷ []) g.packed (x.5, tt);
        }

    ended_here : (k : Option ℕ) → left ≤ 0 → left_over (drop at s) ≡ ends_with k → Wholly words₀ a (ended k n) words
    unfolding patches_in
    ended_here k h e =
        let z : left ≡ 0 = omega arith in
        all_told a words₀ words n g.done g.put g.packed k
        (g.is ∙ ap (λ (k : ℕ). after g.done (rest_in by t f s at cache k (length words - n))) z ∙ ap (after g.done) e)

    pub left_over_lem : left ≤ 0 → at < length s → Wholly words₀ a (ended (some 8) n) words
    left_over_lem h q = ended_here (some 8) h (over (drop at s) (rw (length-drop at s) (omega arith)))

    pub all_read : left ≤ 0 → length s ≤ at → Wholly words₀ a (ended none n) words
    all_read h q = ended_here none h (none_over (drop at s) (rw (length-drop at s) (omega arith)))
