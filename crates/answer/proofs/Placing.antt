-- The words of a patch among the lent words: those of its edits stand in the part that its call is lent, then its head is put before them.
use Prim.Native.Nat.{ℕ, suc, ◌+◌, ◌-◌, ◌<◌, ◌≤◌}
use mathlib.Core.Path.{◌≡◌, refl, ap, ◌∙◌}
use mathlib.Core.Bool.{Bool, true, false}
use mathlib.Core.List.{List, [], ◌∷◌, ◌++◌, map, append_assoc, append-nil}
use mathlib.Core.Logic.{◌⊎◌, inl, inr}
use mathlib.Core.Option.{some}
use native.Mathlib.Omega.{arith}
use native.Mathlib.Numerals.{add-one}
use borrow.Author.Tests.{ltb-true, ltb-false}
use lib.Dec.{ltb}
use lib.ListN.{length, take, drop, set, get_or, length-append, length-drop, length-map, take-append-drop}
use lib.Seq.{length-take-le, take_all, take-suc, drop-length, drop-drop, set_at}
use Rattle.entity.specs.Logic.{pick}
use Rattle.reginfo.specs.RegInfo.{RegInfo}
use Rattle.reginfo.specs.Table.{reg_info_of}
use Rattle.function.specs.Function.{Function}
use Rattle.function.specs.Table.{function_of}
use Rattle.rules.specs.Edit.{Edit}
use Rattle.rules.specs.Scratch.{Cache}
use Rattle.rules.specs.Patch.{Patch}
use Rattle.rules.specs.Patch as rules
use Rattle.edit.specs.Word.{word_of}
use Rattle.slots.specs.Stacks.{cache_of}
use Rattle.print.specs.Put.{Put}
use Rattle.answer_text.specs.Heads.{head_word, patch_words}
use Rattle.job_patch.specs.Patches.{patch}
use Rattle.job.specs.declared.Step.TheVariants.{Refused}
use Rattle.job_rules.specs.Job.{Resolver, Done, ends_with, before}
use Rattle.job.specs.Steps.{StepAt}
use Rattle.answer.specs.Room.{call_in, patches_in}
use Rattle.answer.specs.declared.Onward.TheVariants as O
use Rattle.answer.specs.Whole.{behind_head, rest_in, Next}
use Rattle.answer.proofs.Called.{Turned, unread, uncalled, turned, Called}

both-empty : (a b : List ℕ) → length a ≡ 0 → length b ≡ 0 → a ≡ b
both-empty [] [] p q = refl
both-empty [] (y ∷ b) p q = absurd (omega arith)
both-empty (x ∷ a) b p q = absurd (omega arith)

-- ---- the part from `from` on, lent and given back
module _ (words : List ℕ) (n from : ℕ) where
  abbrev part : List ℕ
  part = take (length words - from) (drop from words)

  abbrev back : List ℕ → List ℕ
  back list = take from words ++ (list ++ drop (length words - from) (drop from words))

  part-is : part ≡ drop from words
  part-is = take_all (length words - from) (drop from words) (omega (arith, length-drop from words))

  part_length : length part ≡ length words - from
  part_length = ap length part-is ∙ length-drop from words

  back_is : (list : List ℕ) → back list ≡ take from words ++ list
  back_is list = rw (← length-drop from words, drop-length (drop from words), append-nil list)

  pub back-length : (list : List ℕ) → from ≤ length words → length list ≡ length part → length (back list) ≡ length words
  back-length list h k = ap length (back_is list) ∙ rw (length-append (take from words) list, length-take-le from words h) (omega (arith, k, part_length))

  given_back : (list : List ℕ) → list ≡ part → back list ≡ words
  given_back list h = back_is list ∙ rw (h, part-is) (take-append-drop from words)

  -- what is left has a head before the part, or is nothing
  module _ (room : n ≤ length words) (is : from ≡ behind_head n (length words)) where
    pub from-within : from ≤ length words
    from-within = go (ltb n (length words)) refl is
      where
        go : (b : Bool) → ltb n (length words) ≡ b → from ≡ pick b (n + 1) n → from ≤ length words
        go true h e = omega (arith, ltb-true n (length words) h)
        go false h e = omega arith

    lent : (length words - n ≡ suc (length part)) ⊎ ((length words - n ≡ 0) × (length part ≡ 0))
    lent = go (ltb n (length words)) refl is
      where
        go : (b : Bool) → ltb n (length words) ≡ b → from ≡ pick b (n + 1) n → (length words - n ≡ suc (length part)) ⊎ ((length words - n ≡ 0) × (length part ≡ 0))
        go true h e = inl (omega (arith, ltb-true n (length words) h, part_length))
        go false h e = inr (omega (arith, ltb-false n (length words) h), omega (arith, ltb-false n (length words) h, part_length))

    none_left : from ≡ n → length words ≤ n
    none_left z = go (ltb n (length words)) refl is
      where
        go : (b : Bool) → ltb n (length words) ≡ b → from ≡ pick b (n + 1) n → length words ≤ n
        go true h e = absurd (omega arith)
        go false h e = ltb-false n (length words) h

    pub one_left : (from ≡ n → ⊥) → (from ≡ n + 1) × (n < length words)
    one_left z = go (ltb n (length words)) refl is
      where
        go : (b : Bool) → ltb n (length words) ≡ b → from ≡ pick b (n + 1) n → (from ≡ n + 1) × (n < length words)
        go true h e = (e, ltb-true n (length words) h)
        go false h e = absurd (z e)

  -- the head before the words of the edits
  module _ (one : from ≡ n + 1) (there : n < length words) (es : List Edit) (made position : ℕ) (list : List ℕ) (listed : list ≡ map word_of es ++ drop (length es) part) (kept : length list ≡ length part) where
    pub edits-fit : from + length es ≤ length words
    edits-fit = omega (arith, kept, ap length listed, length-append (map word_of es) (drop (length es) part), length-map es word_of, length-drop (length es) part, part_length)

    head-put : (w : ℕ) → w ≡ head_word (length es) made position → Put words (set (back list) n w) n (patch_words es made position) (from + length es)
    head-put w e =
        let l : length (take n words) ≡ n = length-take-le n words (omega arith) in
        let z : n + 1 + length es ≡ n + length (patch_words es made position) = omega (arith, length-map es word_of) in
        let b : back list ≡ take n words ++ (get_or words n 0 ∷ list) = back_is list ∙ rw (one, add-one n, take-suc words n 0 there) (append_assoc (take n words) (get_or words n 0 ∷ []) list) in
        let x : drop (length es) part ≡ drop (n + length (patch_words es made position)) words = rw (part-is, one, drop-drop (length es) (n + 1) words, z) in
        record {
          room = omega (arith, edits-fit);
          stands = ap (λ (k : List ℕ). set k n w) b ∙ set_at (take n words) (get_or words n 0) list w n l ∙ rw (e, listed, x);
          next = omega (arith, one);
        }

-- ---- the next patch
module _ (by : Resolver) (t f s : List ℕ) (at : ℕ) (words : List ℕ) (n from : ℕ) (room : n ≤ length words) (is : from ≡ behind_head n (length words)) (cache list cache' : List ℕ) where
  abbrev T : RegInfo
  T = reg_info_of t

  abbrev F : Function
  F = function_of f

  abbrev lent_part : List ℕ
  lent_part = part words n from

  call-refused : (p : Patch) (k w m : ℕ) → (w ≡ suc m) ⊎ ((w ≡ 0) × (m ≡ 0)) → by T F p m (cache_of cache) ≡ rules.refused k → call_in by T F p w (cache_of cache) ≡ rules.refused k
  call-refused p k w m (inl e) h = rw e h
  call-refused p k w m (inr e) h = rw (e.0, rw e.1 at h)

  turned-in : (k left : ℕ) → Turned by t f s lent_part cache list cache' k (patch T F (drop at s)) → rest_in by t f s at cache (suc left) (length words - n) ≡ ends_with (some k)
  unfolding patches_in
  turned-in k left (unread e) = rw e
  turned-in k left (uncalled p r e h) = rw (e, call-refused p k (length words - n) (length lent_part) (lent words n from room is) h)

  pub next-refused : (k : ℕ) → StepAt by t f s (patch T F (drop at s)) (Refused k) lent_part list cache cache' → Next by t f s at cache cache' words (back words n from list) n (O.Refused k)
  next-refused k h =
      let w = turned by t f s lent_part cache list cache' (patch T F (drop at s)) k h in
      (λ left. turned-in k left w.0, given_back words n from list w.1)

  module _ (count met next : ℕ) (g : Called by t f s lent_part cache list cache' count met next (patch T F (drop at s))) (kept : length list ≡ length lent_part) where
    headless-in : (left : ℕ) → length words ≤ n → length lent_part ≡ 0 → rest_in by t f s at cache (suc left) (length words - n) ≡ ends_with (some 16)
    unfolding patches_in
    headless-in left h z =
        let y : length words - n ≡ 0 = omega arith in
        rw (y, g.reads, rw z at g.calls)

    pub no-head : from ≡ n → Next by t f s at cache cache' words (back words n from list) n (O.Refused 16)
    no-head h =
        let o = none_left words n from room is h in
        let z : length lent_part ≡ 0 = omega (arith, part_length words n from) in
        (λ left. headless-in left o z, given_back words n from list (both-empty list lent_part (kept ∙ z) z))

    goes_on : (left : ℕ) → from ≡ n + 1 → n < length words
        → rest_in by t f s at cache (suc left) (length words - n)
        ≡ before (record { edits = g.es; made = g.after.made; position = met }) (patches_in by T F left (cache_of cache') (length words - (from + count)) (drop next s))
    unfolding patches_in
    goes_on left one there =
        let y : length words - n ≡ suc (length lent_part) = omega (arith, part_length words n from) in
        let x : suc (length lent_part) - (1 + length g.es) ≡ length words - (from + count) = omega (arith, part_length words n from, g.counted) in
        rw (y, g.reads, g.calls, x, g.cache-is, g.on)

    pub next-put : (from ≡ n → ⊥) → count ≤ 1024 → (made position w : ℕ) → made < 65536 → made ≡ (cache_of cache').made → position < 65536 → position ≡ met → w ≡ head_word count made position
        → Next by t f s at cache cache' words (set (back words n from list) n w) n (O.At next (from + count))
    next-put h few made position w small m low i e =
        let o = one_left words n from room is h in
        let d : Done = record { edits = g.es; made = g.after.made; position = met } in
        let y : made ≡ g.after.made = m ∙ ap (λ (c : Cache). c.made) g.cache-is in
        let x : w ≡ head_word (length g.es) g.after.made met = e ∙ rw (g.counted, y, i) in
        let z : from + length g.es ≡ from + count = omega (arith, g.counted) in (
          d,
          λ left. goes_on left o.0 o.1,
          rw z at (head-put words n from o.0 o.1 g.es g.after.made met list g.listed kept w x),
          g.cached,
          g.past,
          record { ranged = g.ranged; few = omega (arith, g.counted); small = omega arith; low = omega arith },
        )
