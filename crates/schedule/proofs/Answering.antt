-- The text of an answer, and what is left to take.
use Prim.Native.Nat.{ℕ, ◌+◌, ◌-◌, ◌≤◌}
use mathlib.Core.Path.{◌≡◌, refl, ap, ◌∙◌}
use mathlib.Core.Bool.{Bool, true, false}
use mathlib.Core.List.{List}
use mathlib.Core.Logic.{◌⊎◌, inl, inr, ⊎_elim}
use native.Mathlib.Omega.{arith}
use lib.Dec.{eqb}
use lib.ListN.{length, take, drop}
use borrow.Author.Tests.{eq-eqb, ne_eqb}
use Rattle.std.specs.Prelude.{Option, None, Some}
use Rattle.rules.specs.Edit.{Edit}
use Rattle.rules.specs.Patch.{Answer, refused, resolved}
use Rattle.rules.proofs.Steps.{same?}
use Rattle.number.specs.Read.{Read, got, refused as read-refused}
use Rattle.number.specs.declared.Number.{Number}
use Rattle.number.specs.declared.Number.TheVariants as N
use Rattle.reading.specs.Reading.{below}
use Rattle.reading.specs.Answer.{ReadAt}
use Rattle.slots.specs.Stacks.{stamp_of}
use Rattle.print.specs.Text.{patch_text, refused_line}
use Rattle.print.specs.Words.{Words}
use Rattle.print.specs.Put.{Put}
use Rattle.print.proofs.Printing.{front-words, front_fits}
use Rattle.parallel_moves.specs.declared.Resolved as R
use Rattle.parallel_moves.specs.declared.Resolved.{Resolved}
use Rattle.parallel_moves.specs.declared.asking.TakeAnswer as K
use Rattle.parallel_moves.specs.declared.asking.TakeAnswer.{TakeAnswer}
use Rattle.frame_table.specs.Table.{counter_of, made_of}
use Rattle.frame_calls.specs.declared.FramePreview.{FramePreview}
use Rattle.frame_calls.specs.declared.FrameAsked as A
use Rattle.frame_calls.specs.declared.FrameAsked.{FrameAsked}
use Rattle.frame_calls.specs.Answers.{answer_of, GivesIn, AsksIn, CanTakeIn, TakesIn, preview_in}
use Rattle.schedule.specs.declared.Lists.{Lists}
use Rattle.schedule.specs.declared.Lists.TheVariants as L
use Rattle.schedule.specs.Lists.{ListsAt, Called, with_patch, called}
use Rattle.schedule.specs.Answered.{text_in, MovedBy, LeftBy, is_fresh, to_of, taken_text, TakenBy, AnsweredAs}
use Rattle.schedule.specs.Standing.{CanTakeIf}

-- ---- resolved
module _ (frame frame' : List ℕ) (i : ℕ) (f : List ℕ) (answer : Answer) (r : Resolved) (list list' cache cache' : List ℕ) (h : GivesIn frame frame' i f answer r list list' cache cache') where
  module _ (out out' : List ℕ) (len : ℕ) where
    pub refused-text : (k : ℕ) → r ≡ R.TheVariants.Refused k → Put out out' 0 (refused_line k) len → Put out out' 0 (text_in frame i answer) len × MovedBy frame frame' i f answer cache cache'
    refused-text k e p = go answer (rw e at h)
      where
        go : (a : Answer) → GivesIn frame frame' i f a (R.TheVariants.Refused k) list list' cache cache' → Put out out' 0 (text_in frame i a) len × MovedBy frame frame' i f a cache cache'
        go (refused n) x = let y = x.0 in let z : k ≡ n = cc in (rw (← z) p, (x.2, x.3))
        go (resolved es c n) x = let y = x.0 in let z : ◌≡◌ {A = ℕ} 0 1 = cc in absurd (omega arith)

    pub edits-text : (n m : ℕ) → r ≡ R.TheVariants.Edits n m → (made : ℕ) → made ≡ made_of frame' i
        → ((es : List Edit) → Words (take n list') es → Put out out' 0 (patch_text 1 es made) len) → Put out out' 0 (text_in frame i answer) len × MovedBy frame frame' i f answer cache cache'
    edits-text n m e made own p = go answer (rw e at h)
      where
        go : (a : Answer) → GivesIn frame frame' i f a (R.TheVariants.Edits n m) list list' cache cache' → Put out out' 0 (text_in frame i a) len × MovedBy frame frame' i f a cache cache'
        go (refused k) x = let y = x.0 in let z : ◌≡◌ {A = ℕ} 0 1 = cc in absurd (omega arith)
        go (resolved es c k) x =
            let w : Words (take n list') es = rw x.1 (front-words list' (drop (length es) list) es x.3 x.2) in
            let q : made ≡ made_of frame i + (c.made - counter_of frame) = own ∙ x.7.own in
            (rw (← q) (p es w), (x.4, x.6, x.7, x.8, x.9, x.10))

  pub few-edits : (n m : ℕ) → r ≡ R.TheVariants.Edits n m → length list' ≡ 1024 → n ≤ 1024
  few-edits n m e l = go answer (rw e at h)
    where
      go : (a : Answer) → GivesIn frame frame' i f a (R.TheVariants.Edits n m) list list' cache cache' → n ≤ 1024
      go (refused k) x = let y = x.0 in let z : ◌≡◌ {A = ℕ} 0 1 = cc in absurd (omega arith)
      go (resolved es c k) x = omega (arith, x.1, front_fits list' (drop (length es) list) es x.2, l)

-- ---- asked for
module _ (frame : List ℕ) (i : ℕ) (f : List ℕ) (answer : Answer) (r : FrameAsked) (list list' cache slots' : List ℕ) (h : AsksIn frame i f answer r list list' cache slots') where
  module _ (out out' : List ℕ) (len : ℕ) where
    pub asking-refused : (k : ℕ) → r ≡ A.TheVariants.Refused k → Put out out' 0 (refused_line k) len → Put out out' 0 (text_in frame i answer) len × LeftBy frame i f answer cache slots' None
    asking-refused k e p = go answer (rw e at h)
      where
        go : (a : Answer) → AsksIn frame i f a (A.TheVariants.Refused k) list list' cache slots' → Put out out' 0 (text_in frame i a) len × LeftBy frame i f a cache slots' None
        go (refused n) x = let y = x.0 in let z : k ≡ n = cc in (rw (← z) p, refl)
        go (resolved es c n) x = let y = x.0 in let z : ◌≡◌ {A = ℕ} 0 1 = cc in absurd (omega arith)

    pub asking-ready : (n : ℕ) (b : FramePreview) → r ≡ A.TheVariants.Ready n b → ((es : List Edit) → Words (take n list') es → Put out out' 0 (patch_text 1 es b.made) len)
        → Put out out' 0 (text_in frame i answer) len × LeftBy frame i f answer cache slots' (Some b)
    asking-ready n b e p = go answer (rw e at h)
      where
        go : (a : Answer) → AsksIn frame i f a (A.TheVariants.Ready n b) list list' cache slots' → Put out out' 0 (text_in frame i a) len × LeftBy frame i f a cache slots' (Some b)
        go (refused k) x = let y = x.0 in let z : ◌≡◌ {A = ℕ} 0 1 = cc in absurd (omega arith)
        go (resolved es c k) x =
            let y = x.0 in
            let m : n ≡ length es = cc in
            let q : b ≡ preview_in frame i c k cache = cc in
            let w : Words (take n list') es = rw m (front-words list' (drop (length es) list) es x.2 x.1) in
            let o : b.made ≡ made_of frame i + (c.made - counter_of frame) = ap (λ (v : FramePreview). v.made) q in
            (rw (← o) (p es w), (ap Some q, x.3, x.4))

  pub few-shown : (n : ℕ) (b : FramePreview) → r ≡ A.TheVariants.Ready n b → length list' ≡ 1024 → n ≤ 1024
  few-shown n b e l = go answer (rw e at h)
    where
      go : (a : Answer) → AsksIn frame i f a (A.TheVariants.Ready n b) list list' cache slots' → n ≤ 1024
      go (refused k) x = let y = x.0 in let z : ◌≡◌ {A = ℕ} 0 1 = cc in absurd (omega arith)
      go (resolved es c k) x = let y = x.0 in let m : n ≡ length es = cc in omega (arith, m, front_fits list' (drop (length es) list) es x.1, l)

-- ---- taken
pub can-take : (frame : List ℕ) (i : ℕ) (left : Option FramePreview) (a : FramePreview) (slots cache : List ℕ) → left ≡ Some a → CanTakeIf frame i left slots cache
    → a.stamp ≡ stamp_of cache → a.counter ≡ counter_of frame → CanTakeIn frame i a slots cache
can-take frame i left a slots cache e h = rw e at h

module _ (frame frame' : List ℕ) (i : ℕ) (left : Option FramePreview) (slots cache cache' out out' : List ℕ) (len : ℕ) where
  abbrev Told : Type 0
  Told = Put out out' 0 (taken_text left (is_fresh frame cache left)) len × TakenBy (is_fresh frame cache left) frame frame' i (to_of left) slots cache cache'

  pub nothing_left : left ≡ None → Put out out' 0 (taken_text None false) len → cache' ≡ cache → frame' ≡ frame → Told
  nothing_left e p c f = rw e (p, (c, f))

  module _ (a : FramePreview) (e : left ≡ Some a) (r : TakeAnswer) (h : TakesIn frame frame' i a slots cache r cache') where
    late : is_fresh frame cache (Some a) ≡ false → (k : ℕ) → r ≡ K.TheVariants.Refused k → (a.stamp ≡ stamp_of cache → ⊥) ⊎ (a.counter ≡ counter_of frame → ⊥) → Put out out' 0 (refused_line k) len → Told
    late b k z d p =
        let q = h.other d in
        let y = q.0 in
        let n : k ≡ 20 = cc in
        let g : Put out out' 0 (refused_line 20) len = rw n at p in
        rw (e, b) (g, (q.1, q.2))

    pub too-late : (k : ℕ) → r ≡ K.TheVariants.Refused k → Put out out' 0 (refused_line k) len → Told
    too-late k z p =
        ⊎_elim
        (λ s. ⊎_elim
        (λ c. let y = (h.same s c).0 in let n : ◌≡◌ {A = ℕ} 0 1 = cc in absurd (omega arith))
        (λ d. late (rw (eq-eqb a.stamp (stamp_of cache) s, ne_eqb a.counter (counter_of frame) d) refl) k z (inr d) p) (same? a.counter (counter_of frame)))
        (λ d. late (rw (ne_eqb a.stamp (stamp_of cache) d) refl) k z (inl d) p) (same? a.stamp (stamp_of cache))

    pub in-time : r ≡ K.TheVariants.Yes → Put out out' 0 (taken_text (Some a) true) len → Told
    in-time z p =
        ⊎_elim
        (λ s. ⊎_elim
        (λ c. let y = h.same s c in
        let b : is_fresh frame cache (Some a) ≡ true = rw (eq-eqb a.stamp (stamp_of cache) s, eq-eqb a.counter (counter_of frame) c) refl in
        rw (e, b) (p, (y.1, y.2, y.3)))
        (λ d. let y = (h.other (inr d)).0 in let n : ◌≡◌ {A = ℕ} 0 1 = cc in absurd (omega arith)) (same? a.counter (counter_of frame)))
        (λ d. let y = (h.other (inl d)).0 in let n : ◌≡◌ {A = ℕ} 0 1 = cc in absurd (omega arith)) (same? a.stamp (stamp_of cache))

-- ---- a call as it is read
module _ (frame frame' : List ℕ) (i : ℕ) (t f cache cache' slots slots' : List ℕ) (left left' : Option FramePreview) (out out' : List ℕ) (len : ℕ) (s : List ℕ) (at at' : ℕ) where
  abbrev As : (from : ℕ) → Read Called → Type 0
  As from x = AnsweredAs frame frame' i t f cache cache' slots slots' left left' out out' len s from at' x

  -- one with a patch
  module _ (asked : Bool) (free numbers : List ℕ) (r : Lists) (h : ListsAt s at free numbers r) where
    pub no-patch : (k : ℕ) → r ≡ L.Refused k → Put out out' 0 (refused_line k) len → frame' ≡ frame → cache' ≡ cache → slots' ≡ slots → left' ≡ left → at' ≡ length s → As at (with_patch asked (drop at s))
    no-patch k e p a b c d g = let x : ListsAt s at free numbers (L.Refused k) = rw e at h in rw x (p, a, b, c, d, g)

    module _ (n m : ℕ) (e : r ≡ L.Are n m at') where
      abbrev answered : Answer
      answered = answer_of frame i t f (take n free) (take m numbers) 1024 cache

      pub patch-asked : asked ≡ true → Put out out' 0 (text_in frame i answered) len × LeftBy frame i f answered cache slots' left' → cache' ≡ cache → frame' ≡ frame → As at (with_patch asked (drop at s))
      patch-asked z p a b = let x : ListsAt s at free numbers (L.Are n m at') = rw e at h in rw (x.0, z) ((p.0, p.1, a, b), refl, x.1, x.2)

      pub patch-resolved : asked ≡ false → Put out out' 0 (text_in frame i answered) len × MovedBy frame frame' i f answered cache cache' → slots' ≡ slots → left' ≡ left → As at (with_patch asked (drop at s))
      patch-resolved z p a b = let x : ListsAt s at free numbers (L.Are n m at') = rw e at h in rw (x.0, z) ((p.0, p.1, a, b), refl, x.1, x.2)

  -- any
  module _ (r : Number) (h : ReadAt (below 3) s at r) where
    pub no_kind : (k : ℕ) → r ≡ N.Refused k → Put out out' 0 (refused_line k) len → frame' ≡ frame → cache' ≡ cache → slots' ≡ slots → left' ≡ left → at' ≡ length s → As at (called (drop at s))
    unfolding called
    no_kind k e p a b c d g = let x : ReadAt (below 3) s at (N.Refused k) = rw e at h in rw (← x.reads) (p, a, b, c, d, g)

    module _ (n next : ℕ) (e : r ≡ N.Is n next) where
      kind : ReadAt (below 3) s at (N.Is n next)
      kind = rw e at h

      pub takes-kind : n ≡ 2 → at' ≡ next
          → Put out out' 0 (taken_text left (is_fresh frame cache left)) len × TakenBy (is_fresh frame cache left) frame frame' i (to_of left) slots cache cache' → slots' ≡ slots → left' ≡ left → As at (called (drop at s))
      unfolding called
      takes-kind z q p a b = rw (← kind.reads, eq-eqb n 2 z) ((p.0, p.1, a, b), ap (λ (m : ℕ). drop m s) q, omega (arith, q, kind.onward.0), omega (arith, q, kind.onward.1))

      pub patch-kind : (n ≡ 2 → ⊥) → As next (with_patch (eqb n 1) (drop next s)) → As at (called (drop at s))
      unfolding called
      patch-kind d p = rw (← kind.reads, ne_eqb n 2 d) (go (with_patch (eqb n 1) (drop next s)) p)
        where
          go : (x : Read Called) → As next x → As at x
          go (got x rest) y = (y.0, y.1, omega (arith, y.2, kind.onward.0), y.3)
          go (read-refused k) y = y
