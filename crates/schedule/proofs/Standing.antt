-- Between the calls each formula stands, its own calls and the others' alike.
use Prim.Native.Nat.{ℕ, ◌+◌, ◌<◌, ◌≤◌}
use mathlib.Core.Path.{◌≡◌, refl, sym, ap, subst, ◌∙◌}
use mathlib.Core.Bool.{Bool, true, false}
use mathlib.Core.List.{List}
use mathlib.Core.Logic.{⊎_elim}
use native.Mathlib.Omega.{arith}
use lib.Dec.{eqb}
use lib.ListN.{length}
use Rattle.std.specs.Prelude.{Option, None, Some}
use Rattle.entity.proofs.Laws.{and-true}
use borrow.Author.Tests.{eqb-true}
use Rattle.rules.specs.Patch.{Answer, refused, resolved}
use Rattle.rules.proofs.Steps.{same?}
use Rattle.slots.specs.Stacks.{stamp_of, raised, stamp_after}
use Rattle.slots.proofs.Stamps.{stamp-next, stamp-told}
use Rattle.slots.specs.Steps.{Committed}
use Rattle.frame_table.specs.Table.{number_of, counter_of, made_of, reach_of}
use Rattle.frame_table.specs.Steps.{WentOn}
use Rattle.frame_table.specs.Held.{Holds, frame_of, FrameOk}
use Rattle.frame_table.proofs.Held.{others_same}
use Rattle.frame_calls.specs.declared.FramePreview.{FramePreview}
use Rattle.frame_calls.specs.Given.{InFrame, NotedIf, SlotsNoted}
use Rattle.frame_calls.specs.Answers.{answer_of}
use Rattle.print.specs.Text.{refused_line}
use Rattle.print.specs.Put.{Put}
use Rattle.number.specs.Read as read
use Rattle.schedule.specs.Lists.{Called, resolves, asks, takes}
use Rattle.schedule.specs.Answered.{text_in, MovedBy, LeftBy, is_fresh, to_of, taken_text, TakenBy, Did, AnsweredAs}
use Rattle.schedule.specs.Standing.{Waits, WaitsIf, Stands, FrameOn, CanTakeIf}

-- ---- the frame after a call
pub stays_on : (frame : List ℕ) → FrameOn frame frame
stays_on frame = record { number = refl; low = omega arith; same = λ e i h. refl }

-- a table with the same numbers
reach-same : (frame frame' : List ℕ) → Holds frame' (frame_of frame) → (i : ℕ) → reach_of frame' i ≡ reach_of frame i
reach-same frame frame' k i =
    let self : Holds frame (frame_of frame) = record { number = refl; limit = refl; counter = refl; share = λ j h. refl; made = λ j h. refl } in
    let a = others_same frame' (frame_of frame) k i in
    let b = others_same frame (frame_of frame) self i in
    rw (a, b, k.limit) refl

pub went_on : (frame : List ℕ) (i n : ℕ) (frame' : List ℕ) → FrameOk frame → i < number_of frame → counter_of frame ≤ n → WentOn frame i n frame' → FrameOn frame frame'
went_on frame i n frame' ok there low w =
    record {
      number = w.number;
      low = omega (arith, w.counter, low);
      same = λ e j h. reach-same frame frame' (record { number = w.number; limit = w.limit; counter = e; share = λ j l. w.share j (omega (arith, ok.number, l)); made = λ j l. made e j }) j;
    }
  where
    made : counter_of frame' ≡ counter_of frame → (j : ℕ) → made_of frame' j ≡ made_of frame j
    made e j = ⊎_elim (λ q. subst (λ (y : ℕ). made_of frame' y ≡ made_of frame y) (sym q) (omega (arith, w.own, w.counter, e))) (λ d. w.others j d) (same? j i)

-- the first one's N is no number that they depend on
pub noted-on : (frame : List ℕ) (i n : ℕ) (frame' : List ℕ) → SlotsNoted frame i n frame' → FrameOn frame frame'
noted-on frame i n frame' h = go (eqb i 0) h
  where
    go : (b : Bool) → NotedIf b frame n frame' → FrameOn frame frame'
    go true w =
        record {
          number = w.number;
          low = omega (arith, w.counter);
          same = λ e j l. reach-same frame frame' (record { number = w.number; limit = w.limit; counter = w.counter; share = λ j l. w.share j; made = λ j l. w.made j }) j;
        }
    go false e = rw e (stays_on frame)

-- ---- the others
in-frame-on : (frame frame' f cache : List ℕ) → counter_of frame ≤ counter_of frame' → InFrame frame f cache → InFrame frame' f cache
in-frame-on frame frame' f cache low h =
    let s = h.stacks in
    record { fits = h.fits; stacks = record { once = s.once; sole = s.sole; low = s.low; below = λ x z a. omega (arith, s.below x z a, low) } }

waits-on : (start count : ℕ) (frame frame' : List ℕ) (i : ℕ) (f cache slots : List ℕ) (left : Option FramePreview) → FrameOn frame frame' → i < number_of frame
    → WaitsIf start count frame i f cache slots left → WaitsIf start count frame' i f cache slots left
waits-on start count frame frame' i f cache slots None o h w = tt
waits-on start count frame frame' i f cache slots (Some a) o h w =
    record {
      mark = w.mark;
      stamp = w.stamp;
      before = w.before;
      counter = omega (arith, w.counter, o.low);
      can = λ s c.
          let e : counter_of frame' ≡ counter_of frame = omega (arith, w.counter, o.low, c) in
          let y = w.can s (c ∙ e) in
          (record { can = y.0.can; on = omega (arith, e, y.0.on); within = rw (o.same e i h) y.0.within }, y.1);
    }

pub other-stands : (frame frame' : List ℕ) (i : ℕ) (t f cache slots : List ℕ) (left : Option FramePreview) (n m : ℕ) → FrameOn frame frame' → i < number_of frame → n ≤ m
    → Stands frame i t f cache slots left n → Stands frame' i t f cache slots left m
other-stands frame frame' i t f cache slots left n m o h l x =
    record {
      checked = x.checked;
      in_frame = in-frame-on frame frame' f cache o.low x.in_frame;
      start = x.start;
      count = x.count;
      stamp = x.stamp;
      low = omega (arith, x.low, l);
      waits = waits-on x.start x.count frame frame' i f cache slots left o h x.waits;
    }

-- ---- its own
pub can-of : (start count : ℕ) (frame : List ℕ) (i : ℕ) (f cache slots : List ℕ) (left : Option FramePreview) → WaitsIf start count frame i f cache slots left → CanTakeIf frame i left slots cache
can-of start count frame i f cache slots None w = tt
can-of start count frame i f cache slots (Some a) w = λ s c. (w.can s c).0

-- an answer that was left before a patch was taken or resolved
waits-late : (start count : ℕ) → count + 1 < 18446744073709551616 → (frame frame' : List ℕ) (i : ℕ) (f cache cache' slots : List ℕ) (left : Option FramePreview) → counter_of frame ≤ counter_of frame'
    → stamp_of cache' ≡ stamp_after start (count + 1) → WaitsIf start count frame i f cache slots left → WaitsIf start (count + 1) frame' i f cache' slots left
waits-late start count few frame frame' i f cache cache' slots None l e w = tt
waits-late start count few frame frame' i f cache cache' slots (Some a) l e w =
    record {
      mark = w.mark;
      stamp = w.stamp;
      before = omega (arith, w.before);
      counter = omega (arith, w.counter, l);
      can = λ s c. absurd (omega (arith, w.before, stamp-told start w.mark (count + 1) (omega (arith, w.before)) few (sym w.stamp ∙ s ∙ e)));
    }

module _ (frame frame' : List ℕ) (i : ℕ) (t f cache cache' slots slots' : List ℕ) (left left' : Option FramePreview) (at at' : ℕ) (fine : FrameOk frame) (there : i < number_of frame)
    (x : Stands frame i t f cache slots left at) (ahead : at < at') (few : at' < 18446744073709551616) where
  pub record After : Type 0 where
    pub ok : FrameOk frame'
    pub on : FrameOn frame frame'
    pub stands : Stands frame' i t f cache' slots' left' at'

  unchanged : frame' ≡ frame → cache' ≡ cache → slots' ≡ slots → left' ≡ left → After
  unchanged ef ec es el =
      rw (ef, ec, es, el) (record { ok = fine; on = stays_on frame; stands = other-stands frame frame i t f cache slots left at at' (stays_on frame) there (omega (arith, ahead)) x })

  after-resolving : (a : Answer) → MovedBy frame frame' i f a cache cache' → slots' ≡ slots → left' ≡ left → After
  after-resolving (refused n) m es el = unchanged m.1 m.0 es el
  after-resolving (resolved es c n) m e el =
      let o = went_on frame i c.made frame' fine there m.5 m.2 in
      let s : stamp_of cache' ≡ stamp_after x.start (x.count + 1) = m.1 ∙ ap raised x.stamp ∙ stamp-next x.start x.count in
      rw (e, el)
      (record {
        ok = m.3;
        on = o;
        stands = record { checked = x.checked; in_frame = m.4; start = x.start; count = x.count + 1; stamp = s; low = omega (arith, x.low, ahead); waits = waits-late x.start x.count (omega (arith, x.low, ahead, few)) frame frame' i f cache cache' slots left o.low s x.waits };
      })

  after-asking : (a : Answer) → LeftBy frame i f a cache slots' left' → cache' ≡ cache → frame' ≡ frame → After
  after-asking a l ec ef =
      rw (ef, ec) (record { ok = fine; on = stays_on frame; stands = record { checked = x.checked; in_frame = x.in_frame; start = x.start; count = x.count; stamp = x.stamp; low = omega (arith, x.low, ahead); waits = go a l } })
    where
      go : (a : Answer) → LeftBy frame i f a cache slots' left' → WaitsIf x.start x.count frame i f cache slots' left'
      go (refused n) l = rw l tt
      go (resolved es c n) l =
          let p = l.1 in
          rw l.0
          (record {
            mark = x.count;
            stamp = x.stamp;
            before = omega arith;
            counter = omega arith;
            can = λ s k. (record { can = p.can; on = l.2; within = p.made }, rw p.stacks p.lie);
          })

  -- what a take has made of frame and cache
  committed : (a : FramePreview) → Waits x.start x.count frame i f cache slots a → a.stamp ≡ stamp_of cache → a.counter ≡ counter_of frame → Committed slots cache cache' a.to → WentOn frame i a.to frame' → FrameOk frame'
      → WaitsIf x.start x.count frame i f cache slots left → slots' ≡ slots → left' ≡ left → After
  committed a w s k m g o v es el =
      let y = w.can s k in
      let n = went_on frame i a.to frame' fine there y.0.on g in
      let st : stamp_of cache' ≡ stamp_after x.start (x.count + 1) = m.stamp ∙ ap raised x.stamp ∙ stamp-next x.start x.count in
      let is : InFrame frame' f cache' = record { fits = m.fits; stacks = rw (m.is, g.counter) y.1 } in
      rw (es, el)
      (record {
        ok = o;
        on = n;
        stands = record { checked = x.checked; in_frame = is; start = x.start; count = x.count + 1; stamp = st; low = omega (arith, x.low, ahead); waits = waits-late x.start x.count (omega (arith, x.low, ahead, few)) frame frame' i f cache cache' slots left n.low st v };
      })

  after-taking : TakenBy (is_fresh frame cache left) frame frame' i (to_of left) slots cache cache' → slots' ≡ slots → left' ≡ left → After
  after-taking h es el = go left refl x.waits h
    where
      test : (a : FramePreview) (b : Bool) → is_fresh frame cache (Some a) ≡ b → left ≡ Some a → Waits x.start x.count frame i f cache slots a → TakenBy b frame frame' i a.to slots cache cache' → After
      test a true e q w h =
          let u = and-true (eqb a.stamp (stamp_of cache)) (eqb a.counter (counter_of frame)) e in
          committed a w (eqb-true a.stamp (stamp_of cache) u.0) (eqb-true a.counter (counter_of frame) u.1) h.0 h.1 h.2 x.waits es el
      test a false e q w h = unchanged h.1 h.0 es el

      go : (l : Option FramePreview) → left ≡ l → WaitsIf x.start x.count frame i f cache slots l → TakenBy (is_fresh frame cache l) frame frame' i (to_of l) slots cache cache' → After
      go None e w h = unchanged h.1 h.0 es el
      go (Some a) e w h = test a (is_fresh frame cache (Some a)) refl e w h

-- ---- any call
module _ (frame frame' : List ℕ) (i : ℕ) (t f cache cache' slots slots' : List ℕ) (left left' : Option FramePreview) (out out' : List ℕ) (len : ℕ) (s : List ℕ) (at at' : ℕ) (fine : FrameOk frame) (there : i < number_of frame)
    (x : Stands frame i t f cache slots left at) (within : at ≤ length s) (few : length s < 18446744073709551616) where
  abbrev Next : Type 0
  Next = FrameOk frame' × FrameOn frame frame' × Stands frame' i t f cache' slots' left' at' × (at ≤ at') × (at' ≤ length s) × (len ≤ length out)

  fits : (text : List ℕ) → Put out out' 0 text len → len ≤ length out
  fits text p = omega (arith, p.room, p.next)

  pub stands_after : (y : read.Read Called) → AnsweredAs frame frame' i t f cache cache' slots slots' left left' out out' len s at at' y → Next
  stands_after (read.got c rest) h = go c h.0
    where
      go : (c : Called) → Did frame frame' i t f cache cache' slots slots' left left' out out' len c → Next
      go (resolves p) d = (let a = after-resolving frame frame' i t f cache cache' slots slots' left left' at at' fine there x h.2 (omega (arith, h.3, few)) (answer_of frame i t f p.free p.numbers 1024 cache) d.1 d.2 d.3 in (a.ok, a.on, a.stands, omega (arith, h.2), h.3, fits (text_in frame i (answer_of frame i t f p.free p.numbers 1024 cache)) d.0))
      go (asks p) d = (let a = after-asking frame frame' i t f cache cache' slots slots' left left' at at' fine there x h.2 (omega (arith, h.3, few)) (answer_of frame i t f p.free p.numbers 1024 cache) d.1 d.2 d.3 in (a.ok, a.on, a.stands, omega (arith, h.2), h.3, fits (text_in frame i (answer_of frame i t f p.free p.numbers 1024 cache)) d.0))
      go takes d = (let a = after-taking frame frame' i t f cache cache' slots slots' left left' at at' fine there x h.2 (omega (arith, h.3, few)) d.1 d.2 d.3 in (a.ok, a.on, a.stands, omega (arith, h.2), h.3, fits (taken_text left (is_fresh frame cache left)) d.0))
  stands_after (read.refused k) h =
      let w = fits (refused_line k) h.0 in
      let e : at' ≡ length s = h.5 in
      rw (h.1, h.2, h.3, h.4)
      (fine, stays_on frame, other-stands frame frame i t f cache slots left at at' (stays_on frame) there (omega (arith, e)) x, omega (arith, e), omega (arith, e), w)
