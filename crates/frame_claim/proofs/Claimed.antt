-- Call by call: the tables stay beside the frame of the rules.
use Prim.Native.Nat.{ℕ, ◌+◌, ◌<◌}
use mathlib.Core.Path.{◌≡◌, refl, sym, ap, subst, ◌∙◌}
use mathlib.Core.Bool.{Bool, true, false}
use mathlib.Core.List.{List, [], ◌∷◌, ◌++◌}
use mathlib.Core.Option.{Option, none, some}
use mathlib.Core.Logic.{◌⊎◌, inl, inr, ⊎_elim}
use native.Mathlib.Omega.{arith}
use lib.ListN.{length, get_or}
use Rattle.entity.specs.Logic.{or, any_in}
use Rattle.rules.specs.Edit.{updated}
use Rattle.rules.specs.Scratch.{Cache}
use Rattle.rules.specs.Patch.{Patch, Answer, refused, resolved, unless_refused}
use Rattle.rules.specs.Take.{Counted, resolving, asking, taking, answer_in, stamped, stamped_by, preview_of}
use Rattle.rules.proofs.Steps.{same?, updated-same, updated-other}
use Rattle.slots.specs.Stacks.{cache_of, stamp_of, raised, stamp_after, CacheFits}
use Rattle.slots.proofs.Stamps.{stamp-first, stamp-next, stamp-told}
use Rattle.parallel_moves.specs.declared.Resolved.{Resolved}
use Rattle.parallel_moves.specs.declared.asking.TakeAnswer.{TakeAnswer}
use Rattle.calls.specs.Call.{patch_of}
use Rattle.frame_rules.specs.Frame.{Inlined, Asked, Formula, Frame, opened, cache_in, now_in, resolve_in, take_in, taken_in, asked_of, made_to, with_cache}
use Rattle.frame_rules.specs.Frame as frame
use Rattle.frame_rules.proofs.Calls.{resolved-within, take-now, take-late, fresh-or-late}
use Rattle.group_rules.specs.Requests.{Request, single, grouping}
use Rattle.group_rules.specs.Frame as rules
use Rattle.group_rules.specs.Frame.{groups_in, standing_in, answered_in, asked_in, after_in, FrameCall, after_calls}
use Rattle.group_rules.proofs.Frame.{sim-opened, frame-demand-3, frame-slots, promised}
use Rattle.group_rules.proofs.FrameTakes.{count-calls, takes-in-frame}
use Rattle.group_rules.proofs.Independent.{independent}
use Rattle.frame_table.specs.Table.{counter_of, made_of}
use Rattle.frame_table.specs.Steps.{WentOn}
use Rattle.frame_table.specs.Held.{Holds, FrameOk}
use Rattle.frame_table.proofs.Held.{went-holds}
use Rattle.frame_calls.specs.declared.FrameAsked.{FrameAsked}
use Rattle.frame_calls.specs.declared.FramePreview.{FramePreview}
use Rattle.frame_calls.specs.Answers.{GivesIn, preview_in, AsksIn, CanTakeIn, TakesIn}
use Rattle.frame_claim.specs.Claim.{Left, State, Kind, resolves, groups, asks, takes, Made, takes_one, is_take, left_by, if_free, asked_if, free_in, request_of, asked_after, after, Taken, TookAs, DidAs, Called, Resolves, Shows, Takes, Outcome, ruled_by, ruled_after, Claim, call_if, calls_of, Named, Begun, begun, SharedFrame}
use Rattle.frame_claim.proofs.Beside.{both, one_more, stays-holds, LeftIs, LeftBeside, Beside, few, there, reach-same, ready, answer-is, groups-answer-is, same, beside-after, own-stays}

-- a take at the front, or among those behind it
first-of : (a b : Bool) → a ≡ true → or a b ≡ true
first-of true b e = refl
first-of false b e = let z : ◌≡◌ {A = ℕ} 0 1 = cc in absurd (omega arith)

later_of : (a b : Bool) → b ≡ true → or a b ≡ true
later_of true b e = refl
later_of false b e = e

module _ (t f : ℕ → List ℕ) (limit : ℕ) (l : List Inlined) (frame₀ : List ℕ) (cache₀ : ℕ → List ℕ) (B : Begun t f limit l frame₀ cache₀) where
  -- the stamps that the calls begin with
  abbrev starts : ℕ → ℕ
  starts i = stamp_of (cache₀ i)

  abbrev By : State → Frame → Type 0
  By = Beside t f limit l B.opens B.target B.function starts

  -- the last `made` of formula i
  own-made : (s : Frame) (i : ℕ) → i < s.number → (c : Counted) (a : List (Option Asked)) (frame' : List ℕ) → Holds frame' (with_cache s i c a) → made_of frame' i ≡ made_to s i c.cache.made
  own-made s i h c a frame' H = H.made i h ∙ ap (λ (y : Formula). y.made) (updated-same i _ s.formulas)

  -- a refused call or an asking leaves the frame of the rules as it was but for the askings; nothing changes
  module _ (k : State) (s : Frame) (b : By k s) (i : ℕ) (h : i < length l) where
    -- a call that is none of the rules'
    unchanged : (frame' cache' : List ℕ) → frame' ≡ k.frame → cache' ≡ k.cache i → By (record { frame = frame'; cache = updated i cache' k.cache; asked = updated i (k.asked i) k.asked }) s
    unchanged frame' cache' fe ce =
        record {
          holds = rw fe b.holds;
          ok = rw fe b.ok;
          stacks = λ j g. keeps (λ j z a. (cache_of z).stacks ≡ (s.formulas j).stacks) j (b.stacks j g);
          fits = λ j g. keeps (λ j z a. CacheFits z) j (b.fits j g);
          stamp = λ j g. keeps (λ j z a. stamp_of z ≡ stamp_after (starts j) (s.formulas j).count) j (b.stamp j g);
          many = λ j. keeps (λ j z a. length a ≡ length (s.formulas j).asked) j (b.many j);
          asked = λ j n. keeps (λ j z a. LeftBeside t f limit l B.opens B.target B.function starts (starts j) z (s.formulas j).count s.counter (get_or a n none) (get_or (s.formulas j).asked n none)) j (b.asked j n);
          sim = b.sim;
        }
      where
        keeps : (P : ℕ → List ℕ → List (Option Left) → Type 0) (j : ℕ) → P j (k.cache j) (k.asked j) → P j (updated i cache' k.cache j) (updated i (k.asked i) k.asked j)
        keeps P j p =
            ⊎_elim
            (λ q. subst (λ (m : ℕ). P m (updated i cache' k.cache m) (updated i (k.asked i) k.asked m)) (sym q) (rw (updated-same i cache' k.cache, updated-same i (k.asked i) k.asked, ce) (subst (λ (m : ℕ). P m (k.cache m) (k.asked m)) q p)))
            (λ d. rw (updated-other i cache' k.cache j d, updated-other i (k.asked i) k.asked j d) p) (same? j i)

    -- a rules' call that changes nothing but what its asking leaves
    quiet : (x : Request) → (stamped_by (now_in s i) (standing_in s i x)).cache ≡ cache_in s i → (stamped_by (now_in s i) (standing_in s i x)).count ≡ (s.formulas i).count
        → (frame' cache' : List ℕ) → frame' ≡ k.frame → cache' ≡ k.cache i → (asked' : List (Option Left)) → length asked' ≡ length (asked_in s i x)
        → ((n : ℕ) → LeftBeside t f limit l B.opens B.target B.function starts (starts i) (k.cache i) (s.formulas i).count s.counter (get_or asked' n none) (get_or (asked_in s i x) n none))
        → By (record { frame = frame'; cache = updated i cache' k.cache; asked = updated i asked' k.asked }) (after_in s i x)
    quiet x cq nq frame' cache' fe ce asked' mn ls =
        let made : (stamped_by (now_in s i) (standing_in s i x)).cache.made ≡ s.counter = ap (λ (y : Cache). y.made) cq in
        beside-after t f limit l B.opens B.target B.function starts k s b i h x frame' cache' asked'
        (rw fe (stays-holds k.frame s b.holds i _ (asked_in s i x) made)) (rw fe b.ok) (rw ce (b.stacks i h ∙ sym (ap (λ (y : Cache). y.stacks) cq))) (rw ce (b.fits i h)) (rw ce (b.stamp i h ∙ sym (ap (stamp_after (starts i)) nq))) mn
        (λ n. rw (ce, nq, made) (ls n))

    -- the patches taken or resolved on its cache are few
    abbrev Few : Type 0
    Few = (s.formulas i).count < 18446744073709551616

    one-raised : (cache' : List ℕ) → stamp_of cache' ≡ raised (stamp_of (k.cache i)) → stamp_of cache' ≡ stamp_after (starts i) ((s.formulas i).count + 1)
    one-raised cache' g = g ∙ ap raised (b.stamp i h) ∙ stamp-next (starts i) (s.formulas i).count

    -- one that is counted
    counted : (x : Request) (c : Cache) → stamped_by (now_in s i) (standing_in s i x) ≡ record { cache = c; count = (s.formulas i).count + 1 } → asked_in s i x ≡ (s.formulas i).asked
        → (frame' cache' : List ℕ) → WentOn k.frame i c.made frame' → FrameOk frame' → (cache_of cache').stacks ≡ c.stacks → CacheFits cache' → stamp_of cache' ≡ raised (stamp_of (k.cache i))
        → By (record { frame = frame'; cache = updated i cache' k.cache; asked = updated i (k.asked i) k.asked }) (after_in s i x) × (made_of frame' i ≡ made_to s i c.made)
    counted x c eq ae frame' cache' w ok st fi sp =
        let y = stamped_by (now_in s i) (standing_in s i x) in
        let made : y.cache.made ≡ c.made = ap (λ (z : Counted). z.cache.made) eq in
        let H : Holds frame' (after_in s i x) = went-holds k.frame s b.holds (few t f limit l B.opens B.target B.function starts k s b) i (there t f limit l B.opens B.target B.function starts k s b i h) y (asked_in s i x) frame' (rw made w) in (
          beside-after t f limit l B.opens B.target B.function starts k s b i h x frame' cache' (k.asked i)
              H ok (st ∙ sym (ap (λ (z : Counted). z.cache.stacks) eq)) fi (one-raised cache' sp ∙ sym (ap (λ (z : Counted). stamp_after (starts i) z.count) eq)) (b.many i ∙ sym (ap length ae))
              (λ n. subst (λ (a : List (Option Asked)). LeftBeside t f limit l B.opens B.target B.function starts (starts i) cache' y.count y.cache.made (get_or (k.asked i) n none) (get_or a n none)) (sym ae)
              (own-stays t f limit l B.opens B.target B.function starts k s b i h x frame' cache' (k.asked i) (omega (arith, ap (λ (z : Counted). z.count) eq)) n)),
          own-made s i (there t f limit l B.opens B.target B.function starts k s b i h) y (asked_in s i x) frame' H ∙ ap (made_to s i) made,
        )

    -- ---- the kinds
    abbrev In : List ℕ → ℕ → ℕ → Option Left → Option Asked → Type 0
    In = LeftBeside t f limit l B.opens B.target B.function starts (starts i)

    stands-asking : (p : Patch) (room : ℕ) → stamped_by (now_in s i) (standing_in s i (single (asking p room))) ≡ now_in s i
    unfolding standing_in frame.standing_in
    stands-asking p room = refl

    asked_is : (p : Patch) (room : ℕ) → asked_in s i (single (asking p room)) ≡ (s.formulas i).asked ++ (asked_of s.counter (preview_of p room (s.formulas i).count (resolve_in s i p room)) ∷ [])
    unfolding asked_in frame.asked_in
    asked_is p room = refl

    stands-taking : (n : ℕ) → standing_in s i (single (taking n)) ≡ taken_in (get_or (s.formulas i).asked n none) s i
    unfolding standing_in frame.standing_in
    stands-taking n = refl

    answered-taking : (n : ℕ) → answered_in s i (single (taking n)) ≡ answer_in (taken_in (get_or (s.formulas i).asked n none) s i)
    unfolding answered_in frame.answered_in frame.standing_in
    answered-taking n = refl

    taken-asked : (n : ℕ) → asked_in s i (single (taking n)) ≡ (s.formulas i).asked
    unfolding asked_in frame.asked_in
    taken-asked n = refl

    ready-now : Taken t f k i
    ready-now = ready t f limit l B.opens B.target B.function starts k s b i h (B.checked i h)

    abbrev next : (frame' cache' : List ℕ) → List (Option Left) → State
    next frame' cache' asked' = record { frame = frame'; cache = updated i cache' k.cache; asked = updated i asked' k.asked }

    module _ (frame' cache' : List ℕ) where
      -- a call that resolves a patch, by groups or not: y is the rules' answer to its request x
      module _ (x : Request) (y : Answer) (stands : stamped_by (now_in s i) (standing_in s i x) ≡ stamped (now_in s i) y) (keeps : asked_in s i x ≡ (s.formulas i).asked) (r : Resolved) (list after : List ℕ) where
        abbrev Gives : Answer → Type 0
        Gives a = GivesIn k.frame frame' i (f i) a r list after (k.cache i) cache'

        given : (a : Answer) → y ≡ a → Gives a → Resolves t f k s i frame' cache' a r list after × By (next frame' cache' (k.asked i)) (after_in s i x)
        given (refused n) e g =
            let is : stamped_by (now_in s i) (standing_in s i x) ≡ stamped (now_in s i) (refused n) = stands ∙ ap (stamped (now_in s i)) e in (
              (g.0, g.1, g.3, g.2),
              quiet x (ap (λ (z : Counted). z.cache) is) (ap (λ (z : Counted). z.count) is ∙ omega arith) frame' cache' g.3 g.2 (k.asked i) (b.many i ∙ sym (ap length keeps))
                  (λ n. subst (λ (a : List (Option Asked)). In (k.cache i) (s.formulas i).count s.counter (get_or (k.asked i) n none) (get_or a n none)) (sym keeps) (b.asked i n)),
            )
        given (resolved es c n) e g =
            let q = counted x c (stands ∙ ap (stamped (now_in s i)) e) keeps frame' cache' g.7 g.8 (ap (λ (z : Cache). z.stacks) g.4) g.9.fits g.6 in
            ((g.0, g.1, g.2, g.3, g.5, q.1), q.0)

        given-if : (o : Option ℕ) → Gives (unless_refused o y)
            → Resolves t f k s i frame' cache' (unless_refused o y) r list after × By (next frame' cache' (k.asked i)) (ruled_by t f (if_free o x) i s)
        given-if (some n) g = ((g.0, g.1, g.3, g.2), unchanged frame' cache' g.3 g.2)
        given-if none g = given y refl g

      resolve-step : (free numbers list : List ℕ) (r : Resolved) (after : List ℕ) → DidAs t f k i (resolves free numbers list r after) frame' cache'
          → Outcome t f k s i frame' cache' (resolves free numbers list r after) × By (next frame' cache' (k.asked i)) (ruled_by t f (request_of t f i (resolves free numbers list r after)) i s)
      unfolding standing_in frame.standing_in asked_in frame.asked_in
      resolve-step free numbers list r after D =
          given-if (single (resolving (patch_of free numbers) (length list))) (resolve_in s i (patch_of free numbers) (length list)) refl refl r list after (free_in t f i free)
          (subst (λ (a : Answer). GivesIn k.frame frame' i (f i) a r list after (k.cache i) cache') (answer-is t f limit l B.opens B.target B.function starts k s b i h free numbers (length list)) (D ready-now))

      groups-step : (free numbers list : List ℕ) (r : Resolved) (after : List ℕ) → DidAs t f k i (groups free numbers list r after) frame' cache'
          → Outcome t f k s i frame' cache' (groups free numbers list r after) × By (next frame' cache' (k.asked i)) (ruled_by t f (request_of t f i (groups free numbers list r after)) i s)
      unfolding standing_in asked_in
      groups-step free numbers list r after D =
          given-if (grouping (patch_of free numbers) (length list)) (groups_in s i (patch_of free numbers) (length list)) refl refl r list after (free_in t f i free)
          (subst (λ (a : Answer). GivesIn k.frame frame' i (f i) a r list after (k.cache i) cache') (groups-answer-is t f limit l B.opens B.target B.function starts k s b i h free numbers (length list)) (D ready-now))

      ask-step : (free numbers list : List ℕ) (r : FrameAsked) (after slots : List ℕ) → DidAs t f k i (asks free numbers list r after slots) frame' cache'
          → Outcome t f k s i frame' cache' (asks free numbers list r after slots)
          × By (next frame' cache' (asked_after t f i (asks free numbers list r after slots) (k.asked i))) (ruled_by t f (request_of t f i (asks free numbers list r after slots)) i s)
      ask-step free numbers list r after slots D =
          let d = D ready-now in
          go d.1 d.2 (free_in t f i free)
          (subst (λ (a : Answer). AsksIn k.frame i (f i) a r list after (k.cache i) slots) (answer-is t f limit l B.opens B.target B.function starts k s b i h free numbers (length list)) d.0)
        where
          p : Patch
          p = patch_of free numbers

          a₀ : Option Asked
          a₀ = asked_of s.counter (preview_of p (length list) (s.formulas i).count (resolve_in s i p (length list)))

          left-new : frame' ≡ k.frame → cache' ≡ k.cache i → In (k.cache i) (s.formulas i).count s.counter (left_by r slots) a₀ → By (next frame' cache' (k.asked i ++ (left_by r slots ∷ []))) (after_in s i (single (asking p (length list))))
          left-new fe ce new =
              let is = stands-asking p (length list) in
              quiet (single (asking p (length list))) (ap (λ (z : Counted). z.cache) is) (ap (λ (z : Counted). z.count) is) frame' cache' fe ce (k.asked i ++ (left_by r slots ∷ []))
              (one_more (k.asked i) (left_by r slots) ∙ ap (λ (m : ℕ). m + 1) (b.many i) ∙ sym (one_more (s.formulas i).asked a₀) ∙ sym (ap length (asked_is p (length list))))
              (λ n. subst (λ (a : List (Option Asked)). In (k.cache i) (s.formulas i).count s.counter (get_or (k.asked i ++ (left_by r slots ∷ [])) n none) (get_or a n none)) (sym (asked_is p (length list)))
              (both (In (k.cache i) (s.formulas i).count s.counter) (left_by r slots) a₀ tt new (k.asked i) (s.formulas i).asked (b.many i) (b.asked i) n))

          on : frame' ≡ k.frame → cache' ≡ k.cache i → (a : Answer) → resolve_in s i p (length list) ≡ a → AsksIn k.frame i (f i) a r list after (k.cache i) slots
              → Shows t f k s i frame' cache' a r list after × By (next frame' cache' (k.asked i ++ (left_by r slots ∷ []))) (after_in s i (single (asking p (length list))))
          on fe ce (refused n) e g =
              let x : left_by r slots ≡ none = ap (λ (z : FrameAsked). left_by z slots) g.0 in
              let y : a₀ ≡ none = ap (λ (z : Answer). asked_of s.counter (preview_of p (length list) (s.formulas i).count z)) e in
              ((g.0, g.1, fe, ce), left-new fe ce (rw (x, y) tt))
          on fe ce (resolved es c n) e g =
              let v : FramePreview = preview_in k.frame i c n (k.cache i) in
              let x : left_by r slots ≡ some (record { preview = v; slots = slots }) = ap (λ (z : FrameAsked). left_by z slots) g.0 in
              let y : a₀ ≡ some (record { preview = record { patch = p; room = length list; edits = es; after = c; position = n; count = (s.formulas i).count }; counter = s.counter }) =
              ap (λ (z : Answer). asked_of s.counter (preview_of p (length list) (s.formulas i).count z)) e in
              let made : v.made ≡ made_to s i c.made = let m = b.holds.made i (there t f limit l B.opens B.target B.function starts k s b i h) in let u = b.holds.counter in rw (m, u) refl in (
                ((v, g.0, made, refl), g.1, g.2, fe, ce),
                left-new fe ce (rw (x, y) (record { to = refl; stamp = b.stamp i h; counter-is = b.holds.counter; pending = λ u w. (g.3.can, g.3.stacks) })),
              )

          go : frame' ≡ k.frame → cache' ≡ k.cache i → (o : Option ℕ) → AsksIn k.frame i (f i) (unless_refused o (resolve_in s i p (length list))) r list after (k.cache i) slots
              → Shows t f k s i frame' cache' (unless_refused o (resolve_in s i p (length list))) r list after
              × By (next frame' cache' (asked_if o (k.asked i) (left_by r slots))) (ruled_by t f (if_free o (single (asking p (length list)))) i s)
          go fe ce (some n) g = ((g.0, g.1, fe, ce), unchanged frame' cache' fe ce)
          go fe ce none g = on fe ce (resolve_in s i p (length list)) refl g

      stays : (n : ℕ) → (stamped_by (now_in s i) (standing_in s i (single (taking n)))).cache ≡ cache_in s i → (stamped_by (now_in s i) (standing_in s i (single (taking n)))).count ≡ (s.formulas i).count → frame' ≡ k.frame → cache' ≡ k.cache i
          → By (next frame' cache' (k.asked i)) (after_in s i (single (taking n)))
      stays n cq nq fe ce =
          quiet (single (taking n)) cq nq frame' cache' fe ce (k.asked i) (b.many i ∙ sym (ap length (taken-asked n)))
          (λ m. subst (λ (a : List (Option Asked)). In (k.cache i) (s.formulas i).count s.counter (get_or (k.asked i) m none) (get_or a m none)) (sym (taken-asked n)) (b.asked i m))

      -- the answer of the n-th asking, which was not refused
      module _ (n : ℕ) (r : TakeAnswer) (x : Left) (a : Asked) (q : get_or (s.formulas i).asked n none ≡ some a) (g : LeftIs t f limit l B.opens B.target B.function starts (starts i) (k.cache i) (s.formulas i).count s.counter x a) where
        standing : stamped_by (now_in s i) (standing_in s i (single (taking n))) ≡ stamped (now_in s i) (take_in a s i)
        standing = ap (stamped_by (now_in s i)) (stands-taking n ∙ ap (λ (z : Option Asked). taken_in z s i) q)

        -- stamps are told apart as the counts are
        alike : Few → x.preview.stamp ≡ stamp_of (k.cache i) → a.preview.count ≡ (s.formulas i).count
        alike low u = stamp-told (starts i) a.preview.count (s.formulas i).count (b.sim.previews i n a q).count_low low (sym g.stamp ∙ u ∙ b.stamp i h)

        can : Few → x.preview.stamp ≡ stamp_of (k.cache i) → x.preview.counter ≡ counter_of k.frame → CanTakeIn k.frame i x.preview x.slots (k.cache i)
        can low u v =
            let u' : a.preview.count ≡ (s.formulas i).count = alike low u in
            let v' : a.counter ≡ s.counter = sym g.counter-is ∙ v ∙ b.holds.counter in
            let w = resolved-within s i a.preview.patch a.preview.room a.preview.edits a.preview.after a.preview.position ((b.sim.previews i n a q).same u' v') in
            let far = reach-same t f limit l B.opens B.target B.function starts k s b i h in
            record { can = (g.pending u' v').0; on = omega (arith, b.holds.counter, g.to, w.0); within = omega (arith, far, g.to, w.1) }

        abbrev Did : Type 0
        Did = Takes t f k s i frame' cache' (some (take_in a s i)) r × By (next frame' cache' (k.asked i)) (after_in s i (single (taking n)))

        module _ (T : TakesIn k.frame frame' i x.preview x.slots (k.cache i) r cache') where
          took-now : a.preview.count ≡ (s.formulas i).count → a.counter ≡ s.counter → Did
          took-now u v =
              let d = T.same (g.stamp ∙ ap (stamp_after (starts i)) u ∙ sym (b.stamp i h)) (g.counter-is ∙ v ∙ sym b.holds.counter) in
              let e = take-now s i a u v in
              let y = counted (single (taking n)) a.preview.after (standing ∙ ap (stamped (now_in s i)) e) (taken-asked n) frame' cache' (rw g.to at d.2) d.3 (ap (λ (z : Cache). z.stacks) d.1.is ∙ (g.pending u v).1) d.1.fits d.1.stamp in
              (rw e (d.0, y.1), y.0)

          took-late : Few → (a.preview.count ≡ (s.formulas i).count → ⊥) ⊎ (a.counter ≡ s.counter → ⊥) → Did
          took-late low z =
              let d = T.other (⊎_elim (λ y. inl (λ u. y (alike low u))) (λ y. inr (λ v. y (sym g.counter-is ∙ v ∙ b.holds.counter))) z) in
              let e = take-late s i a z in
              let is : stamped_by (now_in s i) (standing_in s i (single (taking n))) ≡ stamped (now_in s i) (refused 20) = standing ∙ ap (stamped (now_in s i)) e in
              (rw e (d.0, d.2, d.1), stays n (ap (λ (y : Counted). y.cache) is) (ap (λ (y : Counted). y.count) is ∙ omega arith) d.2 d.1)

          did : Few → Did
          did low = ⊎_elim (λ w. took-now w.0 w.1) (took-late low) (fresh-or-late s i a)

      take_step : (n : ℕ) (r : TakeAnswer) → DidAs t f k i (takes n r) frame' cache' → Few
          → Outcome t f k s i frame' cache' (takes n r) × By (next frame' cache' (k.asked i)) (ruled_by t f (request_of t f i (takes n r)) i s)
      take_step n r D low = subst (λ (z : Option Answer). Takes t f k s i frame' cache' z r × By (next frame' cache' (k.asked i)) (after_in s i (single (taking n)))) (sym (answered-taking n)) (go (get_or (k.asked i) n none) (get_or (s.formulas i).asked n none) refl (b.asked i n) D)
        where
          go : (o : Option Left) (a : Option Asked) → get_or (s.formulas i).asked n none ≡ a → In (k.cache i) (s.formulas i).count s.counter o a → TookAs t f k i o r frame' cache'
              → Takes t f k s i frame' cache' (answer_in (taken_in a s i)) r × By (next frame' cache' (k.asked i)) (after_in s i (single (taking n)))
          go none (some a) q g d = elim g [ ]
          go (some x) none q g d = elim g [ ]
          go none none q g d =
              let is : stamped_by (now_in s i) (standing_in s i (single (taking n))) ≡ now_in s i = ap (stamped_by (now_in s i)) (stands-taking n ∙ ap (λ (z : Option Asked). taken_in z s i) q) in
              ((d.0, d.1), stays n (ap (λ (y : Counted). y.cache) is) (ap (λ (y : Counted). y.count) is) d.0 d.1)
          go (some x) (some a) q g d =
              did n r x a q g (d b.ok (omega (arith, b.holds.number, there t f limit l B.opens B.target B.function starts k s b i h)) (can n r x a q g low)) low

      step : (x : Kind) → DidAs t f k i x frame' cache' → (takes_one x ≡ true → Few) → Outcome t f k s i frame' cache' x × By (next frame' cache' (asked_after t f i x (k.asked i))) (ruled_by t f (request_of t f i x) i s)
      step (resolves free numbers list r after) D low = resolve-step free numbers list r after D
      step (groups free numbers list r after) D low = groups-step free numbers list r after D
      step (asks free numbers list r after slots) D low = ask-step free numbers list r after slots D
      step (takes n r) D low = take_step n r D (low refl)

  -- of the calls to come; what is counted stays counted
  abbrev FewAfter : List FrameCall → Frame → Type 0
  FewAfter calls s = (i : ℕ) → i < length l → ((after_calls calls s).formulas i).count < 18446744073709551616

  few-next : (o : Option Request) (j : ℕ) (calls : List FrameCall) (s : Frame) → FewAfter (call_if t f o j calls) s → FewAfter calls (ruled_by t f o j s)
  unfolding after_calls
  few-next none j calls s h i g = h i g
  few-next (some x) j calls s h i g = h i g

  few-now : (calls : List FrameCall) (s : Frame) → FewAfter calls s → (i : ℕ) → i < length l → (s.formulas i).count < 18446744073709551616
  few-now calls s h i g = omega (arith, h i g, count-calls i calls s)

  claimed : (calls : List Made) (k : State) (s : Frame) → By k s → (any_in is_take calls ≡ true → FewAfter (calls_of t f calls) s) → Named t f (length l) calls → Called t f calls k → Claim t f calls k s
  unfolding any_in
  claimed [] k s b low n c = tt
  claimed (x ∷ xs) k s b low n c =
      let low' : (any_in is_take xs ≡ true → FewAfter (calls_of t f xs) (ruled_after t f s x)) =
      λ e. few-next (request_of t f x.formula x.kind) x.formula (calls_of t f xs) s (low (later_of (is_take x) (any_in is_take xs) e)) in
      let y = step k s b x.formula n.0 x.frame x.cache x.kind c.0 (λ e. few-now (calls_of t f (x ∷ xs)) s (low (first-of (is_take x) (any_in is_take xs) e)) x.formula n.0) in
      (y.0, same t f limit l B.opens B.target B.function starts (after t f k x) (ruled_after t f s x) y.1, claimed xs (after t f k x) (ruled_after t f s x) y.1 low' n.1 c.1)

  begins : By (begun t f frame₀ cache₀) (opened limit l)
  begins =
      record {
        holds = B.holds;
        ok = B.ok;
        stacks = λ i g. ap (λ (y : Cache). y.stacks) (B.fresh i g).empty;
        fits = λ i g. (B.fresh i g).fits;
        stamp = λ i g. stamp-first (starts i) (B.fresh i g).stamp;
        many = λ i. refl;
        asked = λ i n. tt;
        sim = sim-opened limit l B.opens;
      }

  named-if : (o : Option Request) (i : ℕ) (xs : List FrameCall) → i < length l → rules.Named (length l) xs → rules.Named (length l) (call_if t f o i xs)
  named-if none i xs h k = k
  named-if (some x) i xs h k = (h, k)

  named : (calls : List Made) → Named t f (length l) calls → rules.Named (length l) (calls_of t f calls)
  named [] n = tt
  named (x ∷ xs) n = named-if (request_of t f x.formula x.kind) x.formula (calls_of t f xs) n.0 (named xs n.1)

pub shared-frame : SharedFrame
shared-frame t f limit l frame cache B calls n c =
    let m = named t f limit l frame cache B calls n in
    let p = promised limit l B.opens (calls_of t f calls) m in
    record {
      claim = λ h. claimed t f limit l frame cache B calls (begun t f frame cache) (opened limit l) (begins t f limit l frame cache B)
          (λ e i g. omega (arith, h e i g, count-calls i (calls_of t f calls) (opened limit l))) n c;
      demand-3 = frame-demand-3 limit l B.opens (calls_of t f calls) m;
      kept = p.0;
      promised = p.1;
      slots = frame-slots limit l B.opens (calls_of t f calls) m;
      takes-answered = takes-in-frame limit l B.opens (calls_of t f calls) m;
      independent = independent limit l B.opens (calls_of t f calls) m;
    }
