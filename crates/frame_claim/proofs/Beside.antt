-- The tables that calls leave, beside the frame of the rules.
use Prim.Native.Nat.{ℕ, zero, suc, ◌+◌, ◌<◌, ◌≤◌}
use mathlib.Core.Path.{◌≡◌, refl, sym, ap, subst, ◌∙◌}
use mathlib.Core.Bool.{true, false}
use mathlib.Core.List.{List, [], ◌∷◌, ◌++◌}
use mathlib.Core.Option.{Option, none, some}
use mathlib.Core.Logic.{⊎_elim}
use native.Mathlib.Omega.{arith}
use lib.ListN.{length, get_or}
use Rattle.entity.specs.Logic.{has, twice}
use Rattle.reginfo.specs.Table.{reg_info_of}
use Rattle.function.specs.Function.{Function}
use Rattle.function.specs.Known.{Checked}
use Rattle.function.specs.Table.{function_of}
use Rattle.rules.specs.Edit.{updated}
use Rattle.rules.specs.Scratch.{Cache}
use Rattle.rules.specs.Patch.{unless_refused}
use Rattle.rules.specs.Take.{Counted, stamped_by}
use Rattle.rules.proofs.Steps.{same?, updated-same, updated-other}
use Rattle.machine.specs.Slots.{Stacked}
use Rattle.slots.specs.Stacks.{cache_of, stamp_of, stamp_after, stacks_of, CacheFits}
use Rattle.parallel_moves.specs.Given.{with_made}
use Rattle.parallel_moves.specs.Answers.{CanTake}
use Rattle.calls.specs.Call.{patch_of, call_of}
use Rattle.frame_rules.specs.Frame.{Inlined, no_formula, open_refusal, Asked, Formula, Frame, reach, cache_in, now_in, function_in, resolve_in, made_to, with_cache}
use Rattle.frame_rules.proofs.Calls.{at_own, at_other}
use Rattle.frame_rules.proofs.Claim.{stacked-of}
use Rattle.frame_rules.proofs.Given.{Known}
use Rattle.group_rules.specs.Requests.{Request}
use Rattle.group_rules.specs.Frame.{groups_in, standing_in, asked_in, after_in}
use Rattle.group_rules.proofs.Frame.{Sim, goes-up, sim-after, stacks, known-here}
use Rattle.frame_table.specs.Table.{counter_of, share_of, made_of, reach_of}
use Rattle.frame_table.specs.Held.{Holds, FrameOk}
use Rattle.frame_table.proofs.Held.{reach-held}
use Rattle.frame_calls.specs.Given.{InFrame}
use Rattle.frame_calls.specs.Answers.{answer_of}
use Rattle.frame_groups.specs.Answer.{groups_answer}
use Rattle.frame_groups.proofs.Are.{groups-are}
use Rattle.frame_claim.specs.Claim.{Left, State, free_in, Taken, Same}

-- ---- lists of askings
-- one more at the end of both
module _ (P : Option Left → Option Asked → Type 0) (y : Option Left) (z : Option Asked) (nothing : P none none) (new : P y z) where
  pub both : (k : List (Option Left)) (a : List (Option Asked)) → length k ≡ length a → ((n : ℕ) → P (get_or k n none) (get_or a n none)) → (n : ℕ)
      → P (get_or (k ++ (y ∷ [])) n none) (get_or (a ++ (z ∷ [])) n none)
  both [] [] e h zero = new
  both [] [] e h (suc n) = nothing
  both [] (x ∷ a) e h n = absurd (omega (arith, e))
  both (x ∷ k) [] e h n = absurd (omega (arith, e))
  both (x ∷ k) (v ∷ a) e h zero = h 0
  both (x ∷ k) (v ∷ a) e h (suc n) = both k a (omega (arith, e)) (λ m. h (suc m)) n

pub one_more : {A : Type 0} (l : List A) (x : A) → length (l ++ (x ∷ [])) ≡ length l + 1
one_more [] x = refl
one_more (y ∷ l) x = omega (arith, one_more l x)

-- ---- stamps and stacks
restack : (F G : Function) (c d : Cache) → F.slots ≡ G.slots → c.stacks ≡ d.stacks → c.made ≡ d.made → Stacked F c → Stacked G d
restack F G c d e st m s =
    record {
      once = λ z. subst (λ (g : ℕ → List ℕ). twice (g z) ≡ false) st (s.once z);
      sole = λ x y z a b. s.sole x y z (subst (λ (g : ℕ → List ℕ). has x (g y) ≡ true) (sym st) a) (subst (λ (g : ℕ → List ℕ). has x (g z) ≡ true) (sym st) b);
      low = λ x z a. omega (arith, e, s.low x z (subst (λ (g : ℕ → List ℕ). has x (g z) ≡ true) (sym st) a));
      below = λ x z a. omega (arith, e, m, s.below x z (subst (λ (g : ℕ → List ℕ). has x (g z) ≡ true) (sym st) a));
    }

-- a call that leaves the counter leaves the table's numbers
pub stays-holds : (frame : List ℕ) (s : Frame) → Holds frame s → (i : ℕ) (c : Counted) (a : List (Option Asked)) → c.cache.made ≡ s.counter → Holds frame (with_cache s i c a)
stays-holds frame s k i c a e =
    record {
      number = k.number;
      limit = k.limit;
      counter = k.counter ∙ sym e;
      share = λ j l.
          ⊎_elim
          (λ q. subst (λ (y : ℕ). share_of frame y ≡ ((with_cache s i c a).formulas y).share) (sym q) (k.share i (rw (← q) l) ∙ sym (ap (λ (y : Formula). y.share) (at_own s i c a))))
          (λ d. k.share j l ∙ sym (ap (λ (y : Formula). y.share) (at_other s i c a j d))) (same? j i);
      made = λ j l.
          ⊎_elim
          (λ q. subst (λ (y : ℕ). made_of frame y ≡ ((with_cache s i c a).formulas y).made) (sym q)
          (let m = k.made i (rw (← q) l) in let n : (s.formulas i).made ≡ made_to s i c.cache.made = omega (arith, e) in m ∙ n ∙ sym (ap (λ (y : Formula). y.made) (at_own s i c a))))
          (λ d. k.made j l ∙ sym (ap (λ (y : Formula). y.made) (at_other s i c a j d))) (same? j i);
    }

module _ (t f : ℕ → List ℕ) (limit : ℕ) (l : List Inlined) (e : open_refusal limit l ≡ none)
    (tg : (i : ℕ) → i < length l → (get_or l i no_formula).target ≡ reg_info_of (t i)) (fn : (i : ℕ) → i < length l → (get_or l i no_formula).function ≡ function_of (f i)) (starts : ℕ → ℕ) where
  -- what an asking left, beside the answer of the rules: while the formula took and resolved nothing and the counter stands, it can be taken
  pub record LeftIs (start : ℕ) (cache : List ℕ) (count counter : ℕ) (x : Left) (a : Asked) : Type 0 where
    pub to : x.preview.to ≡ a.preview.after.made
    pub stamp : x.preview.stamp ≡ stamp_after start a.preview.count
    pub counter-is : x.preview.counter ≡ a.counter
    pub pending : a.preview.count ≡ count → a.counter ≡ counter → CanTake x.slots cache × (stacks_of x.slots cache ≡ a.preview.after.stacks)

  abbrev pub LeftBeside : ℕ → List ℕ → ℕ → ℕ → Option Left → Option Asked → Type 0
  LeftBeside start cache count counter none none = Unit {0}
  LeftBeside start cache count counter none (some a) = ⊥
  LeftBeside start cache count counter (some x) none = ⊥
  LeftBeside start cache count counter (some x) (some a) = LeftIs start cache count counter x a

  pub record Beside (k : State) (s : Frame) : Type 0 where
    pub holds : Holds k.frame s
    pub ok : FrameOk k.frame
    pub stacks : (i : ℕ) → i < length l → (cache_of (k.cache i)).stacks ≡ (s.formulas i).stacks
    pub fits : (i : ℕ) → i < length l → CacheFits (k.cache i)
    pub stamp : (i : ℕ) → i < length l → stamp_of (k.cache i) ≡ stamp_after (starts i) (s.formulas i).count
    pub many : (i : ℕ) → length (k.asked i) ≡ length (s.formulas i).asked
    pub asked : (i n : ℕ) → LeftBeside (starts i) (k.cache i) (s.formulas i).count s.counter (get_or (k.asked i) n none) (get_or (s.formulas i).asked n none)
    pub sim : Sim limit l e s

  module _ (k : State) (s : Frame) (b : Beside k s) where
    pub known : Known limit l s
    known = known-here limit l e s b.sim

    pub number_is : s.number ≡ length l
    number_is = known.sound.number

    pub few : s.number ≤ 16
    few = omega (arith, b.holds.number, b.ok.number)

    module _ (i : ℕ) (h : i < length l) where
      pub there : i < s.number
      there = omega (arith, number_is, h)

      target_is : (s.formulas i).target ≡ reg_info_of (t i)
      target_is = known.given.target_is i ∙ tg i h

      function-is : (s.formulas i).function ≡ function_of (f i)
      function-is = known.given.function-is i ∙ fn i h

      pub reach-same : reach_of k.frame i ≡ reach s i
      reach-same = reach-held k.frame s b.holds known.sound.kept i there

      pub in_frame : InFrame k.frame (f i) (k.cache i)
      in_frame =
          record {
            fits = b.fits i h;
            stacks =
                restack (function_in s i) (function_of (f i)) (cache_in s i) (with_made (counter_of k.frame) (cache_of (k.cache i))) (ap (λ (y : Function). y.slots) function-is) (sym (b.stacks i h)) (sym b.holds.counter)
                (stacked-of limit l e s known (stacks limit l e s b.sim) i h);
          }

      pub ready : Checked (t i) (f i) → Taken t f k i
      ready c = (c, b.ok, omega (arith, b.holds.number, there), in_frame)

      -- what the contract says a call is answered is the rules' answer
      pub answer-is : (free numbers : List ℕ) (room : ℕ)
          → answer_of k.frame i (t i) (f i) free numbers room (k.cache i) ≡ unless_refused (free_in t f i free) (resolve_in s i (patch_of free numbers) room)
      unfolding call_of resolve_in
      answer-is free numbers room =
          ap (unless_refused (free_in t f i free))
          (rw (target_is, function-is, reach-same, b.stacks i h, b.holds.counter) refl)

      pub groups-answer-is : (free numbers : List ℕ) (room : ℕ)
          → groups_answer k.frame i (t i) (f i) free numbers room (k.cache i) ≡ unless_refused (free_in t f i free) (groups_in s i (patch_of free numbers) room)
      groups-answer-is = groups-are k.frame s b.holds known.sound.kept i there (t i) (f i) (k.cache i) target_is function-is (b.stacks i h)

    pub same : Same t f k s
    same =
        record {
          holds = b.holds;
          stacks = λ i h. b.stacks i (omega (arith, number_is, h));
          ok = b.ok;
          taken = λ i h. in_frame i (omega (arith, number_is, h));
        }

  -- ---- a call of formula i
  module _ (k : State) (s : Frame) (b : Beside k s) (i : ℕ) (h : i < length l) (x : Request) (frame' cache' : List ℕ) (asked' : List (Option Left)) where
    abbrev c : Counted
    c = stamped_by (now_in s i) (standing_in s i x)

    abbrev s' : Frame
    s' = after_in s i x

    abbrev k' : State
    k' = record { frame = frame'; cache = updated i cache' k.cache; asked = updated i asked' k.asked }

    -- what the formula's own askings left, after a call that is counted
    module _ (up : (s.formulas i).count < c.count) where
      own-left : (n : ℕ) (o : Option Left) (a : Option Asked) → get_or (s.formulas i).asked n none ≡ a → LeftBeside (starts i) (k.cache i) (s.formulas i).count s.counter o a
          → LeftBeside (starts i) cache' c.count c.cache.made o a
      own-left n (some y) none q g = elim g [ ]
      own-left n none (some a) q g = elim g [ ]
      own-left n none none q g = tt
      own-left n (some y) (some a) q g =
          let st = b.sim.previews i n a q in
          record { to = g.to; stamp = g.stamp; counter-is = g.counter-is; pending = λ u v. absurd (omega (arith, st.count_low, up, u)) }

      pub own-stays : (n : ℕ) → LeftBeside (starts i) cache' c.count c.cache.made (get_or (k.asked i) n none) (get_or (s.formulas i).asked n none)
      own-stays n = own-left n (get_or (k.asked i) n none) (get_or (s.formulas i).asked n none) refl (b.asked i n)

    other-left : (j : ℕ) → (j ≡ i → ⊥) → (n : ℕ) (o : Option Left) (a : Option Asked) → get_or (s.formulas j).asked n none ≡ a → LeftBeside (starts j) (k.cache j) (s.formulas j).count s.counter o a
        → LeftBeside (starts j) (k.cache j) (s.formulas j).count c.cache.made o a
    other-left j d n (some y) none q g = elim g [ ]
    other-left j d n none (some a) q g = elim g [ ]
    other-left j d n none none q g = tt
    other-left j d n (some y) (some a) q g =
        let st = b.sim.previews j n a q in
        record { to = g.to; stamp = g.stamp; counter-is = g.counter-is; pending = λ u v. g.pending u (omega (arith, st.counter-low, goes-up limit l e s b.sim i h x, v)) }

    -- the frame of the rules after it
    abbrev F : ℕ → Formula
    F = s'.formulas

    own_is : F i ≡ record { target = (s.formulas i).target; function = (s.formulas i).function; share = (s.formulas i).share; stacks = c.cache.stacks; made = made_to s i c.cache.made; count = c.count; asked = asked_in s i x }
    own_is = at_own s i c (asked_in s i x)

    other-is : (j : ℕ) → (j ≡ i → ⊥) → F j ≡ s.formulas j
    other-is j d = at_other s i c (asked_in s i x) j d

    -- what holds of each formula, of its own and of the others
    each : (P : Formula → List ℕ → List (Option Left) → Type 0) (j : ℕ) → (j ≡ i → P (record { target = (s.formulas i).target; function = (s.formulas i).function; share = (s.formulas i).share; stacks = c.cache.stacks; made = made_to s i c.cache.made; count = c.count; asked = asked_in s i x }) cache' asked')
        → ((j ≡ i → ⊥) → P (s.formulas j) (k.cache j) (k.asked j)) → P (F j) (k'.cache j) (k'.asked j)
    each P j own other =
        ⊎_elim
        (λ q. subst (λ (m : ℕ). P (F m) (k'.cache m) (k'.asked m)) (sym q) (rw (own_is, updated-same i cache' k.cache, updated-same i asked' k.asked) (own q)))
        (λ d. rw (other-is j d, updated-other i cache' k.cache j d, updated-other i asked' k.asked j d) (other d)) (same? j i)

    pub beside-after : Holds frame' s' → FrameOk frame' → (cache_of cache').stacks ≡ c.cache.stacks → CacheFits cache' → stamp_of cache' ≡ stamp_after (starts i) c.count
        → length asked' ≡ length (asked_in s i x) → ((n : ℕ) → LeftBeside (starts i) cache' c.count c.cache.made (get_or asked' n none) (get_or (asked_in s i x) n none)) → Beside k' s'
    beside-after H O st fi sp mn ls =
        record {
          holds = H;
          ok = O;
          stacks = λ j g. each (λ y z a. (cache_of z).stacks ≡ y.stacks) j (λ q. st) (λ d. b.stacks j g);
          fits = λ j g. each (λ y z a. CacheFits z) j (λ q. fi) (λ d. b.fits j g);
          stamp = λ j g. each (λ y z a. stamp_of z ≡ stamp_after (starts j) y.count) j (λ q. subst (λ (m : ℕ). stamp_of cache' ≡ stamp_after (starts m) c.count) (sym q) sp) (λ d. b.stamp j g);
          many = λ j. each (λ y z a. length a ≡ length y.asked) j (λ q. mn) (λ d. b.many j);
          asked = λ j n. each (λ y z a. LeftBeside (starts j) z y.count c.cache.made (get_or a n none) (get_or y.asked n none)) j
              (λ q. subst (λ (m : ℕ). LeftBeside (starts m) cache' c.count c.cache.made (get_or asked' n none) (get_or (asked_in s i x) n none)) (sym q) (ls n)) (λ d. other-left j d n (get_or (k.asked j) n none) (get_or (s.formulas j).asked n none) refl (b.asked j n));
          sim = sim-after limit l e s b.sim i h x;
        }
