-- One renaming for all calls of a formula that resolve, by groups or not, or take.
use Prim.Native.Nat.{ℕ, ◌+◌, ◌-◌, ◌<◌, ◌≤◌}
use mathlib.Core.Path.{◌≡◌, refl, sym, ap, subst, ◌∙◌}
use mathlib.Core.Bool.{false}
use mathlib.Core.List.{List, [], ◌∷◌}
use mathlib.Core.Option.{none, some}
use mathlib.Core.Logic.{inl, inr, ⊎_elim}
use native.Mathlib.Omega.{arith}
use lib.ListN.{length}
use Rattle.reginfo.specs.RegInfo.{RegInfo}
use Rattle.function.specs.Function.{Function}
use Rattle.rules.specs.Edit.{Edit}
use Rattle.rules.specs.Scratch.{Cache}
use Rattle.rules.specs.Patch.{Patch, Answer, refused, resolved, cache_after}
use Rattle.rules.specs.Refusals.{with_limit}
use Rattle.rules.specs.Take.{stamped_by}
use Rattle.rules.proofs.Steps.{same?}
use Rattle.frame_rules.specs.Frame.{Inlined, first_slots, open_refusal, Formula, Frame, opened, reach, cache_in, now_in, made_to, with_cache, edits, told_of}
use Rattle.frame_rules.specs.Renamed.{ren_told, Renaming}
use Rattle.frame_rules.proofs.Calls.{moved, at_own}
use Rattle.frame_rules.proofs.Given.{Known}
use Rattle.frame_rules.proofs.EnoughShare.{t, f, at}
use Rattle.frame_rules.proofs.OneRenaming.{edits-same, Alone, Leaves, within, leaves_by, steady, alone-with, alone-on, told_same, alone-opened}
use Rattle.group_rules.specs.Groups.{resolve_by_groups}
use Rattle.group_rules.specs.Requests.{Request, single, grouping}
use Rattle.group_rules.specs.Frame.{groups_in, standing_in, answered_in, asked_in, after_in, FrameCall, after_call, Named, told}
use Rattle.group_rules.specs.Renamed.{Same, Alike, is_asking, AllTold, OneRenaming}
use Rattle.group_rules.proofs.Claim.{sizes-groups}
use Rattle.group_rules.proofs.Frame.{Sim, sim-after, sim-opened, goes-up, known-here}
use Rattle.group_rules.proofs.Independent.{independent}

module _ (limit : ℕ) (l : List Inlined) (ok : open_refusal limit l ≡ none) (i : ℕ) (il : i < length l) where
  abbrev T : RegInfo
  T = t limit l ok i il

  abbrev F : Function
  F = f limit l ok i il

  abbrev N : ℕ
  N = first_slots l

  -- a frame where only formula i has called, and what led to it
  record Quiet (q : Frame) : Type 0 where
    sim : Sim limit l ok q
    alone : Alone limit l ok i il q

  module _ (q : Frame) (g : Quiet q) where
    groups-are : (p : Patch) (room : ℕ) → groups_in q i p room ≡ resolve_by_groups T (with_limit T F (reach q i)) p room (cache_in q i)
    unfolding groups_in
    groups-are p room = rw (g.alone.known.given.target_is i, g.alone.known.given.function-is i) refl

    leaves : (p : Patch) (room : ℕ) (es : List Edit) (c : Cache) (n : ℕ) → groups_in q i p room ≡ resolved es c n → Leaves limit l ok i il es c
    leaves p room es c n e =
        let y = sizes-groups T (with_limit T F (reach q i)) (at limit l ok i il) (within limit l ok i il q g.alone) p room (cache_in q i) c es n (sym (groups-are p room) ∙ e) (steady limit l ok i il q g.alone) in
        leaves_by limit l ok i il q g.alone es c y.0 y.1

    -- where a call of its own leads
    known-then : (x : Request) → Known limit l (after_in q i x)
    known-then x = known-here limit l ok (after_in q i x) (sim-after limit l ok q g.sim i il x)

    alone-then : (x : Request) → Alone limit l ok i il (after_in q i x)
    unfolding standing_in asked_in
    alone-then (single x) = alone-on limit l ok i il q g.alone _ _ (moved q i x (g.sim.previews i)) (known-then (single x))
    alone-then (grouping p room) = go (groups_in q i p room) refl (goes-up limit l ok q g.sim i il (grouping p room)) (known-then (grouping p room))
      where
        go : (r : Answer) → groups_in q i p room ≡ r → q.counter ≤ (cache_after (cache_in q i) r).made → Known limit l (with_cache q i (stamped_by (now_in q i) (some (record { patch = p; answer = r }))) (q.formulas i).asked)
            → Alone limit l ok i il (with_cache q i (stamped_by (now_in q i) (some (record { patch = p; answer = r }))) (q.formulas i).asked)
        go (refused n) e up kn = alone-with limit l ok i il q g.alone _ _ up g.alone.ins g.alone.fair kn
        go (resolved es c n) e up kn = let w = leaves p room es c n e in alone-with limit l ok i il q g.alone _ _ up w.ins w.fair kn

    quiet_then : (x : Request) → Quiet (after_in q i x)
    quiet_then x = record { sim = sim-after limit l ok q g.sim i il x; alone = alone-then x }

    made-on : (x : Request) → ((after_in q i x).formulas i).made ≡ (q.formulas i).made + ((stamped_by (now_in q i) (standing_in q i x)).cache.made - q.counter)
    made-on x = ap (λ (y : Formula). y.made) (at_own q i (stamped_by (now_in q i) (standing_in q i x)) (asked_in q i x))

    -- what is told names slots that are made then
    told-alike : (x : Request) → is_asking x ≡ false → (ρ σ : ℕ → ℕ) → ((y : ℕ) → y < N + ((after_in q i x).formulas i).made → ρ y ≡ σ y)
        → ren_told ρ (told q (record { formula = i; request = x })) ≡ ren_told σ (told q (record { formula = i; request = x }))
    unfolding answered_in standing_in asked_in
    told-alike (single x) n ρ σ agree = told_same limit l ok i il q g.alone x n ρ σ agree
    told-alike (grouping p room) n ρ σ agree = go (groups_in q i p room) refl
      where
        go : (r : Answer) → groups_in q i p room ≡ r → ren_told ρ (told_of q i (some r)) ≡ ren_told σ (told_of q i (some r))
        go (refused n) e = refl
        go (resolved es c n) e =
            let w = leaves p room es c n e in
            let m : (stamped_by (now_in q i) (standing_in q i (grouping p room))).cache.made ≡ c.made = rw e refl in
            let up = goes-up limit l ok q g.sim i il (grouping p room) in
            ap (λ (l : List Edit). edits l (made_to q i c.made) n) (edits-same T F ρ σ es (λ z a s b. agree s (omega (arith, w.below z a s b, made-on (grouping p room), m, up, g.alone.sole))))

  -- ---- all calls
  abbrev Serves : List FrameCall → Frame → Frame → (ℕ → ℕ) → Type 0
  Serves calls s q ρ = (σ : ℕ → ℕ) × Renaming N σ × ((y : ℕ) → y < N + (q.formulas i).made → σ y ≡ ρ y) × AllTold i calls s q σ

  -- one call of formula i, and the calls after it
  module _ (x : FrameCall) (xs : List FrameCall) (s q : Frame) (ρ : ℕ → ℕ) (g : Quiet q) (e : x.formula ≡ i) where
    there : Quiet (after_call q x)
    there = subst (λ (j : ℕ). Quiet (after_in q j x.request)) (sym e) (quiet_then q g x.request)

    up : (q.formulas i).made ≤ ((after_call q x).formulas i).made
    up = subst (λ (j : ℕ). (q.formulas i).made ≤ ((after_in q j x.request).formulas i).made) (sym e) (omega (arith, made-on q g x.request))

    told-by : is_asking x.request ≡ false → (ρ' σ : ℕ → ℕ) → ((y : ℕ) → y < N + ((after_call q x).formulas i).made → ρ' y ≡ σ y) → ren_told ρ' (told q x) ≡ ren_told σ (told q x)
    told-by n ρ' σ =
        subst
        (λ (j : ℕ). ((y : ℕ) → y < N + ((after_in q j x.request).formulas i).made → ρ' y ≡ σ y) → ren_told ρ' (told q (record { formula = j; request = x.request })) ≡ ren_told σ (told q (record { formula = j; request = x.request })))
        (sym e) (told-alike q g x.request n ρ' σ)

    own-serves : (ρ' : ℕ → ℕ) → Same N i s q x ρ ρ' → Serves xs (after_call s x) (after_call q x) ρ' → Serves (x ∷ xs) s q ρ
    own-serves ρ' h w = (
      w.0,
      w.1,
      (λ y b. w.2 y (omega (arith, b, up)) ∙ h.agrees y b),
      ((λ d. absurd (d e)), λ _. inr ((λ n. h.tells ∙ told-by n ρ' w.0 (λ y b. sym (w.2 y b))), w.3)),
    )

  serves : (calls : List FrameCall) → Named (length l) calls → (s q : Frame) (ρ : ℕ → ℕ) → Renaming N ρ → Quiet q → Alike N i calls s q ρ → Serves calls s q ρ
  serves [] k s q ρ r g a = (ρ, r, (λ y h. refl), tt)
  serves (x ∷ xs) k s q ρ r g a =
      ⊎_elim
      (λ e. ⊎_elim (λ h. (ρ, r, (λ y b. refl), ((λ d. absurd (d e)), λ _. inl h)))
      (λ h. own-serves x xs s q ρ g e h.0 h.1 (serves xs k.1 (after_call s x) (after_call q x) h.0 h.1.renaming (there x xs s q ρ g e) h.2)) (a.1 e))
      (λ d. let w = serves xs k.1 (after_call s x) q ρ r g (a.0 d) in (w.0, w.1, w.2, ((λ _. w.3), λ e. absurd (d e)))) (same? x.formula i)

pub one-renaming : OneRenaming
one-renaming limit l ok calls k i il =
    let w =
    serves limit l ok i il calls k (opened limit l) (opened limit l) (λ y. y) (record { stays = λ y h. refl; rises = λ y x h. h })
    (record { sim = sim-opened limit l ok; alone = alone-opened limit l ok i il }) (independent limit l ok calls k i il) in
    (w.0, w.1, w.3)
