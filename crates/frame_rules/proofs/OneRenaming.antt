-- One renaming for all calls of a formula that resolve or take.
use Prim.Native.Nat.{ℕ, ◌+◌, ◌-◌, ◌<◌, ◌≤◌}
use mathlib.Core.Path.{◌≡◌, refl, sym, ap, ap₂, subst, ◌∙◌}
use mathlib.Core.Bool.{true, false, or-true, true≢false}
use mathlib.Core.List.{List, [], ◌∷◌, map, Memᴰ}
use mathlib.Core.Option.{Option, none, some}
use mathlib.Core.Logic.{inl, inr, ⊎_elim}
use native.Mathlib.Omega.{arith}
use lib.ListN.{length}
use borrow.Author.Tests.{eq-eqb}
use Rattle.entity.specs.Place.{Place, reg, slot, same_place}
use Rattle.reginfo.specs.RegInfo.{RegInfo}
use Rattle.function.specs.Function.{Function}
use Rattle.function.specs.Refused as function
use Rattle.rules.specs.Edit.{Edit, Move, Rematerialize, EmergencySpill, EmergencyReload}
use Rattle.rules.specs.Scratch.{Cache, empty_cache}
use Rattle.rules.specs.Patch.{Patch, Answer, refused, resolved, resolve}
use Rattle.rules.specs.Refusals.{with_limit}
use Rattle.rules.specs.Take.{Counted, Request, resolving, asking, taking, Standing, stamped_by, answer_in}
use Rattle.rules.proofs.Steps.{same?}
use Rattle.machine.specs.Enough.{names_slot, OfItsSize}
use Rattle.machine.specs.Slots.{InStacks}
use Rattle.machine.proofs.Banked.{banked}
use Rattle.machine.proofs.SlotCounts.{stacked, less?}
use Rattle.machine.proofs.Slots.{slots-empty}
use Rattle.machine.proofs.OwnSize.{Fair}
use Rattle.machine.proofs.EnoughSlots.{Steady, quiet-after, quiet-fresh, accepted-within}
use Rattle.frame_rules.specs.Frame.{Inlined, first_slots, open_refusal, Asked, Formula, Frame, opened, reach, cache_in, now_in, resolve_in, standing_in, answered_in, asked_in, made_to, with_cache, after_in, FrameCall, after_call, Named, edits, told_of, told}
use Rattle.frame_rules.specs.Renamed.{ren_place, ren_edit, ren_told, Renaming, Same, Alike, is_asking, AllTold, OneRenaming}
use Rattle.frame_rules.proofs.Calls.{resolved-within, Moved, moved, goes_on, at_own}
use Rattle.frame_rules.proofs.Given.{Known, known-opened, known-after, is-slots, low-reach}
use Rattle.frame_rules.proofs.Claim.{stands}
use Rattle.frame_rules.proofs.EnoughShare.{t, f, at, af, to-steady, from-steady}
use Rattle.frame_rules.proofs.Independent.{independent}

-- ---- two renamings that agree on the slots that are named
module _ (t : RegInfo) (f : Function) (ρ σ : ℕ → ℕ) where
  place_same : (p : Place) → ((s : ℕ) → same_place p (slot s) ≡ true → ρ s ≡ σ s) → ren_place ρ p ≡ ren_place σ p
  place_same (reg r) h = refl
  place_same (slot s) h = ap slot (h s (eq-eqb s s refl))

  edit-same : (e : Edit) → ((s : ℕ) → names_slot t f s e ≡ true → ρ s ≡ σ s) → ren_edit ρ e ≡ ren_edit σ e
  edit-same (Move to from v) h =
      let a = place_same to (λ s k. h s (rw k refl)) in
      let b = place_same from (λ s k. h s (rw k (or-true (same_place to (slot s))))) in
      ap₂ (λ (x y : Place). Move x y v) a b
  edit-same (Rematerialize to v) h = ap (λ (x : Place). Rematerialize x v) (place_same to h)
  edit-same (EmergencySpill s r) h = ap (λ (x : ℕ). EmergencySpill x r) (h s (eq-eqb s s refl))
  edit-same (EmergencyReload r s) h = ap (EmergencyReload r) (h s (eq-eqb s s refl))

  pub edits-same : (es : List Edit) → ((e : Edit) → Memᴰ e es → (s : ℕ) → names_slot t f s e ≡ true → ρ s ≡ σ s) → map (ren_edit ρ) es ≡ map (ren_edit σ) es
  edits-same [] h = refl
  edits-same (e ∷ es) h = ap₂ ◌∷◌ (edit-same e (h e (Memᴰ.head refl))) (edits-same es (λ x m. h x (Memᴰ.tail m)))

module _ (limit : ℕ) (l : List Inlined) (ok : open_refusal limit l ≡ none) (i : ℕ) (il : i < length l) where
  abbrev pub T : RegInfo
  T = t limit l ok i il

  abbrev pub F : Function
  F = f limit l ok i il

  abbrev pub N : ℕ
  N = first_slots l

  pub slots-is : F.slots ≡ N
  slots-is = is-slots limit l ok (opened limit l) (known-opened limit l ok) i il

  -- a frame where only formula i has called
  pub record Alone (q : Frame) : Type 0 where
    pub known : Known limit l q
    pub sole : q.counter ≡ (q.formulas i).made
    pub ins : InStacks F (cache_in q i)
    pub fair : Fair T F (stacked (cache_in q i)) []

  -- what a call leaves: a cache in order, and no edit names a slot that is not made
  pub record Leaves (es : List Edit) (c : Cache) : Type 0 where
    pub ins : InStacks F c
    pub fair : Fair T F (stacked c) []
    pub below : (e : Edit) → Memᴰ e es → (s : ℕ) → names_slot T F s e ≡ true → s < N + c.made

  module _ (q : Frame) (g : Alone q) where
    abbrev pub k : ℕ
    k = reach q i

    pub within : function.Accepted T (with_limit T F k)
    within = accepted-within T F k (af limit l ok i il) (low-reach limit l ok q g.known i il)

    resolve-is : (p : Patch) (room : ℕ) → resolve_in q i p room ≡ resolve T (with_limit T F k) p room (cache_in q i)
    unfolding resolve_in
    resolve-is p room = rw (g.known.given.target_is i, g.known.given.function-is i) refl

    -- from what is known of the call's function with its reach for L
    pub leaves_by : (es : List Edit) (c : Cache) → Steady T (with_limit T F k) (at limit l ok i il) (banked T (with_limit T F k) within) c → OfItsSize T (with_limit T F k) (cache_in q i) es c → Leaves es c
    leaves_by es c y o =
        let z = from-steady limit l ok i il k (banked T (with_limit T F k) within) c y in
        record { ins = z.0; fair = z.1; below = λ x m s h. ⊎_elim (λ a. omega (arith, slots-is)) (λ a. omega (arith, slots-is, z.0.stacked.below s _ (o.lies x m s a h))) (less? s F.slots) }

    pub steady : Steady T (with_limit T F k) (at limit l ok i il) (banked T (with_limit T F k) within) (cache_in q i)
    steady = to-steady limit l ok i il k (banked T (with_limit T F k) within) (cache_in q i) g.ins g.fair

    leaves : (p : Patch) (room : ℕ) (es : List Edit) (c : Cache) (n : ℕ) → resolve_in q i p room ≡ resolved es c n → Leaves es c
    leaves p room es c n e =
        let y = quiet-after T (with_limit T F k) (at limit l ok i il) within p room (cache_in q i) steady (resolved es c n) (sym (resolve-is p room) ∙ e) in
        leaves_by es c y.0 y.1

    -- where a call of its own leads
    pub alone-with : (v : Counted) (a : List (Option Asked)) → q.counter ≤ v.cache.made → InStacks F v.cache → Fair T F (stacked v.cache) [] → Known limit l (with_cache q i v a) → Alone (with_cache q i v a)
    alone-with v a up ins fair n =
        let o = at_own q i v a in
        let e : cache_in (with_cache q i v a) i ≡ v.cache = ap (λ (st : ℕ → List ℕ). record { stacks = st; made = v.cache.made }) (ap (λ (y : Formula). y.stacks) o) in
        record {
          known = n;
          sole = omega (arith, ap (λ (y : Formula). y.made) o, g.sole, up);
          ins = subst (InStacks F) (sym e) ins;
          fair = subst (λ (c : Cache). Fair T F (stacked c) []) (sym e) fair;
        }

    pub alone-on : (v : Counted) (a : List (Option Asked)) → Moved q i v → Known limit l (with_cache q i v a) → Alone (with_cache q i v a)
    alone-on v a (inl h) n =
        alone-with v a (goes_on q i v (inl h)) (subst (InStacks F) (sym h.0) g.ins) (subst (λ (c : Cache). Fair T F (stacked c) []) (sym h.0) g.fair) n
    alone-on v a (inr h) n =
        let w = leaves h.patch h.room h.edits v.cache h.position h.is in
        alone-with v a (goes_on q i v (inr h)) w.ins w.fair n

    alone-after : (x : Request) → Alone (after_in q i x)
    alone-after x =
        alone-on (stamped_by (now_in q i) (standing_in q i x)) (asked_in q i x) (moved q i x (g.known.sound.previews i)) (known-after limit l q (record { formula = i; request = x }) il g.known)

    pub made-on : (x : Request) → ((after_in q i x).formulas i).made ≡ (q.formulas i).made + ((stamped_by (now_in q i) (standing_in q i x)).cache.made - q.counter)
    made-on x = ap (λ (y : Formula). y.made) (at_own q i (stamped_by (now_in q i) (standing_in q i x)) (asked_in q i x))

    answers : (x : Request) → is_asking x ≡ false → answered_in q i x ≡ answer_in (standing_in q i x)
    unfolding answered_in
    answers (resolving p room) e = refl
    answers (asking p room) e = absurd (true≢false e)
    answers (taking n) e = refl

    -- what is told names slots that are made then
    pub told_same : (x : Request) → is_asking x ≡ false → (ρ σ : ℕ → ℕ) → ((y : ℕ) → y < N + ((after_in q i x).formulas i).made → ρ y ≡ σ y)
        → ren_told ρ (told q (record { formula = i; request = x })) ≡ ren_told σ (told q (record { formula = i; request = x }))
    told_same x no-asking ρ σ agree = rw (answers x no-asking) (go (standing_in q i x) refl)
      where
        go : (o : Option Standing) → standing_in q i x ≡ o → ren_told ρ (told_of q i (answer_in o)) ≡ ren_told σ (told_of q i (answer_in o))
        go none e = refl
        go (some y) e = by y.answer refl
          where
            by : (r : Answer) → y.answer ≡ r → ren_told ρ (told_of q i (some r)) ≡ ren_told σ (told_of q i (some r))
            by (refused n) h = refl
            by (resolved es c n) h =
                ⊎_elim (λ w. let z : ◌≡◌ {A = ℕ} 0 1 = cc in absurd (omega arith))
                (λ w. let v = leaves y.patch w.0 es c n (w.1 ∙ h) in
                let up = (resolved-within q i y.patch w.0 es c n (w.1 ∙ h)).0 in
                let m : (stamped_by (now_in q i) (standing_in q i x)).cache.made ≡ c.made = rw (e, h) refl in
                ap (λ (l : List Edit). edits l (made_to q i c.made) n) (edits-same T F ρ σ es (λ z a s b. agree s (omega (arith, v.below z a s b, made-on x, m, up, g.sole)))))
                (stands q i x (g.known.sound.previews i) y e)

  -- ---- all calls
  abbrev Serves : List FrameCall → Frame → Frame → (ℕ → ℕ) → Type 0
  Serves calls s q ρ = (σ : ℕ → ℕ) × Renaming N σ × ((y : ℕ) → y < N + (q.formulas i).made → σ y ≡ ρ y) × AllTold i calls s q σ

  -- one call of formula i, and the calls after it
  module _ (x : FrameCall) (xs : List FrameCall) (s q : Frame) (ρ : ℕ → ℕ) (r : Renaming N ρ) (g : Alone q) (e : x.formula ≡ i) where
    there : Alone (after_call q x)
    there = subst (λ (j : ℕ). Alone (after_in q j x.request)) (sym e) (alone-after q g x.request)

    up : (q.formulas i).made ≤ ((after_call q x).formulas i).made
    up = subst (λ (j : ℕ). (q.formulas i).made ≤ ((after_in q j x.request).formulas i).made) (sym e) (omega (arith, made-on q g x.request))

    told-by : is_asking x.request ≡ false → (ρ' σ : ℕ → ℕ) → ((y : ℕ) → y < N + ((after_call q x).formulas i).made → ρ' y ≡ σ y) → ren_told ρ' (told q x) ≡ ren_told σ (told q x)
    told-by n ρ' σ =
        subst
        (λ (j : ℕ). ((y : ℕ) → y < N + ((after_in q j x.request).formulas i).made → ρ' y ≡ σ y) → ren_told ρ' (told q (record { formula = j; request = x.request })) ≡ ren_told σ (told q (record { formula = j; request = x.request })))
        (sym e) (told_same q g x.request n ρ' σ)

    own-serves : (ρ' : ℕ → ℕ) → Same N i s q x ρ ρ' → Serves xs (after_call s x) (after_call q x) ρ' → Serves (x ∷ xs) s q ρ
    own-serves ρ' h w = (
      w.0,
      w.1,
      (λ y b. w.2 y (omega (arith, b, up)) ∙ h.agrees y b),
      ((λ d. absurd (d e)), λ _. inr ((λ n. h.tells ∙ told-by n ρ' w.0 (λ y b. sym (w.2 y b))), w.3)),
    )

  serves : (calls : List FrameCall) → Named (length l) calls → (s q : Frame) (ρ : ℕ → ℕ) → Renaming N ρ → Alone q → Alike N i calls s q ρ → Serves calls s q ρ
  serves [] k s q ρ r g a = (ρ, r, (λ y h. refl), tt)
  serves (x ∷ xs) k s q ρ r g a =
      ⊎_elim
      (λ e. ⊎_elim (λ h. (ρ, r, (λ y b. refl), ((λ d. absurd (d e)), λ _. inl h)))
      (λ h. own-serves x xs s q ρ r g e h.0 h.1 (serves xs k.1 (after_call s x) (after_call q x) h.0 h.1.renaming (there x xs s q ρ r g e) h.2)) (a.1 e))
      (λ d. let w = serves xs k.1 (after_call s x) q ρ r g (a.0 d) in (w.0, w.1, w.2, ((λ _. w.3), λ e. absurd (d e)))) (same? x.formula i)

  pub alone-opened : Alone (opened limit l)
  alone-opened =
      record {
        known = known-opened limit l ok;
        sole = refl;
        ins = slots-empty F;
        fair = (from-steady limit l ok i il F.limit (banked T F (af limit l ok i il)) empty_cache (quiet-fresh T F (at limit l ok i il) (af limit l ok i il))).1;
      }

pub one-renaming : OneRenaming
one-renaming limit l ok calls k i il =
    let w =
    serves limit l ok i il calls k (opened limit l) (opened limit l) (λ y. y) (record { stays = λ y h. refl; rises = λ y x h. h }) (alone-opened limit l ok i il) (independent limit l ok calls k i il) in
    (w.0, w.1, w.3)
