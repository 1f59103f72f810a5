-- The trials' steps put together.
use Prim.Native.Nat.{ℕ, ◌≤◌}
use mathlib.Core.Path.{◌≡◌, refl, sym, ap, ◌∙◌}
use mathlib.Core.Bool.{Bool, true, false}
use mathlib.Core.List.{List, [], ◌∷◌}
use mathlib.Core.Option.{Option, none, some}
use native.Mathlib.Omega.{arith}
use types.Run.{OneOf, miss}
use denote.Enum.Declared.{tag_of}
use borrow.Author.Tests.{eq-eqb}
use Rattle.entity.specs.Logic.{has}
use Rattle.entity.specs.Place.{Place, code_of, place_at}
use Rattle.entity.proofs.Laws.{code-there}
use Rattle.reginfo.specs.RegInfo.{spillslot_size}
use Rattle.function.specs.Function.{value_bank}
use Rattle.function.specs.Table.{function_of}
use Rattle.small_set.specs.Set.{set_of, empty_set}
use Rattle.rules.specs.Edit.{and_then, Rematerialize}
use Rattle.rules.specs.Scratch as rules
use Rattle.edit.specs.Buffer.{count_of, edits_of, Written}
use Rattle.slots.specs.Stacks.{stacks_of}
use Rattle.slots.specs.Steps.{Cleared, Begun}
use Rattle.scratch.specs.declared.Evicted.TheVariants.{Nothing}
use Rattle.scratch.specs.declared.ScratchAllocator.{ScratchAllocator}
use Rattle.scratch.specs.declared.finding.Scratch.{Scratch}
use Rattle.scratch.specs.declared.diverting.Divert.{Divert}
use Rattle.scratch.specs.State.{T, F, made_of, evicted_in, Stacked, owed, PlaceFits, allocator_of}
use Rattle.scratch.specs.Promises.{Tables, tables, state_of, FitsIn, Brought, Found, Moved, Released}
use Rattle.scratch.specs.Diversions.{Diversion, Diverting, count_at, alloc_at, scratch_at, diversion_at, divert_by, Diverts, Undiverts}
use Rattle.scratch.proofs.Bounds.{fewer}
use Rattle.scratch.proofs.Unlimited.{same-bank}
use Rattle.std.specs.Prelude.{Result, Ok, Err, ⊤, OnOk, is_err}
use Rattle.target_check.specs.declared.TargetError.{TargetError}
use Rattle.target_check.specs.Checked.{number_of}
use Rattle.scratch_trials.specs.Cells.{after_trials}
use Rattle.scratch_trials.specs.Steps.{Started, Ends, slot_to_slot, slots_swapped, rematted}

pub never : {A : Type 0} → false ≡ true → A
never e = absurd (let x : ◌≡◌ {A = ℕ} 0 1 = cc in omega arith)

none-stacked : Stacked (λ z. [])
unfolding has
none-stacked z s e = absurd (let x : ◌≡◌ {A = ℕ} 0 1 = cc in omega arith)

pub started : {before : List ℕ} (k : ScratchAllocator) (available : List Bool) (edits slots cache : List ℕ) → (evicted_in k ≡ Nothing) × (made_of k ≡ 0) → set_of available ≡ empty_set → edits_of edits ≡ [] → count_of edits ≡ 0 → Written edits → Cleared before cache → Begun cache slots → Started k available edits slots cache
started k available edits slots cache new a e n o cleared begun =
    let stacks : stacks_of slots cache ≡ (λ z. []) = begun.stacks ∙ ap (λ c. c.stacks) cleared.empty in
    record {
      is = λ t. rw (a, e, stacks, begun.met, new.0, new.1);
      fits = λ t. record { few = omega (arith, n, ap owed new.0); most = 0; put = begun.fits; own = omega arith; made = omega (arith, new.1); stacked = rw stacks none-stacked; held = rw new.0 tt; written = o; untouched = begun.untouched };
    }

pub slot-zero : (t : List ℕ) → PlaceFits t 0
unfolding place_at
slot-zero t = record { known = omega arith; small = omega arith }

pub slot-one : (t : List ℕ) → PlaceFits t 2
unfolding place_at
slot-one t = record { known = omega arith; small = omega arith }

same_place : (t : List ℕ) (c d : ℕ) → place_at c ≡ place_at d → PlaceFits t d → PlaceFits t c
same_place t c d e h = let q : c ≡ d = sym (code-there c) ∙ ap code_of e ∙ code-there d in rw q h

-- the cells of a new diversion
cells : (o : Option rules.Found) (g : rules.Found → rules.ScratchAllocator) (n : ℕ) (s p : Place) (k : rules.ScratchAllocator) (q : Diversion)
    → and_then {B = Diverting} o (λ x. some (record { place = x.place; allocator = g x; diversion = record { ref_count = n; alloc = s; scratch = x.place } })) ≡ some (record { place = p; allocator = k; diversion = q })
    → (q.ref_count ≡ n) × (q.alloc ≡ s) × (q.scratch ≡ p)
unfolding and_then
cells none g n s p k q e = absurd (let z : ◌≡◌ {A = ℕ} 0 1 = cc in omega arith)
cells (some x) g n s p k q e =
    let z : ◌≡◌ {A = Diverting} (record { place = x.place; allocator = g x; diversion = record { ref_count = n; alloc = s; scratch = x.place } }) (record { place = p; allocator = k; diversion = q }) = cc in
    (sym (ap (λ d. d.diversion.ref_count) z), sym (ap (λ d. d.diversion.alloc) z), sym (ap (λ d. d.diversion.scratch) z) ∙ ap (λ d. d.place) z)

module _ (t f cache : List ℕ) where
  pub moved-and-brought : (b v : ℕ) (to from : Place) (k k₁ k₂ : ScratchAllocator) (w w₁ w₂ : Tables) → b ≡ value_bank (function_of f) v → FitsIn t f cache 0 1 4 k w → Moved t f cache k w k₁ w₁ (rules.do_move (T t) (F f) b to from v) → Brought t f cache k₁ w₁ k₂ w₂ (rules.unevict_all (T t) (F f))
      → Ends t f cache (slot_to_slot (T t) (F f) to from v) k w k₂ w₂
  unfolding slot_to_slot and_then
  moved-and-brought b v to from k k₁ k₂ w w₁ w₂ e h m a =
      record {
        is = rw (same-bank f v, ← e, m.is) (ap some (sym a.is));
        few = omega (arith, (a.fits 0 0 0 (fewer (omega arith) (omega arith) (omega arith) (m.fits 0 0 0 h))).few);
      }

  module _ (b v w : ℕ) (barred : ℕ → Bool) (p q : ℕ) (d d₁ : List ℕ) (k : ScratchAllocator) (x : Tables) (r : Divert) (x₁ : Tables) (z : count_at d w ≡ 0) (div : Diverts t f cache b barred 1 q w d k x d₁ r x₁) where
    new-cells : (count_at d₁ w ≡ 1) × (place_at (alloc_at d₁ w) ≡ place_at q) × (place_at (scratch_at d₁ w) ≡ place_at r.place.0)
    unfolding divert_by
    new-cells = cells _ _ 1 (place_at q) (place_at r.place.0) _ (diversion_at d₁ w) (rw (eq-eqb (count_at d w) 0 z) at div.is)

    pub one-needs : count_at d₁ w ≡ 1
    one-needs = new-cells.0

    pub source_fits : PlaceFits t q → PlaceFits t (alloc_at d₁ w)
    source_fits = same_place t (alloc_at d₁ w) q new-cells.1

    pub scratch-fits : PlaceFits t (scratch_at d₁ w)
    scratch-fits = same_place t (scratch_at d₁ w) r.place.0 new-cells.2 div.place

    pub swapped : (c : ℕ) (d₂ : List ℕ) (k₁ k₂ k₃ k₄ : ScratchAllocator) (x₂ x₃ x₄ x₅ : Tables) → b ≡ value_bank (function_of f) w → c ≡ value_bank (function_of f) v → Moved t f cache r.allocator x₁ k₁ x₂ (rules.do_move (T t) (F f) b (place_at p) (place_at r.place.0) w) → Moved t f cache k₁ x₂ k₂ x₃ (rules.do_move (T t) (F f) c (place_at q) (place_at p) v)
        → Undiverts t f cache b w d₁ k₂ x₃ d₂ k₃ x₄ → Brought t f cache k₃ x₄ k₄ x₅ (rules.unevict_all (T t) (F f)) → count_of x₅.edits ≤ 1024
        → Ends t f cache (slots_swapped (T t) (F f) barred (place_at p) (place_at q) v w (diversion_at d w)) k x k₄ x₅
    unfolding slots_swapped and_then
    swapped c d₂ k₁ k₂ k₃ k₄ x₂ x₃ x₄ x₅ eb ec first then last all few =
        record { is = rw (same-bank f w, same-bank f v, ← eb, ← ec, div.is, first.is, then.is, last.is) (ap some (sym all.is)); few = few }

  pub through-remat : (b v c : ℕ) (barred : ℕ → Bool) (to : Place) (k k₁ k₂ k₃ k₄ k₅ : ScratchAllocator) (w w₁ : Tables) (r : Scratch) (w₂ w₃ : Tables) (e : List ℕ) (w₄ : Tables) (l : List Bool) (w₅ : Tables) → b ≡ value_bank (function_of f) v
      → Brought t f cache k w k₁ w₁ (rules.unevict_for_reg (T t) (F f) to) → Found t f cache k₁ w₁ r w₂ (rules.get_scratch_reg (T t) (F f) b c barred) → Moved t f cache r.allocator w₂ k₂ w₃ (rules.move_edits (T t) (F f) b to (place_at r.place.0) v)
      → edits_of e ≡ Rematerialize (place_at r.place.0) v ∷ edits_of w₃.edits → Released t f cache k₂ (tables e w₃.available w₃.slots) k₃ w₄ (rules.release_place (T t) (F f) (spillslot_size (T t) b) (place_at r.place.0))
      → allocator_of t k₄ w₄.edits l w₄.slots cache ≡ rules.make_available (T t) (F f) to (state_of t f cache k₃ w₄) → Brought t f cache k₄ (tables w₄.edits l w₄.slots) k₅ w₅ (rules.unevict_all (T t) (F f)) → count_of w₅.edits ≤ 1024
      → Ends t f cache (rematted (T t) (F f) barred to v c) k w k₅ w₅
  unfolding rematted and_then
  through-remat b v c barred to k k₁ k₂ k₃ k₄ k₅ w w₁ r w₂ w₃ e w₄ l w₅ eb before found moved pushed released marked all few =
      let made : state_of t f cache k₂ (tables e w₃.available w₃.slots) ≡ rules.push (Rematerialize (place_at r.place.0) v) (state_of t f cache k₂ w₃) = rw pushed in
      let done : state_of t f cache k₅ w₅ ≡ rules.unevict_all (T t) (F f) (rules.make_available (T t) (F f) to (rules.release_place (T t) (F f) (spillslot_size (T t) b) (place_at r.place.0) (rules.push (Rematerialize (place_at r.place.0) v) (state_of t f cache k₂ w₃)))) =
      all.is ∙ ap (rules.unevict_all (T t) (F f)) (marked ∙ ap (rules.make_available (T t) (F f) to) (released.is ∙ ap (rules.release_place (T t) (F f) (spillslot_size (T t) b) (place_at r.place.0)) made)) in
      record { is = rw (same-bank f v, ← eb, ← before.is, found.is, moved.is) (ap some (sym done)); few = few }

-- after a target that is refused the function's table is as it was
pub refused-stays : (r : Result ⊤ TargetError) (f : List ℕ) → is_err r ≡ true → f ≡ after_trials (number_of r) f
refused-stays (Ok _) f h = never h
refused-stays (Err _) f h = refl

-- one that is not refused has no number, and is as an accepted one is said to be
pub not-refused : {P : Type 0} (r : Result ⊤ TargetError) → is_err r ≡ false → OnOk r P → (none ≡ number_of r) × P
not-refused (Ok _) h p = (refl, p)
not-refused (Err _) h p = never (sym h)
