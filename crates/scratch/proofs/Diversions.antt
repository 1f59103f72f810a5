-- Diversions: their cells after a store, and what the methods on them return.
use Prim.Native.Nat.{ℕ, pred, ◌+◌, ◌-◌, ◌<◌}
use mathlib.Core.Path.{◌≡◌, sym, ap, ◌∙◌}
use mathlib.Core.Bool.{Bool}
use mathlib.Core.List.{List}
use mathlib.Core.Option.{Option, none, some}
use native.Mathlib.Omega.{arith}
use native.Mathlib.Numerals.{sub-one}
use lib.ListN.{set, length, length-set}
use lib.Seq.{get_or-set_same, get_or-set_other}
use borrow.Author.Tests.{eq-eqb, ne_eqb}
use Rattle.entity.specs.Place.{place_at}
use Rattle.entity.specs.declared.Allocation.{Allocation}
use Rattle.reginfo.specs.RegInfo.{top_level_class, spillslot_size}
use Rattle.rules.specs.Edit.{and_then}
use Rattle.rules.specs.Scratch as rules
use Rattle.rules.specs.Scratch.{get_scratch_reg, make_unavailable, do_move, release_place}
use Rattle.scratch.specs.declared.ScratchAllocator.{ScratchAllocator}
use Rattle.scratch.specs.declared.finding.Scratch.{Scratch}
use Rattle.scratch.specs.State.{T, F, allocator_of, PlaceFits}
use Rattle.scratch.specs.Promises.{Tables, tables, state_of, Found, Moved, Released}
use Rattle.scratch.specs.Diversions.{Diversion, Undiverting, count_at, alloc_at, scratch_at, diversion_at, divert_by, undivert_by, Noted, Diverts, Ended, Undiverts}
use Rattle.scratch.proofs.Bounds.{fewer}

module _ (d : List ℕ) (v : ℕ) (l : length d ≡ 12288) (h : v < 4096) where
  pub counted : (n : ℕ) → Noted v n (alloc_at d v) (scratch_at d v) d (set d v n)
  counted n =
      record {
        count-is = get_or-set_same d v n 0 (omega arith);
        alloc-is = get_or-set_other d v (4096 + v) n 0 (λ e. omega arith);
        scratch-is = get_or-set_other d v (8192 + v) n 0 (λ e. omega arith);
        others = λ i a b c. get_or-set_other d v i n 0 a;
      }

  pub noted : (n s p : ℕ) → Noted v n s p d (set (set (set d v n) (4096 + v) s) (8192 + v) p)
  noted n s p =
      record {
        count-is = get_or-set_other (set (set d v n) (4096 + v) s) (8192 + v) v p 0 (λ e. omega arith) ∙ get_or-set_other (set d v n) (4096 + v) v s 0 (λ e. omega arith) ∙ get_or-set_same d v n 0 (omega arith);
        alloc-is = get_or-set_other (set (set d v n) (4096 + v) s) (8192 + v) (4096 + v) p 0 (λ e. omega arith) ∙ get_or-set_same (set d v n) (4096 + v) s 0 (simp length-set (omega arith));
        scratch-is = get_or-set_same (set (set d v n) (4096 + v) s) (8192 + v) p 0 (simp length-set (omega arith));
        others = λ i a b c. get_or-set_other (set (set d v n) (4096 + v) s) (8192 + v) i p 0 c ∙ get_or-set_other (set d v n) (4096 + v) i s 0 b ∙ get_or-set_other d v i n 0 a;
      }

diversion-is : (v n s p : ℕ) (d d' : List ℕ) → Noted v n s p d d' → diversion_at d' v ≡ record { ref_count = n; alloc = place_at s; scratch = place_at p }
diversion-is v n s p d d' h = rw (h.count-is, h.alloc-is, h.scratch-is)

-- what is said of the allocator, with the diversion beside it
beside : (o : Option rules.ScratchAllocator) (g : rules.ScratchAllocator → rules.ScratchAllocator) (k : rules.ScratchAllocator) (q : Diversion) → and_then o (λ x. some (g x)) ≡ some k
    → and_then {B = Undiverting} o (λ x. some (record { allocator = g x; diversion = q })) ≡ some (record { allocator = k; diversion = q })
unfolding and_then
beside none g k q e = absurd (let z : ◌≡◌ {A = ℕ} 0 1 = cc in omega arith)
beside (some x) g k q e = let z : g x ≡ k = cc in rw z

module _ (t f cache : List ℕ) (b v : ℕ) (d d' : List ℕ) where
  module _ (barred : ℕ → Bool) (added source : ℕ) where
    -- a live diversion keeps its scratch
    pub diverts-live : (k : ScratchAllocator) (w : Tables) (p : Allocation) → (count_at d v ≡ 0 → ⊥) → Noted v (count_at d v + added) (alloc_at d v) (scratch_at d v) d d' → p.0 ≡ scratch_at d v → PlaceFits t (scratch_at d v)
        → Diverts t f cache b barred added source v d k w d' (record { place = p; allocator = k }) w
    unfolding divert_by
    diverts-live k w p nz h q ok =
        record {
          is = rw (ne_eqb (count_at d v) 0 nz, q, diversion-is v (count_at d v + added) (alloc_at d v) (scratch_at d v) d d' h);
          noted = rw (ne_eqb (count_at d v) 0 nz, q) h;
          place = rw q ok;
          fits = λ a b n g. fewer (omega arith) (omega arith) (omega arith) g;
        }

    -- a new one has the scratch found
    pub diverts-new : (k k' : ScratchAllocator) (w w₁ : Tables) (r : Scratch) (l : List Bool) → count_at d v ≡ 0 → Found t f cache k w r w₁ (get_scratch_reg (T t) (F f) b (top_level_class (T t) b) barred) → Noted v added source r.place.0 d d'
        → k' ≡ r.allocator → allocator_of t k' w₁.edits l w₁.slots cache ≡ make_unavailable (T t) (F f) (place_at r.place.0) (state_of t f cache r.allocator w₁)
        → Diverts t f cache b barred added source v d k w d' (record { place = r.place; allocator = k' }) (tables w₁.edits l w₁.slots)
    unfolding divert_by and_then
    diverts-new k k' w w₁ r l z g h e m =
        record {
          is = rw (eq-eqb (count_at d v) 0 z, g.is, diversion-is v added source r.place.0 d d' h, m);
          noted = let q : count_at d v + added ≡ added = omega arith in rw (eq-eqb (count_at d v) 0 z, q) h;
          place = g.place;
          fits = λ a b n i. rw e (g.fits a b n i);
        }

  -- the copy, and a slot put back
  pub ended : (k k₁ k₂ : ScratchAllocator) (w w₁ w₂ : Tables) (p s : ℕ) → p ≡ scratch_at d v → s ≡ alloc_at d v → Moved t f cache k w k₁ w₁ (do_move (T t) (F f) b (place_at p) (place_at s) v) → Released t f cache k₁ w₁ k₂ w₂ (release_place (T t) (F f) (spillslot_size (T t) b) (place_at p))
      → Ended t f cache b v d k w k₂ w₂
  unfolding and_then
  ended k k₁ k₂ w w₁ w₂ p s ep es m r =
      record {
        is = rw (← ep, ← es, m.is) (ap some (sym r.is));
        fits = λ a b n h. fewer (omega arith) (omega arith) (omega arith) (r.fits a (b + 2) n (m.fits a b n h));
      }

  module _ (left : ℕ) (e : left ≡ count_at d v - 1) (h : Noted v left (alloc_at d v) (scratch_at d v) d d') where
    less : pred (count_at d v) ≡ left
    less = sym (e ∙ sub-one (count_at d v))

    pub undiverts-more : (k : ScratchAllocator) (w : Tables) → (left ≡ 0 → ⊥) → Undiverts t f cache b v d k w d' k w
    unfolding undivert_by
    undiverts-more k w nz =
        record {
          is = rw (less, ne_eqb left 0 nz, diversion-is v left (alloc_at d v) (scratch_at d v) d d' h);
          noted = rw less h;
          fits = λ a b n g. fewer (omega arith) (omega arith) (omega arith) g;
        }

    pub undiverts-end : (k k' : ScratchAllocator) (w w' : Tables) → left ≡ 0 → Ended t f cache b v d' k w k' w' → Undiverts t f cache b v d k w d' k' w'
    unfolding undivert_by
    undiverts-end k k' w w' z g =
        record {
          is =
              rw (less, eq-eqb left 0 z, diversion-is v left (alloc_at d v) (scratch_at d v) d d' h, z)
              (beside (do_move (T t) (F f) b (place_at (scratch_at d v)) (place_at (alloc_at d v)) v (state_of t f cache k w)) (release_place (T t) (F f) (spillslot_size (T t) b) (place_at (scratch_at d v))) (state_of t f cache k' w') _
              (rw (h.scratch-is, h.alloc-is) at g.is));
          noted = rw less h;
          fits = g.fits;
        }
