-- Evicted registers brought back, as the contracts have it.
use Prim.Native.Nat.{ℕ, pred, ◌+◌, ◌≤◌}
use mathlib.Core.Path.{◌≡◌, refl, sym, ap, ◌∙◌}
use mathlib.Core.Bool.{Bool, true, false}
use mathlib.Core.List.{List, [], ◌∷◌}
use mathlib.Core.Logic.{◌⊎◌, inl, inr}
use native.Mathlib.Omega.{arith}
use lib.ListN.{length}
use Rattle.entity.specs.Logic.{or}
use Rattle.entity.specs.Place.{Place, reg, code_of, place_at}
use Rattle.entity.proofs.Laws.{place-there}
use Rattle.reginfo.specs.RegInfo.{spillslot_size, overlap}
use Rattle.function.specs.Known.{Checked}
use Rattle.function.specs.Table.{function_of}
use Rattle.function.proofs.Laws.{one-or-two}
use Rattle.rules.specs.Edit.{EmergencySpill}
use Rattle.rules.specs.Scratch as rules
use Rattle.rules.specs.Scratch.{with_evicted, unevict, unevict_all, unevict_but, unevict_for_reg, make_room}
use Rattle.rules.proofs.Evictions.{room-few}
use Rattle.edit.specs.Buffer.{count_of, edits_of, Written}
use Rattle.slots.specs.Steps as slots
use Rattle.scratch.specs.declared.Held.{Held}
use Rattle.scratch.specs.declared.Evicted.{Evicted}
use Rattle.scratch.specs.declared.Evicted.TheVariants.{Nothing, One, Two}
use Rattle.scratch.specs.declared.ScratchAllocator.{ScratchAllocator}
use Rattle.scratch.specs.State.{T, F, evicted_in, held_of, evicted_of, Keeps, HeldFits, AllFit, owed}
use Rattle.scratch.specs.Promises.{Tables, tables, state_of, unevict_for_ends, Back, Brought, Holds}
use Rattle.scratch.proofs.Bounds.{fewer, pushed, put_back, let_go, all_fit}
use Rattle.scratch.proofs.Steps.{all-is, all_none, but-all, but-none, but-one, but-two, for-none, for-apart, for-met, for-two, for-both, for-older, for-neither, ends-none, ends-apart, ends-met, room-none}
use Rattle.scratch.proofs.Unlimited.{length-evicted}

module _ (t f cache : List ℕ) where
  abbrev By : Type 0
  By = rules.ScratchAllocator → rules.ScratchAllocator

  -- one register
  pub back-made : (k : ScratchAllocator) (x x' s s' : List ℕ) (e : Held) → HeldFits (T t) e → (edits_of x' ≡ EmergencySpill e.slot.0 e.reg.0 ∷ edits_of x) × (count_of x' ≡ count_of x + 1) × (Written x → Written x') → slots.PutBack s s' (spillslot_size (T t) e.bank.0) e.slot.0 → (available : List Bool) → Back t f cache e k (tables x available s) k (tables x' available s')
  unfolding unevict
  back-made k x x' s s' e ok p q available =
      record {
        same = refl;
        is = rw (p.0, q.stacks cache, q.met);
        fits = λ a b n h. put_back q ok.1 (pushed (omega arith) (omega arith) (omega arith) p.1 p.2 h);
      }

  module _ (k : ScratchAllocator) (w : Tables) where
    abbrev state : rules.ScratchAllocator
    state = state_of t f cache k w

    -- a step of the rules that changes nothing, and one that does what another does
    same : (to : By) → to state ≡ state → Brought t f cache k w k w to
    same to e = record { is = sym e; fits = λ a b n h. h }

    alike : (k' : ScratchAllocator) (w' : Tables) (to to' : By) → to' state ≡ to state → Brought t f cache k w k' w' to → Brought t f cache k w k' w' to'
    alike k' w' to to' e h = record { is = h.is ∙ sym e; fits = h.fits }

    -- others held
    state-kept : (v : Evicted) (k₁ : ScratchAllocator) → Keeps v k k₁ → state_of t f cache k₁ w ≡ with_evicted (evicted_of (T t) v) state
    state-kept v k₁ s = rw (s.is, s.made)

    -- one of those held
    module _ (u v : Evicted) (q : evicted_in k ≡ u) (l : owed v + 1 ≤ owed u) (g : AllFit (T t) u → AllFit (T t) v) (e : Held) (k₁ k' : ScratchAllocator) (w' : Tables) (s : Keeps v k k₁) where
      brought-back : (to : By) → to state ≡ unevict (T t) (F f) (held_of (T t) e ∷ []) (with_evicted (evicted_of (T t) v) state) → Back t f cache e k₁ w k' w' → Brought t f cache k w k' w' to
      brought-back to i h =
          record {
            is = h.is ∙ ap (unevict (T t) (F f) (held_of (T t) e ∷ [])) (state-kept v k₁ s) ∙ sym i;
            fits = λ a b n x. h.fits a b n (let_go v 1 s (g (all_fit q x)) (omega (arith, l, ap owed q)) x);
          }

    pub none-all : evicted_in k ≡ Nothing → Brought t f cache k w k w (unevict_all (T t) (F f))
    none-all q = same (unevict_all (T t) (F f)) (all_none (T t) (F f) state (ap (evicted_of (T t)) q))

    pub none-but : (n : ℕ) → evicted_in k ≡ Nothing → Brought t f cache k w k w (unevict_but (T t) (F f) n)
    none-but n q = same (unevict_but (T t) (F f) n) (but-none (T t) (F f) state n (ap (evicted_of (T t)) q))

    pub none-for : (p : Place) → evicted_in k ≡ Nothing → Brought t f cache k w k w (unevict_for_reg (T t) (F f) p)
    none-for p q = same (unevict_for_reg (T t) (F f) p) (for-none (T t) (F f) state p (ap (evicted_of (T t)) q))

    pub none-room : (r : ℕ) → evicted_in k ≡ Nothing → Brought t f cache k w k w (make_room (T t) (F f) r)
    none-room r q = same (make_room (T t) (F f) r) (room-none (T t) (F f) state r (ap (evicted_of (T t)) q))

    pub none-ends : (to from : Place) → evicted_in k ≡ Nothing → Brought t f cache k w k w (unevict_for_ends (T t) (F f) to from)
    none-ends to from q = same (unevict_for_ends (T t) (F f) to from) (ends-none (T t) (F f) state from to (ap (evicted_of (T t)) q))

    -- one is held
    module _ (e : Held) (q : evicted_in k ≡ One e) where
      pub one-all : (k₁ k' : ScratchAllocator) (w' : Tables) → Keeps Nothing k k₁ → Back t f cache e k₁ w k' w' → Brought t f cache k w k' w' (unevict_all (T t) (F f))
      one-all k₁ k' w' s h = brought-back (One e) Nothing q (omega arith) (λ _. tt) e k₁ k' w' s (unevict_all (T t) (F f)) (all-is (T t) (F f) state (held_of (T t) e ∷ []) (ap (evicted_of (T t)) q)) h

      pub one-but : Brought t f cache k w k w (unevict_but (T t) (F f) 1)
      one-but = same (unevict_but (T t) (F f) 1) (but-one (T t) (F f) state (held_of (T t) e) (ap (evicted_of (T t)) q))

      module _ (p : Place) (o : Bool) (m : o ≡ overlap (T t) p (reg e.reg.0)) where
        pub one_apart : o ≡ false → Brought t f cache k w k w (unevict_for_reg (T t) (F f) p)
        one_apart n = same (unevict_for_reg (T t) (F f) p) (for-apart (T t) (F f) state p (held_of (T t) e) (ap (evicted_of (T t)) q) (sym m ∙ n))

        pub one-met : o ≡ true → (k' : ScratchAllocator) (w' : Tables) → Brought t f cache k w k' w' (unevict_all (T t) (F f)) → Brought t f cache k w k' w' (unevict_for_reg (T t) (F f) p)
        one-met n k' w' h = alike k' w' (unevict_all (T t) (F f)) (unevict_for_reg (T t) (F f) p) (for-met (T t) (F f) state p (held_of (T t) e) (ap (evicted_of (T t)) q) (sym m ∙ n)) h

      module _ (to from : Place) (o : Bool) (m : o ≡ or (overlap (T t) from (reg e.reg.0)) (overlap (T t) to (reg e.reg.0))) where
        pub ends-apart-one : o ≡ false → Brought t f cache k w k w (unevict_for_ends (T t) (F f) to from)
        ends-apart-one n = same (unevict_for_ends (T t) (F f) to from) (ends-apart (T t) (F f) state from to (held_of (T t) e) (ap (evicted_of (T t)) q) (sym m ∙ n))

        pub ends-met-one : o ≡ true → (k' : ScratchAllocator) (w' : Tables) → Brought t f cache k w k' w' (unevict_all (T t) (F f)) → Brought t f cache k w k' w' (unevict_for_ends (T t) (F f) to from)
        ends-met-one n k' w' h = alike k' w' (unevict_all (T t) (F f)) (unevict_for_ends (T t) (F f) to from) (ends-met (T t) (F f) state from to (held_of (T t) e) (ap (evicted_of (T t)) q) (sym m ∙ n)) h

    -- two are
    module _ (e o : Held) (q : evicted_in k ≡ Two e o) where
      pub two-all : (k₁ k' k'' : ScratchAllocator) (w' w'' : Tables) → Keeps Nothing k k₁ → Back t f cache o k₁ w k' w' → Back t f cache e k' w' k'' w'' → Brought t f cache k w k'' w'' (unevict_all (T t) (F f))
      unfolding unevict
      two-all k₁ k' k'' w' w'' s h g =
          record {
            is = g.is ∙ ap (unevict (T t) (F f) (held_of (T t) e ∷ [])) (h.is ∙ ap (unevict (T t) (F f) (held_of (T t) o ∷ [])) (state-kept Nothing k₁ s)) ∙ sym (all-is (T t) (F f) state (held_of (T t) e ∷ held_of (T t) o ∷ []) (ap (evicted_of (T t)) q));
            fits = λ a b n x. g.fits a b n (h.fits a b (n + 1) (fewer (omega arith) (omega arith) (omega arith) (let_go Nothing 2 s tt (omega (arith, ap owed q)) x)));
          }

      pub two-older : (k₁ k' : ScratchAllocator) (w' : Tables) → Keeps (One e) k k₁ → Back t f cache o k₁ w k' w' → Brought t f cache k w k' w' (unevict_but (T t) (F f) 1)
      two-older k₁ k' w' s h = brought-back (Two e o) (One e) q (omega arith) (λ x. x.0) o k₁ k' w' s (unevict_but (T t) (F f) 1) (but-two (T t) (F f) state (held_of (T t) e) (held_of (T t) o) (ap (evicted_of (T t)) q)) h

      module _ (p : Place) (b c : Bool) (m : b ≡ overlap (T t) p (reg e.reg.0)) (n : c ≡ overlap (T t) p (reg o.reg.0)) where
        pub two-met : b ≡ true → c ≡ true → (k' : ScratchAllocator) (w' : Tables) → Brought t f cache k w k' w' (unevict_all (T t) (F f)) → Brought t f cache k w k' w' (unevict_for_reg (T t) (F f) p)
        two-met x y k' w' h =
            alike k' w' (unevict_all (T t) (F f)) (unevict_for_reg (T t) (F f) p) (for-both (T t) (F f) state p (held_of (T t) e) (held_of (T t) o) (ap (evicted_of (T t)) q) (sym m ∙ x) (sym n ∙ y)) h

        pub older-met : b ≡ false → c ≡ true → (k' : ScratchAllocator) (w' : Tables) → Brought t f cache k w k' w' (unevict_but (T t) (F f) 1) → Brought t f cache k w k' w' (unevict_for_reg (T t) (F f) p)
        older-met x y k' w' h =
            alike k' w' (unevict_but (T t) (F f) 1) (unevict_for_reg (T t) (F f) p) (for-older (T t) (F f) state p (held_of (T t) e) (held_of (T t) o) (ap (evicted_of (T t)) q) (sym m ∙ x) (sym n ∙ y)) h

        pub newer-met : b ≡ true → c ≡ false → (k₁ k' : ScratchAllocator) (w' : Tables) → Keeps (One o) k k₁ → Back t f cache e k₁ w k' w' → Brought t f cache k w k' w' (unevict_for_reg (T t) (F f) p)
        newer-met x y k₁ k' w' s h =
            brought-back (Two e o) (One o) q (omega arith) (λ z. z.1) e k₁ k' w' s (unevict_for_reg (T t) (F f) p) (for-two (T t) (F f) state p (held_of (T t) e) (held_of (T t) o) (ap (evicted_of (T t)) q) true false (sym m ∙ x) (sym n ∙ y)) h

        pub neither-met : b ≡ false → c ≡ false → Brought t f cache k w k w (unevict_for_reg (T t) (F f) p)
        neither-met x y = same (unevict_for_reg (T t) (F f) p) (for-neither (T t) (F f) state p (held_of (T t) e) (held_of (T t) o) (ap (evicted_of (T t)) q) (sym m ∙ x) (sym n ∙ y))

  -- at setting 1 all, at 2 all but one
  module _ (k k' : ScratchAllocator) (w w' : Tables) where
    pub rest_all : (function_of f).kept ≡ 1 → Brought t f cache k w k' w' (unevict_all (T t) (F f)) → Brought t f cache k w k' w' (unevict_but (T t) (F f) (pred (function_of f).kept))
    rest_all q h =
        alike k w k' w' (unevict_all (T t) (F f)) (unevict_but (T t) (F f) (pred (function_of f).kept))
        (ap (λ (n : ℕ). unevict_but (T t) (F f) (pred n) (state_of t f cache k w)) q ∙ but-all (T t) (F f) (state_of t f cache k w)) h

    pub rest-one : Checked t f → ((function_of f).kept ≡ 1 → ⊥) → Brought t f cache k w k' w' (unevict_but (T t) (F f) 1) → Brought t f cache k w k' w' (unevict_but (T t) (F f) (pred (function_of f).kept))
    rest-one ok q h = by (one-or-two (T t) (function_of f) ok.function)
      where
        by : ((function_of f).kept ≡ 1) ⊎ ((function_of f).kept ≡ 2) → Brought t f cache k w k' w' (unevict_but (T t) (F f) (pred (function_of f).kept))
        by (inl x) = absurd (q x)
        by (inr x) = alike k w k' w' (unevict_but (T t) (F f) 1) (unevict_but (T t) (F f) (pred (function_of f).kept)) (ap (λ (n : ℕ). unevict_but (T t) (F f) (pred n) (state_of t f cache k w)) x) h

    -- with room for one more
    pub room-owed : (r : ℕ) → Checked t f → Brought t f cache k w k' w' (make_room (T t) (F f) r) → owed (evicted_in k') ≤ 1
    room-owed r ok h = by (one-or-two (T t) (function_of f) ok.function)
      where
        by : ((function_of f).kept ≡ 1) ⊎ ((function_of f).kept ≡ 2) → owed (evicted_in k') ≤ 1
        by (inl x) = omega (arith, x, length-evicted (T t) (evicted_in k'), ap (λ (y : rules.ScratchAllocator). length y.evicted) h.is, room-few (T t) (F f) r (state_of t f cache k w))
        by (inr x) = omega (arith, x, length-evicted (T t) (evicted_in k'), ap (λ (y : rules.ScratchAllocator). length y.evicted) h.is, room-few (T t) (F f) r (state_of t f cache k w))

  -- those for the source, then those for the destination
  pub for-ends : (to from : Place) (k k' k'' : ScratchAllocator) (w w' w'' : Tables) → Brought t f cache k w k' w' (unevict_for_reg (T t) (F f) from) → Brought t f cache k' w' k'' w'' (unevict_for_reg (T t) (F f) to) → Brought t f cache k w k'' w'' (unevict_for_ends (T t) (F f) to from)
  for-ends to from k k' k'' w w' w'' h g = record { is = g.is ∙ ap (unevict_for_reg (T t) (F f) to) h.is; fits = λ a b n x. g.fits a b n (h.fits a b n x) }

  -- those for the new register, then as many as there is no room for
  pub made-room : (p r l : ℕ) (k k' k'' : ScratchAllocator) (w w' w'' : Tables) → p ≡ code_of (reg r) → r ≡ l → Brought t f cache k w k' w' (unevict_for_reg (T t) (F f) (place_at p)) → Brought t f cache k' w' k'' w'' (unevict_but (T t) (F f) (pred (function_of f).kept)) → Brought t f cache k w k'' w'' (make_room (T t) (F f) l)
  unfolding make_room
  made-room p r l k k' k'' w w' w'' e d h g =
      let at : place_at p ≡ reg l = ap place_at e ∙ place-there (reg r) ∙ ap reg d in
      record {
        is = g.is ∙ ap (unevict_but (T t) (F f) (pred (function_of f).kept)) (h.is ∙ ap (λ (x : Place). unevict_for_reg (T t) (F f) x (state_of t f cache k w)) at);
        fits = λ a b n x. g.fits a b n (h.fits a b n x);
      }

  pub with-room : (l : ℕ) (k k' : ScratchAllocator) (e e' s s' : List ℕ) → Checked t f → ((available : List Bool) → Brought t f cache k (tables e available s) k' (tables e' available s') (make_room (T t) (F f) l)) → (owed (evicted_in k') ≤ 1) × ((available : List Bool) → Brought t f cache k (tables e available s) k' (tables e' available s') (make_room (T t) (F f) l))
  with-room l k k' e e' s s' ok h = (room-owed k k' (tables e [] s) (tables e' [] s') l ok (h []), h)

-- one more held
module _ (e : Held) (k k' : ScratchAllocator) where
  pub held_first : evicted_in k ≡ Nothing → Keeps (One e) k k' → Holds e k k'
  held_first q s = record { is = λ t. rw (q, s.is); made = s.made; owes = omega (arith, ap owed q, ap owed s.is); fits = λ t h _. rw s.is h }

  pub held-second : (o : Held) → evicted_in k ≡ One o → Keeps (Two e o) k k' → Holds e k k'
  held-second o q s =
      record { is = λ t. rw (q, s.is); made = s.made; owes = omega (arith, ap owed q, ap owed s.is); fits = λ t h g. rw s.is (h, rw q at g) }
