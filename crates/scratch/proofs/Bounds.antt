-- How the bounds are carried from step to step.
use Prim.Native.Nat.{ℕ, ◌+◌, ◌<◌, ◌≤◌}
use mathlib.Core.Path.{◌≡◌, refl}
use mathlib.Core.Bool.{Bool, true, false}
use mathlib.Core.List.{List, [], ◌∷◌}
use mathlib.Core.Option.{some}
use native.Mathlib.Omega.{arith}
use lib.Dec.{eqb}
use borrow.Author.Tests.{eqb-true}
use Rattle.entity.specs.Logic.{pick, or, has}
use Rattle.entity.proofs.Laws.{has_get_d}
use Rattle.rules.specs.Edit.{updated}
use Rattle.edit.specs.Buffer.{count_of, Written}
use Rattle.slots.specs.Steps.{Popped}
use Rattle.slots.specs.Stacks.{stacks_of}
use Rattle.slots.specs.Steps.{top_of, without_top, Taken, PutBack, Meets}
use Rattle.slots.proofs.Laws.{fits_more}
use Rattle.scratch.specs.declared.Evicted.{Evicted}
use Rattle.scratch.specs.declared.Held.{Held}
use Rattle.scratch.specs.declared.ScratchAllocator.{ScratchAllocator}
use Rattle.scratch.specs.State.{T, made_of, evicted_in, Keeps, Stacked, Stocked, HeldFits, AllFit, owed, Fits}
use Rattle.scratch.specs.Promises.{Holds}

-- lists of slots below 8,192
abbrev Low : List ℕ → Type 0
Low l = (s : ℕ) → has s l ≡ true → s < 8192

first-or-rest : (b : Bool) (x s : ℕ) (l : List ℕ) → x < 8192 → Low l → eqb s x ≡ b → or b (has s l) ≡ true → s < 8192
first-or-rest true x s l h low q e = rw (eqb-true s x q) h
first-or-rest false x s l h low q e = low s e

low-more : (x : ℕ) (l : List ℕ) → x < 8192 → Low l → Low (x ∷ l)
unfolding has
low-more x l h low s e = first-or-rest (eqb s x) x s l h low refl e

low-rest : (x : ℕ) (l : List ℕ) → Low (x ∷ l) → Low l
unfolding has
low-rest x l low s e = low s (either (eqb s x) e)
  where
    either : (b : Bool) → has s l ≡ true → or b (has s l) ≡ true
    either true e = refl
    either false e = e

either-low : (b : Bool) (l m : List ℕ) → Low l → Low m → Low (pick b l m)
either-low true l m a b = a
either-low false l m a b = b

stacked-updated : (g : ℕ → List ℕ) (z : ℕ) (l : List ℕ) → Low l → Stacked g → Stacked (updated z l g)
unfolding updated
stacked-updated g z l low ok y = either-low (eqb y z) l (g y) low (ok y)

stacked-without : (l : List ℕ) (z : ℕ) (g : ℕ → List ℕ) → Low l → Stacked g → Stacked (without_top l z g)
stacked-without [] z g low ok = ok
stacked-without (x ∷ l) z g low ok = stacked-updated g z l (low-rest x l low) ok

pub top-low : (l : List ℕ) (s : ℕ) → Low l → some s ≡ top_of l → s < 8192
top-low [] s low e = absurd (let z : ◌≡◌ {A = ℕ} 0 1 = cc in omega arith)
top-low (x ∷ l) s low e = let q : s ≡ x = cc in rw q (low x (has_get_d (x ∷ l) 0 (omega arith)))

module _ {a b n : ℕ} {t : List ℕ} {k : ScratchAllocator} {edits slots cache : List ℕ} where
  -- what a smaller step asks
  pub fewer : {a' b' n' : ℕ} → a' ≤ a → b' ≤ b → n' ≤ n → Fits a b n t k edits slots cache → Fits a' b' n' t k edits slots cache
  fewer p q r h =
      record { few = omega arith; most = h.most; put = h.put; own = omega arith; made = omega arith; stacked = h.stacked; held = h.held; written = h.written; untouched = h.untouched }

  -- the room that a sharper count leaves
  pub refit : (m : ℕ) → count_of edits + owed (evicted_in k) + m ≤ 1024 → Fits a b n t k edits slots cache → Fits a b m t k edits slots cache
  refit m l h = record { few = l; most = h.most; put = h.put; own = h.own; made = h.made; stacked = h.stacked; held = h.held; written = h.written; untouched = h.untouched }

  pub stocked : Fits a b n t k edits slots cache → Stocked k slots cache
  stocked h = record { put = fits_more h.most 1024 slots (omega arith) h.put; made = omega arith; stacked = h.stacked }

  -- an edit made
  pub pushed : {a' b' n' : ℕ} {edits' : List ℕ} → a' ≤ a + 1 → b' ≤ b + 1 → n' + 1 ≤ n → count_of edits' ≡ count_of edits + 1 → (Written edits → Written edits') → Fits a b n t k edits slots cache → Fits a' b' n' t k edits' slots cache
  pushed p q r e o h =
      record { few = omega arith; most = h.most; put = h.put; own = omega arith; made = omega arith; stacked = h.stacked; held = h.held; written = o h.written; untouched = h.untouched }

  -- a slot put back
  pub put_back : {slots' : List ℕ} {z s : ℕ} → PutBack slots slots' z s → s < 8192 → Fits (a + 1) b n t k edits slots cache → Fits a b n t k edits slots' cache
  put_back {slots'} {z} {s} p l h =
      record {
        few = omega arith;
        most = h.most + 1;
        put = p.fits h.most h.put;
        own = omega arith;
        made = omega arith;
        stacked = rw (p.stacks cache) (stacked-updated (stacks_of slots cache) z (s ∷ stacks_of slots cache z) (low-more s _ l (h.stacked z)) h.stacked);
        held = h.held;
        written = h.written;
        untouched = p.untouched cache h.untouched;
      }

  -- a slot taken from a stack
  pub taken : {slots' : List ℕ} {z : ℕ} {r : Popped} → Taken slots cache slots' z r → Fits a b n t k edits slots cache → Fits a b n t k edits slots' cache
  taken {slots'} {z} p h =
      record {
        few = omega arith;
        most = h.most;
        put = p.fits h.most h.put;
        own = omega arith;
        made = omega arith;
        stacked = rw p.stacks (stacked-without (stacks_of slots cache z) z (stacks_of slots cache) (h.stacked z) h.stacked);
        held = h.held;
        written = h.written;
        untouched = p.untouched h.untouched;
      }

  -- a position met
  pub met-one : {slots' : List ℕ} {m : ℕ} → Meets slots slots' m → Fits a b n t k edits slots cache → Fits a b n t k edits slots' cache
  met-one {slots'} p h =
      record {
        few = h.few;
        most = h.most;
        put = p.fits h.most h.put;
        own = h.own;
        made = h.made;
        stacked = rw (p.stacks cache (fits_more h.most 1024 slots (omega (arith, h.own, h.few)) h.put)) h.stacked;
        held = h.held;
        written = h.written;
        untouched = p.untouched cache h.untouched;
      }

-- a slot made
pub one-made : {a b n : ℕ} {k k' : ScratchAllocator} {t edits slots cache : List ℕ} → (evicted_in k' ≡ evicted_in k) × (made_of k' ≡ made_of k + 1) → Fits a (b + 1) n t k edits slots cache → Fits a b n t k' edits slots cache
one-made e h =
    record {
      few = rw e.0 (omega (arith, h.few));
      most = h.most;
      put = h.put;
      own = h.own;
      made = omega (arith, e.1, h.made);
      stacked = h.stacked;
      held = rw e.0 h.held;
      written = h.written;
      untouched = h.untouched;
    }

module _ {a b n : ℕ} {t : List ℕ} {k : ScratchAllocator} {edits slots cache : List ℕ} where
  -- registers no longer held: the edits owed for them are room
  pub let_go : {k' : ScratchAllocator} (v : Evicted) (m : ℕ) → Keeps v k k' → AllFit (T t) v → owed v + m ≤ owed (evicted_in k) → Fits a b n t k edits slots cache → Fits a b (n + m) t k' edits slots cache
  let_go v m e f q h =
      record {
        few = rw e.is (omega (arith, q, h.few));
        most = h.most;
        put = h.put;
        own = h.own;
        made = omega (arith, e.made, h.made);
        stacked = h.stacked;
        held = rw e.is f;
        written = h.written;
        untouched = h.untouched;
      }

  -- one more held
  pub hold : {e : Held} {k' : ScratchAllocator} → Holds e k k' → HeldFits (T t) e → Fits a b (n + 1) t k edits slots cache → Fits a b n t k' edits slots cache
  hold g f h =
      record {
        few = omega (arith, g.owes, h.few);
        most = h.most;
        put = h.put;
        own = omega arith;
        made = omega (arith, g.made, h.made);
        stacked = h.stacked;
        held = g.fits (T t) f h.held;
        written = h.written;
        untouched = h.untouched;
      }

  pub all_fit : {v : Evicted} → evicted_in k ≡ v → Fits a b n t k edits slots cache → AllFit (T t) v
  all_fit e h = rw e at h.held
