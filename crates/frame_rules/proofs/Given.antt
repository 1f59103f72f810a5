-- What the opening of a frame leaves known, and what no call changes.
use Prim.Native.Nat.{ℕ, zero, suc, ◌+◌, ◌-◌, ◌<◌, ◌≤◌}
use mathlib.Core.Path.{◌≡◌, refl, sym, ap, subst, ◌∙◌}
use mathlib.Core.Bool.{Bool, true, false}
use mathlib.Core.List.{List, [], ◌∷◌}
use mathlib.Core.Option.{Option, none, some}
use mathlib.Core.Logic.{⊎_elim}
use native.Mathlib.Omega.{arith}
use lib.Dec.{eqb}
use lib.ListN.{length, get_or}
use borrow.Author.Tests.{eqb-true}
use Rattle.entity.specs.Logic.{no}
use Rattle.reginfo.specs.Refused.{or_else, target_refusal}
use Rattle.reginfo.specs.Refused as target
use Rattle.function.specs.Function.{is_setting}
use Rattle.function.specs.Refused as function
use Rattle.rules.specs.Take.{Request, stamped_by}
use Rattle.rules.proofs.Steps.{same?}
use Rattle.machine.proofs.EnoughSlots.{accepted-within}
use Rattle.frame_rules.specs.Frame.{Inlined, or_given, formula_refusal, formulas_refusal, first_slots, open_refusal, Formula, Frame, no_formula, opened, reach, now_in, function_in, standing_in, asked_in, after_in, FrameCall, after_call, after_calls, Named}
use Rattle.frame_rules.specs.Promise.{PromisedTo}
use Rattle.frame_rules.proofs.Calls.{along, at_own, at_other}
use Rattle.frame_rules.proofs.Promise.{Sound, opens, low-limit, promised-to, sound-after, sound-opened}

-- an accepted formula
pub record Fits (n : ℕ) (x : Inlined) : Type 0 where
  pub target : target.Accepted x.target
  pub function : function.Accepted x.target x.function
  pub slots : x.function.slots ≡ n

else-none : (b : Bool) (n : ℕ) (o : Option ℕ) → or_else b n o ≡ none → (b ≡ false) × (o ≡ none)
else-none true n o e = let z : ◌≡◌ {A = ℕ} 0 1 = cc in absurd (omega arith)
else-none false n o e = (refl, e)

given-none : (o u : Option ℕ) → or_given o u ≡ none → (o ≡ none) × (u ≡ none)
given-none none u e = (refl, e)
given-none (some n) u e = let z : ◌≡◌ {A = ℕ} 0 1 = cc in absurd (omega arith)

no_false : (b : Bool) → no b ≡ false → b ≡ true
no_false true e = refl
no_false false e = let z : ◌≡◌ {A = ℕ} 0 1 = cc in absurd (omega arith)

fits : (n : ℕ) (x : Inlined) → formula_refusal n x ≡ none → Fits n x
unfolding formula_refusal
fits n x e =
    let a = else-none (no (is_setting x.function.kept)) 22 _ e in
    let b = given-none (target_refusal x.target) _ a.1 in
    let c = else-none (no (eqb x.function.slots n)) 2 _ b.1 in
    record { target = b.0; function = c.1; slots = eqb-true x.function.slots n (no_false (eqb x.function.slots n) c.0) }

each_fits : (n : ℕ) (l : List Inlined) → formulas_refusal n l ≡ none → (i : ℕ) → i < length l → Fits n (get_or l i no_formula)
unfolding formulas_refusal
each_fits n [] e i h = absurd (omega arith)
each_fits n (x ∷ l) e zero h = fits n x (given-none (formula_refusal n x) _ e).0
each_fits n (x ∷ l) e (suc i) h = each_fits n l (given-none (formula_refusal n x) _ e).1 i (omega arith)

-- no call changes what was given
pub record Given (limit : ℕ) (l : List Inlined) (s : Frame) : Type 0 where
  pub limit_is : s.limit ≡ limit
  pub target_is : (i : ℕ) → (s.formulas i).target ≡ (get_or l i no_formula).target
  pub function-is : (i : ℕ) → (s.formulas i).function ≡ (get_or l i no_formula).function
  pub share-is : (i : ℕ) → (s.formulas i).share ≡ (get_or l i no_formula).share

pub given-after : (limit : ℕ) (l : List Inlined) (s : Frame) (j : ℕ) (x : Request) → Given limit l s → Given limit l (after_in s j x)
given-after limit l s j x g =
    record {
      limit_is = g.limit_is;
      target_is = λ i. part (λ y. y.target) i (refl) ∙ g.target_is i;
      function-is = λ i. part (λ y. y.function) i (refl) ∙ g.function-is i;
      share-is = λ i. part (λ y. y.share) i (refl) ∙ g.share-is i;
    }
  where
    new : Formula
    new =
        record {
          target = (s.formulas j).target;
          function = (s.formulas j).function;
          share = (s.formulas j).share;
          stacks = (stamped_by (now_in s j) (standing_in s j x)).cache.stacks;
          made = (s.formulas j).made + ((stamped_by (now_in s j) (standing_in s j x)).cache.made - s.counter);
          count = (stamped_by (now_in s j) (standing_in s j x)).count;
          asked = asked_in s j x;
        }

    part : {A : Type 0} (h : Formula → A) (i : ℕ) → h new ≡ h (s.formulas j) → h ((after_in s j x).formulas i) ≡ h (s.formulas i)
    part h i q =
        ⊎_elim
        (λ e. subst (λ (k : ℕ). h ((after_in s j x).formulas k) ≡ h (s.formulas k)) (sym e) (ap h (at_own s j (stamped_by (now_in s j) (standing_in s j x)) (asked_in s j x)) ∙ q))
        (λ d. ap h (at_other s j (stamped_by (now_in s j) (standing_in s j x)) (asked_in s j x) i d)) (same? i j)

-- all that is known between calls
pub record Known (limit : ℕ) (l : List Inlined) (s : Frame) : Type 0 where
  pub given : Given limit l s
  pub sound : Sound (length l) s

pub known-opened : (limit : ℕ) (l : List Inlined) → open_refusal limit l ≡ none → Known limit l (opened limit l)
known-opened limit l e = record { given = record { limit_is = refl; target_is = λ i. refl; function-is = λ i. refl; share-is = λ i. refl }; sound = sound-opened limit l e }

pub known-after : (limit : ℕ) (l : List Inlined) (s : Frame) (x : FrameCall) → x.formula < length l → Known limit l s → Known limit l (after_call s x)
known-after limit l s x h k = record { given = given-after limit l s x.formula x.request k.given; sound = sound-after (length l) s x h k.sound }

pub known : (limit : ℕ) (l : List Inlined) → open_refusal limit l ≡ none → (calls : List FrameCall) → Named (length l) calls → Known limit l (after_calls calls (opened limit l))
known limit l e calls k = along (length l) (Known limit l) (known-after limit l) calls k (opened limit l) (known-opened limit l e)

-- of a formula: its target, its function and the function that its call has are accepted
module _ (limit : ℕ) (l : List Inlined) (e : open_refusal limit l ≡ none) (s : Frame) (k : Known limit l s) (i : ℕ) (h : i < length l) where
  pub is-target : target.Accepted (s.formulas i).target
  is-target = rw (k.given.target_is i) (each_fits (first_slots l) l (opens limit l e).1 i h).target

  pub is-function : function.Accepted (s.formulas i).target (s.formulas i).function
  is-function = rw (k.given.target_is i, k.given.function-is i) (each_fits (first_slots l) l (opens limit l e).1 i h).function

  pub is-slots : (s.formulas i).function.slots ≡ first_slots l
  is-slots = rw (k.given.function-is i) (each_fits (first_slots l) l (opens limit l e).1 i h).slots

  pub is-promised : PromisedTo s i
  is-promised = promised-to s i (omega (arith, k.sound.number, h)) k.sound.kept

  pub low-reach : reach s i ≤ 2048
  low-reach = omega (arith, is-promised.within, k.given.limit_is, low-limit limit l e)

  pub is_within : function.Accepted (s.formulas i).target (function_in s i)
  is_within = accepted-within (s.formulas i).target (s.formulas i).function (reach s i) is-function low-reach
