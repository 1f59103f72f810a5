-- 02 j in a frame: a share of 129 (130) times the sizes meets no 17.
use Prim.Native.Nat.{ℕ, ◌+◌, ◌-◌, ◌*◌, ◌<◌, ◌≤◌}
use mathlib.Core.Path.{◌≡◌, refl, sym, ap, subst, ◌∙◌}
use mathlib.Core.List.{List, []}
use mathlib.Core.Option.{Option, none, some}
use mathlib.Core.Logic.{inl, inr, ⊎_elim}
use native.Mathlib.Omega.{arith}
use lib.ListN.{length, get_or}
use Rattle.reginfo.specs.RegInfo.{RegInfo}
use Rattle.reginfo.specs.Refused as target
use Rattle.function.specs.Function.{Function, value_bank}
use Rattle.function.specs.Refused as function
use Rattle.rules.specs.Edit.{Edit}
use Rattle.rules.specs.Scratch.{Cache, empty_cache}
use Rattle.rules.specs.Patch.{Patch, Answer, refused, resolved, resolve, sorted}
use Rattle.rules.specs.Refusals.{with_limit}
use Rattle.rules.specs.Take.{Request, resolving, asking, taking, stamped_by, answer_in}
use Rattle.rules.proofs.Accepted.{accepted}
use Rattle.rules.proofs.Limit.{made-within}
use Rattle.rules.proofs.Steps.{same?}
use Rattle.machine.specs.Enough.{num_sizes}
use Rattle.machine.specs.Slots.{InStacks}
use Rattle.machine.proofs.Banked.{Banked, banked}
use Rattle.machine.proofs.SlotCounts.{stacked}
use Rattle.machine.proofs.Slots.{slots-empty}
use Rattle.machine.proofs.OwnSize.{Fair}
use Rattle.machine.proofs.EnoughSlots.{Steady, never-out, quiet-after, quiet-fresh, same-sizes, accepted-within}
use Rattle.frame_rules.specs.Frame.{Inlined, open_refusal, Asked, Frame, no_formula, opened, reach, now_in, resolve_in, taken_in, standing_in, answered_in, asked_in, after_in, FrameCall, after_call, after_calls}
use Rattle.frame_rules.specs.Promise.{EnoughShare}
use Rattle.frame_rules.proofs.Calls.{along, reach_far, Moved, moved, goes_on, take-now, take-late, fresh-or-late}
use Rattle.frame_rules.proofs.Given.{Known, known-opened, known-after, is-target, is-function, is-promised, low-reach}
use Rattle.frame_rules.proofs.Lifted.{ren_cache, ren_answer}
use Rattle.frame_rules.proofs.Beside.{Beside, Low, ahead, now, stacks-now, answers-beside, own-beside, other-beside}

-- a resolved call makes no slot fewer
pub grows : (t : RegInfo) (f : Function) (p : Patch) (room : ℕ) (c c' : Cache) (es : List Edit) (n : ℕ) → c.made ≤ f.limit → resolve t f p room c ≡ resolved es c' n → c.made ≤ c'.made
grows t f p room c c' es n h e =
    let r = accepted t f p room c c' es n e in
    subst (λ (y : Cache). c.made ≤ y.made) (sym r.cache) (made-within t f p (sorted t f p) c r.allocator h r.ran).0

module _ (limit : ℕ) (l : List Inlined) (ok : open_refusal limit l ≡ none) (i : ℕ) (il : i < length l) where
  abbrev pub t : RegInfo
  t = (get_or l i no_formula).target

  abbrev pub f : Function
  f = (get_or l i no_formula).function

  pub at : target.Accepted t
  at = is-target limit l ok (opened limit l) (known-opened limit l ok) i il

  pub af : function.Accepted t f
  af = is-function limit l ok (opened limit l) (known-opened limit l ok) i il

  -- a cache that the formula might have alone
  record Image (s : Frame) : Type 0 where
    known : Known limit l s
    cache : Cache
    ρ : ℕ → ℕ
    beside : Beside t f s i cache ρ
    ins : InStacks f cache
    fair : Fair t f (stacked cache) []

  -- the same whatever the L
  pub to-steady : (k : ℕ) (ab : Banked t (with_limit t f k)) (c : Cache) → InStacks f c → Fair t f (stacked c) [] → Steady t (with_limit t f k) at ab c
  unfolding value_bank
  to-steady k ab c ins fair =
      record {
        ins = record { listed = ins.listed; stacked = record { once = ins.stacked.once; sole = ins.stacked.sole; low = ins.stacked.low; below = ins.stacked.below } };
        fair = record { few = fair.few; sized = fair.sized; lies = tt };
      }

  pub from-steady : (k : ℕ) (ab : Banked t (with_limit t f k)) (c : Cache) → Steady t (with_limit t f k) at ab c → InStacks f c × Fair t f (stacked c) []
  unfolding value_bank
  from-steady k ab c g = (
    record { listed = g.ins.listed; stacked = record { once = g.ins.stacked.once; sole = g.ins.stacked.sole; low = g.ins.stacked.low; below = g.ins.stacked.below } },
    record { few = g.fair.few; sized = g.fair.sized; lies = tt },
  )

  module _ (s : Frame) (g : Image s) where
    low : Low t f g.cache
    low x z h = g.ins.stacked.below x z h

    abbrev d : ℕ
    d = ahead t f s g.cache

    -- how many slots it might have made then
    abbrev most : ℕ
    most = reach s i - d

    enough-made : g.cache.made ≤ most
    enough-made = omega (arith, reach_far s i, g.beside.few)

    within : function.Accepted t (with_limit t f most)
    within = accepted-within t f most af (omega (arith, low-reach limit l ok s g.known i il))

    alone : Patch → ℕ → Answer
    alone p room = resolve t (with_limit t f most) p room g.cache

    answers : (p : Patch) (room : ℕ) → resolve_in s i p room ≡ ren_answer (now t f s g.cache g.ρ) d (alone p room)
    unfolding alone
    answers p room = answers-beside t f s i g.cache g.ρ g.beside low at p room

    -- ---- a call of its own
    moved_on : (x : Request) → Moved s i (stamped_by (now_in s i) (standing_in s i x)) → Known limit l (after_in s i x) → Image (after_in s i x)
    unfolding alone
    moved_on x (inl h) k =
        record {
          known = k;
          cache = g.cache;
          ρ = now t f s g.cache g.ρ;
          beside =
              own-beside t f s i g.cache g.ρ g.beside low (stamped_by (now_in s i) (standing_in s i x)) (asked_in s i x) g.cache
              (ap (λ (y : Cache). y.stacks) h.0 ∙ stacks-now t f s i g.cache g.ρ g.beside low) (omega (arith, ap (λ (y : Cache). y.made) h.0, g.beside.few)) (omega arith);
          ins = g.ins;
          fair = g.fair;
        }
    moved_on x (inr h) k = go (alone h.patch h.room) refl (sym h.is ∙ answers h.patch h.room)
      where
        go : (r : Answer) → alone h.patch h.room ≡ r
            → resolved h.edits (stamped_by (now_in s i) (standing_in s i x)).cache h.position ≡ ren_answer (now t f s g.cache g.ρ) d (alone h.patch h.room) → Image (after_in s i x)
        go (refused n) e q = let w : ◌≡◌ {A = ℕ} 0 1 = cc in absurd (omega arith)
        go (resolved es c n) e q =
            let q' : resolved h.edits (stamped_by (now_in s i) (standing_in s i x)).cache h.position ≡ ren_answer (now t f s g.cache g.ρ) d (resolved es c n) = q ∙ ap (ren_answer (now t f s g.cache g.ρ) d) e in
            let is : (stamped_by (now_in s i) (standing_in s i x)).cache ≡ ren_cache (now t f s g.cache g.ρ) d c = cc in
            let b = from-steady most (banked t (with_limit t f most) within) c (quiet-after t (with_limit t f most) at within h.patch h.room g.cache (to-steady most (banked t (with_limit t f most) within) g.cache g.ins g.fair) (resolved es c n) e).0 in
            record {
              known = k;
              cache = c;
              ρ = now t f s g.cache g.ρ;
              beside =
                  own-beside t f s i g.cache g.ρ g.beside low (stamped_by (now_in s i) (standing_in s i x)) (asked_in s i x) c (ap (λ (y : Cache). y.stacks) is) (ap (λ (y : Cache). y.made) is)
                  (grows t (with_limit t f most) h.patch h.room g.cache c es n enough-made e);
              ins = b.0;
              fair = b.1;
            }

    -- ---- no 17
    module _ (enough : (128 + f.kept) * num_sizes t f ≤ (get_or l i no_formula).share) where
      far : (get_or l i no_formula).share ≤ most
      far = omega (arith, (is-promised limit l ok s g.known i il).free, g.known.given.share-is i, g.beside.made-is, g.beside.few)

      not-17 : (p : Patch) (room : ℕ) → resolve_in s i p room ≡ refused 17 → ⊥
      unfolding alone
      not-17 p room e = go (alone p room) refl (sym e ∙ answers p room)
        where
          go : (r : Answer) → alone p room ≡ r → refused 17 ≡ ren_answer (now t f s g.cache g.ρ) d (alone p room) → ⊥
          go (resolved es c n) h q = let w : ◌≡◌ {A = ℕ} 0 1 = cc in absurd (omega arith)
          go (refused n) h q =
              let q' : refused 17 ≡ refused n = q ∙ ap (ren_answer (now t f s g.cache g.ρ) d) h in
              let is : alone p room ≡ refused 17 = h ∙ sym q' in
              never-out t (with_limit t f most) at within (omega (arith, enough, far, ap (λ (n : ℕ). (127 + f.kept) * n) (same-sizes t f most))) p room g.cache (to-steady most (banked t (with_limit t f most) within) g.cache g.ins g.fair) is

      never : (x : Request) → answered_in s i x ≡ some (refused 17) → ⊥
      unfolding answered_in standing_in
      never (resolving p room) e = let q : resolve_in s i p room ≡ refused 17 = cc in not-17 p room q
      never (asking p room) e = let q : resolve_in s i p room ≡ refused 17 = cc in not-17 p room q
      never (taking n) e = go (get_or (s.formulas i).asked n none) e
        where
          go : (o : Option Asked) → answer_in (taken_in o s i) ≡ some (refused 17) → ⊥
          go none e = let w : ◌≡◌ {A = ℕ} 0 1 = cc in absurd (omega arith)
          go (some a) e =
              ⊎_elim (λ h. let q = take-now s i a h.0 h.1 in let w : ◌≡◌ {A = ℕ} 0 1 = cc in absurd (omega arith))
              (λ h. let q = take-late s i a h in let w : ◌≡◌ {A = ℕ} 17 20 = cc in absurd (omega arith)) (fresh-or-late s i a)

  image-opened : Image (opened limit l)
  image-opened =
      record {
        known = known-opened limit l ok;
        cache = empty_cache;
        ρ = λ y. y;
        beside =
            record {
              target_is = refl;
              function-is = refl;
              made-is = refl;
              stacks-are = refl;
              few = omega arith;
              renaming = record { stays = λ y h. refl; rises = λ y x h. h };
              bounded = λ y h. h;
            };
        ins = slots-empty f;
        fair = (from-steady f.limit (banked t f af) empty_cache (quiet-fresh t f at af)).1;
      }

  image-after : (s : Frame) (x : FrameCall) → x.formula < length l → Image s → Image (after_call s x)
  image-after s x h g = ⊎_elim own other (same? x.formula i)
    where
      own : x.formula ≡ i → Image (after_call s x)
      own q =
          subst (λ (j : ℕ). Image (after_in s j x.request)) (sym q)
          (moved_on s g x.request (moved s i x.request (g.known.sound.previews i)) (known-after limit l s (record { formula = i; request = x.request }) il g.known))

      other : (x.formula ≡ i → ⊥) → Image (after_call s x)
      other e =
          record {
            known = known-after limit l s x h g.known;
            cache = g.cache;
            ρ = g.ρ;
            beside =
                other-beside t f s i g.cache g.ρ g.beside x.formula (stamped_by (now_in s x.formula) (standing_in s x.formula x.request)) (asked_in s x.formula x.request) (λ q. e (sym q))
                (goes_on s x.formula _ (moved s x.formula x.request (g.known.sound.previews x.formula)));
            ins = g.ins;
            fair = g.fair;
          }

pub enough-share : EnoughShare
enough-share limit l ok calls k i il enough x =
    never limit l ok i il (after_calls calls (opened limit l)) (along (length l) (Image limit l ok i il) (image-after limit l ok i il) calls k (opened limit l) (image-opened limit l ok i il)) enough x
