-- From the exported openings of a frame to a frame of the rules. An exported opening also notes how many formulas are open, in a cell that no call reads: but
-- for that cell the frames are those that `frame_claim` knows.
use Prim.Native.Nat.{ℕ, zero, suc, ◌+◌, ◌≤◌}
use mathlib.Core.Path.{◌≡◌, refl, sym, ap, subst, ◌∙◌}
use mathlib.Core.Bool.{Bool, true, false}
use mathlib.Core.List.{List, [], ◌∷◌, map}
use mathlib.Core.Option.{Option, none, some}
use native.Mathlib.Omega.{arith}
use lib.Dec.{eqb, ltb}
use lib.ListN.{length, get_or}
use borrow.Author.Tests.{ne_eqb}
use Rattle.entity.specs.Logic.{pick, or}
use Rattle.reginfo.specs.Refused.{first_of}
use Rattle.reginfo.specs.Table.{reg_info_of}
use Rattle.function.specs.Known.{Checked}
use Rattle.function.specs.Table.{function_of}
use Rattle.machine.specs.Slots.{Stacked}
use Rattle.slots.specs.Stacks.{cache_of}
use Rattle.slots.specs.Steps.{Fresh}
use Rattle.number.specs.Read.{Read, got, refused, then}
use Rattle.parallel_moves.specs.Given.{with_made}
use Rattle.job_rules.specs.Job as job
use Rattle.job_rules.specs.Formula.{beginning_within}
use Rattle.calls.specs.declared.Opened.TheVariants as O
use Rattle.calls.specs.Opening.{ended}
use Rattle.frame_rules.specs.Frame.{Inlined, no_formula, open_refusal, Frame, opened}
use Rattle.frame_table.specs.declared.FrameOpened.TheVariants as F
use Rattle.frame_table.specs.Table.{counter_of, slots_of, opens_next}
use Rattle.frame_table.specs.Opening.{sum_of, share_conditions, FrameAs}
use Rattle.frame_table.specs.Held.{Holds, FrameOk}
use Rattle.frame_table.proofs.Held.{slots-ok, filled_ok}
use Rattle.frame_calls.specs.Given.{InFrame, opened_in, NotedIf, OpenedAs}
use Rattle.frame_c.specs.Called.{FrameBy, FormulaBy, FormulaIf}
use Rattle.frame_claim.specs.Claim.{Begun}
use Rattle.frame_claim.specs.Opening as claim
use Rattle.frame_claim.specs.Opening.{Opening, no_opening, inlined_of, formulas_of, targets_of, functions_of, caches_of, frame_after}
use Rattle.frame_claim.proofs.Opened.{openings-begin}
use Rattle.exported_claims.specs.Frames.{OpenedFrom, shares_of, OpenedAll}
use Rattle.exported_claims.proofs.Read.{from_one, of-opened-in}

-- the same but for the cell of open formulas
abbrev Alike : List ℕ → List ℕ → Type 0
Alike a b = (j : ℕ) → (j ≡ 36 → ⊥) → get_or a j 0 ≡ get_or b j 0

alike-holds : (a b : List ℕ) (s : Frame) → s.number ≤ 16 → Alike a b → Holds b s → Holds a s
alike-holds a b s few h w =
    record {
      number = h 0 (λ e. omega arith) ∙ w.number;
      limit = h 1 (λ e. omega arith) ∙ w.limit;
      counter = h 2 (λ e. omega arith) ∙ w.counter;
      share = λ j g. h (4 + j) (λ e. omega (arith, few, g)) ∙ w.share j g;
      made = λ j g. h (20 + j) (λ e. omega (arith, few, g)) ∙ w.made j g;
    }

alike-in : (a b f cache : List ℕ) → counter_of a ≡ counter_of b → InFrame a f cache → InFrame b f cache
alike-in a b f cache e h = record { fits = h.fits; stacks = subst (λ (n : ℕ). Stacked (function_of f) (with_made n (cache_of cache))) e h.stacks }

-- ---- one opening that answered 0
answered-0 : (o : Bool) (frame frame' : List ℕ) (i : ℕ) (y : Read job.Opened) (t t' f f' cache cache' : List ℕ) → FormulaIf o frame frame' i y 0 t t' f f' cache cache'
    → FormulaBy frame frame' i y 0 t' f' cache cache'
answered-0 false frame frame' i y t t' f f' cache cache' h = absurd (let z : ◌≡◌ {A = ℕ} 0 2 = h.0 in omega (arith, z))
answered-0 true frame frame' i y t t' f f' cache cache' h = h

same-opened : (a b : List ℕ) (i kept : ℕ) (l : List ℕ) → slots_of a ≡ slots_of b → opened_in a i kept l ≡ opened_in b i kept l
unfolding opened_in
same-opened a b i kept l e = ap (λ (n : ℕ). then (beginning_within true (pick (eqb i 0) 0 n) (pick (eqb i 0) 4096 n) kept l) (λ x q. ended x q)) e

-- the opening of a formula behind the first, over the frame that `frame_claim` has, which it leaves as it was
pub record Later (b : List ℕ) (i : ℕ) (x : Opening) (y : Read job.Opened) : Type 0 where
  pub opens : OpenedAs b b i y O.Yes x.target x.function x.before x.cache
  pub alike : Alike x.frame b
  pub ok : FrameOk x.frame

later : (a b : List ℕ) (i : ℕ) → (i ≡ 0 → ⊥) → Alike a b → FrameOk b → (x : Opening) (y : Read job.Opened) → (y ≡ refused 0 → ⊥)
    → FormulaBy a x.frame i y 0 x.target x.function x.before x.cache → Later b i x y
later a b i behind h ok x (refused k) nz g = absurd (nz (ap refused (sym g.0)))
later a b i behind h ok x (got z r) nz g =
    let w = g.6 in
    let same : w.noted ≡ a = subst (λ (o : Bool). NotedIf o a z.function.slots w.noted) (ne_eqb i 0 behind) w.slots in
    let alike : Alike x.frame b = λ j e. w.one.rest j e ∙ ap (λ (l : List ℕ). get_or l j 0) same ∙ h j e in
    let noted : NotedIf (eqb i 0) b z.function.slots b = rw (ne_eqb i 0 behind) refl in
    record {
      opens = (refl, g.1, g.2, g.3, g.4, alike-in x.frame b x.function x.cache (alike 2 (λ e. omega arith)) g.5, noted, ok);
      alike = alike;
      ok = g.7;
    }

-- the opening of the first
pub record First (frame : List ℕ) (x : Opening) (y : Read job.Opened) : Type 0 where
  pub noted : List ℕ
  pub opens : OpenedAs frame noted 0 y O.Yes x.target x.function x.before x.cache
  pub alike : Alike x.frame noted
  pub noted-ok : FrameOk noted
  pub ok : FrameOk x.frame

first : (frame : List ℕ) → FrameOk frame → (x : Opening) (y : Read job.Opened) → (y ≡ refused 0 → ⊥)
    → FormulaBy frame x.frame 0 y 0 x.target x.function x.before x.cache → First frame x y
first frame ok x (refused k) nz g = absurd (nz (ap refused (sym g.0)))
first frame ok x (got z r) nz g =
    let w = g.6 in
    let n : slots_of x.frame ≡ z.function.slots = w.one.rest 3 (λ e. omega arith) ∙ w.slots.slots in
    let fine : FrameOk w.noted = slots-ok frame z.function.slots w.noted ok (omega (arith, n, g.7.slots)) w.slots in
    record {
      noted = w.noted;
      opens = (refl, g.1, g.2, g.3, g.4, alike-in x.frame w.noted x.function x.cache (w.one.rest 2 (λ e. omega arith)) g.5, w.slots, fine);
      alike = w.one.rest;
      noted-ok = fine;
      ok = g.7;
    }

-- ---- all of them
abbrev with_frame : List ℕ → Opening → Opening
with_frame b x =
    record { share = x.share; kept = x.kept; job = x.job; before = x.before; target = x.target; function = x.function; cache = x.cache; frame = b }

pub record Others (b : List ℕ) (i : ℕ) (frame : List ℕ) (l : List Opening) : Type 0 where
  pub opens : claim.OpenedFrom i b (map (with_frame b) l)
  pub stays : frame_after b (map (with_frame b) l) ≡ b
  pub alike : Alike (frame_after frame l) b
  pub ok : FrameOk (frame_after frame l)

others : (b : List ℕ) (i : ℕ) (frame : List ℕ) (l : List Opening) → FrameOk b → Alike frame b → FrameOk frame → OpenedFrom (suc i) frame l → Others b (suc i) frame l
others b i frame [] okb alike ok h = record { opens = tt; stays = refl; alike = alike; ok = ok }
others b i frame (x ∷ l) okb alike ok h =
    let g = h.0 ok in
    let same = same-opened frame b (suc i) x.kept x.job (alike 3 (λ e. omega arith)) in
    let s : Later b (suc i) x (opened_in frame (suc i) x.kept x.job) =
    later frame b (suc i) (λ e. omega (arith, e)) alike okb x (opened_in frame (suc i) x.kept x.job) (of-opened-in frame (suc i) x.kept x.job)
    (answered-0 (opens_next frame (suc i)) frame x.frame (suc i) (opened_in frame (suc i) x.kept x.job) g.0 x.target g.1 x.function x.before x.cache g.2) in
    let rest = others b (suc i) x.frame l okb s.alike s.ok h.1 in
    record {
      opens = (λ _. subst (λ (y : Read job.Opened). OpenedAs b b (suc i) y O.Yes x.target x.function x.before x.cache) same s.opens, rest.opens);
      stays = rest.stays;
      alike = rest.alike;
      ok = rest.ok;
    }

-- ---- what stays of the openings where their frames are others
formulas-stay : (b : List ℕ) (l : List Opening) → formulas_of (map (with_frame b) l) ≡ formulas_of l
formulas-stay b [] = refl
formulas-stay b (x ∷ l) = ap (λ (y : List Inlined). inlined_of x ∷ y) (formulas-stay b l)

shares-stay : (b : List ℕ) (l : List Opening) → shares_of (map (with_frame b) l) ≡ shares_of l
shares-stay b [] = refl
shares-stay b (x ∷ l) = ap (λ (y : List ℕ). x.share ∷ y) (shares-stay b l)

opening-stays : (b : List ℕ) (l : List Opening) (i : ℕ) → with_frame b (get_or (map (with_frame b) l) i no_opening) ≡ with_frame b (get_or l i no_opening)
opening-stays b [] i = refl
opening-stays b (x ∷ l) zero = refl
opening-stays b (x ∷ l) (suc i) = opening-stays b l i

-- 0 is answered of shares that may be, and of no others
shares-sure : (limit : ℕ) (shares : List ℕ) → first_of (share_conditions limit shares) ≡ some 0 → ⊥
unfolding share_conditions first_of
shares-sure limit shares e =
    let z : 1 ≤ 0 =
    from_one (or (eqb (length shares) 0) (ltb 16 (length shares))) 2 0 _ (omega arith)
    (from_one (ltb 2048 limit) 2 0 _ (omega arith) (from_one (ltb limit (sum_of shares)) 23 0 _ (omega arith) (λ z. absurd (let q : ◌≡◌ {A = ℕ} 0 1 = cc in omega arith))))
    e in
    omega (arith, z)

frame_opened : (limit : ℕ) (shares before frame : List ℕ) → FrameBy limit shares (first_of (share_conditions limit shares)) 0 before frame → FrameAs limit shares F.Yes before frame
frame_opened limit shares before frame h = go (first_of (share_conditions limit shares)) refl h
  where
    go : (o : Option ℕ) → first_of (share_conditions limit shares) ≡ o → FrameBy limit shares o 0 before frame → FrameAs limit shares F.Yes before frame
    go (some k) e h = absurd (shares-sure limit shares (e ∙ ap some (sym h.0)))
    go none e h = (e, h.1)

pub frame-begun : (limit : ℕ) (before frame : List ℕ) (l : List Opening) → OpenedAll limit before frame l
    → Begun (targets_of l) (functions_of l) limit (formulas_of l) (frame_after frame l) (caches_of l)
unfolding share_conditions first_of
frame-begun limit before frame [] o = absurd (let e = (frame_opened limit [] before frame o.opens).0 in let z : ◌≡◌ {A = ℕ} 0 1 = cc in omega arith)
frame-begun limit before frame (x ∷ l) o = all
  where
    given : FrameAs limit (shares_of (x ∷ l)) F.Yes before frame
    given = frame_opened limit (shares_of (x ∷ l)) before frame o.opens

    fine : FrameOk frame
    fine = filled_ok limit (shares_of (x ∷ l)) frame given.0 given.1

    one : First frame x (opened_in frame 0 x.kept x.job)
    one =
        let g = o.formulas.0 fine in
        first frame fine x (opened_in frame 0 x.kept x.job) (of-opened-in frame 0 x.kept x.job)
        (answered-0 (opens_next frame 0) frame x.frame 0 (opened_in frame 0 x.kept x.job) g.0 x.target g.1 x.function x.before x.cache g.2)

    b : List ℕ
    b = one.noted

    rest : Others b 1 x.frame l
    rest = others b 0 x.frame l one.noted-ok one.alike one.ok o.formulas.1

    -- the same openings over the frames that `frame_claim` has
    known : claim.Begins limit frame (map (with_frame b) (x ∷ l))
    known =
        openings-begin limit before frame (map (with_frame b) (x ∷ l))
        (record {
          opens = subst (λ (y : List ℕ). FrameAs limit y F.Yes before frame) (sym (shares-stay b (x ∷ l))) given;
          formulas = (λ _. one.opens, rest.opens);
        })

    stay : formulas_of (map (with_frame b) (x ∷ l)) ≡ formulas_of (x ∷ l)
    stay = formulas-stay b (x ∷ l)

    holds : Holds b (opened limit (formulas_of (x ∷ l)))
    holds =
        subst (λ (y : List Inlined). Holds b (opened limit y)) stay
        (subst (λ (y : List ℕ). Holds y (opened limit (formulas_of (map (with_frame b) (x ∷ l))))) rest.stays known.begun.holds)

    few : (opened limit (formulas_of (x ∷ l))).number ≤ 16
    few = let n = holds.number in let m = one.noted-ok.number in omega (arith, n, m)

    at : (i : ℕ) → with_frame b (get_or (map (with_frame b) (x ∷ l)) i no_opening) ≡ with_frame b (get_or (x ∷ l) i no_opening)
    at i = opening-stays b (x ∷ l) i

    long : length (formulas_of (map (with_frame b) (x ∷ l))) ≡ length (formulas_of (x ∷ l))
    long = ap (λ (y : List Inlined). length y) stay

    all : Begun (targets_of (x ∷ l)) (functions_of (x ∷ l)) limit (formulas_of (x ∷ l)) (frame_after frame (x ∷ l)) (caches_of (x ∷ l))
    all = record {
      opens = ap (λ (y : List Inlined). open_refusal limit y) (sym stay) ∙ known.begun.opens;
      holds = alike-holds (frame_after x.frame l) b (opened limit (formulas_of (x ∷ l))) few rest.alike holds;
      ok = rest.ok;
      target = λ i h.
          ap (λ (y : List Inlined). (get_or y i no_formula).target) (sym stay) ∙ known.begun.target i (omega (arith, long, h)) ∙ ap (λ (y : Opening). reg_info_of y.target) (at i);
      function = λ i h.
          ap (λ (y : List Inlined). (get_or y i no_formula).function) (sym stay) ∙ known.begun.function i (omega (arith, long, h)) ∙ ap (λ (y : Opening). function_of y.function) (at i);
      checked = λ i h. subst (λ (y : Opening). Checked y.target y.function) (at i) (known.begun.checked i (omega (arith, long, h)));
      fresh = λ i h. subst (λ (y : Opening). Fresh y.cache) (at i) (known.begun.fresh i (omega (arith, long, h)));
    }
