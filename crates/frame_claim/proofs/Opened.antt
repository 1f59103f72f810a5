-- From the openings to a frame of the rules.
use Prim.Native.Nat.{ℕ, zero, suc, ◌<◌, ◌≤◌}
use mathlib.Core.Path.{◌≡◌, refl, sym, ap, subst, ◌∙◌}
use mathlib.Core.Bool.{Bool, true, false}
use mathlib.Core.List.{List, [], ◌∷◌, map}
use mathlib.Core.Option.{Option, none, some}
use native.Mathlib.Omega.{arith}
use lib.Dec.{eqb, ltb}
use lib.ListN.{length, get_or, length-map}
use borrow.Author.Tests.{eq-eqb, ne_eqb}
use Rattle.entity.specs.Logic.{pick, no}
use Rattle.reginfo.specs.RegInfo.{RegInfo}
use Rattle.reginfo.specs.Refused.{or_else, first_of, target_refusal}
use Rattle.reginfo.specs.Table.{reg_info_of}
use Rattle.function.specs.Function.{Function, is_setting}
use Rattle.function.specs.Refused.{function_refusal}
use Rattle.function.specs.Known.{Checked}
use Rattle.function.specs.Table.{function_of}
use Rattle.slots.specs.Steps.{Fresh}
use Rattle.slots.proofs.Stamps.{fresh-cleared}
use Rattle.number.specs.Read.{Read, got, refused, then}
use Rattle.job_target.specs.Target.{target}
use Rattle.job_function.specs.Reads.{function_within}
use Rattle.job_function.proofs.Accepted.{then-got, read-within}
use Rattle.job_patch.specs.Patches.{unless_given}
use Rattle.job_rules.specs.Job as job
use Rattle.job_rules.specs.Job.{with_function, beginning}
use Rattle.job_rules.specs.Formula.{with_function_within, beginning_within}
use Rattle.calls.specs.declared.Opened.TheVariants as O
use Rattle.calls.specs.Opening as alone
use Rattle.calls.specs.Opening.{ended}
use Rattle.frame_rules.specs.Frame.{Inlined, no_formula, frame_conditions, formula_refusal, formulas_refusal, first_slots, open_refusal, Frame, opened}
use Rattle.frame_table.specs.Table.{slots_of}
use Rattle.frame_table.specs.Steps.{SlotsSet}
use Rattle.frame_table.specs.Opening.{share_conditions, Filled}
use Rattle.frame_table.specs.Held.{Holds, FrameOk}
use Rattle.frame_table.proofs.Held.{same-conditions, opened-holds, filled_ok}
use Rattle.frame_calls.specs.Given.{least_of, most_of, opened_in, NotedIf, SlotsNoted, OpenedAs}
use Rattle.frame_calls.proofs.Opening.{least_other, most_other, most-low}
use Rattle.frame_claim.specs.Opening.{Opening, no_opening, target_read, function_read, inlined_of, formulas_of, targets_of, functions_of, caches_of, frame_after, OpenedFrom, Begins, OpeningsBegin, SharedFromOpenings}
use Rattle.frame_claim.proofs.Claimed.{shared-frame}

-- ---- what is read with N within limits is read alone, and has such an N
module _ (least most : ℕ) where
  abbrev Slots : job.Opened → Type 0
  Slots x = (least ≤ x.function.slots) × (x.function.slots ≤ most)

  -- what x reads y reads, with such an N
  abbrev Reads : Read job.Opened → Read job.Opened → Type 0
  Reads x y = (a : job.Opened) (r : List ℕ) → x ≡ got a r → (y ≡ got a r) × Slots a

  reads_nothing : (k : ℕ) (y : Read job.Opened) → Reads (refused k) y
  reads_nothing k y a r e = absurd (let z : ◌≡◌ {A = ℕ} 0 1 = cc in omega arith)

  reads_then : {A : Type 0} (x : Read A) (v w : A → List ℕ → Read job.Opened) → ((a : A) (q : List ℕ) → Reads (v a q) (w a q)) → Reads (then x v) (then x w)
  reads_then (got a q) v w h = h a q
  reads_then (refused k) v w h = reads_nothing k (refused k)

  reads-given : (o : Option ℕ) (x y : Read job.Opened) → Reads x y → Reads (unless_given o x) (unless_given o y)
  reads-given none x y h = h
  reads-given (some k) x y h = reads_nothing k (refused k)

  reads-unless : (b : Bool) (k : ℕ) (x y : Read job.Opened) → Reads x y → Reads (pick b (refused k) x) (pick b (refused k) y)
  reads-unless true k x y h = reads_nothing k (refused k)
  reads-unless false k x y h = h

  module _ (few : most ≤ 4096) (kept : ℕ) where
    function-alone : (t : RegInfo) (q : List ℕ) → Reads (with_function_within least most t kept q) (with_function t kept q)
    unfolding with_function_within with_function
    function-alone t q a r e =
        let p = then-got (function_within least most t kept q) (λ f q. got (record { target = t; function = f }) q) a r e in
        let z = (read-within least most few t kept q p.0 p.1).0 p.2 in
        let g = p.3 in
        let is : record { target = t; function = p.0 } ≡ a = cc in
        let n : p.0.slots ≡ a.function.slots = ap (λ (y : job.Opened). y.function.slots) is in
        (rw z.0 g, (omega (arith, n, z.1), omega (arith, n, z.2)))

    beginning-alone : (l : List ℕ) → Reads (beginning_within true least most kept l) (beginning kept l)
    unfolding beginning_within beginning
    beginning-alone l =
        reads-unless (no (is_setting kept)) 22 _ _
        (reads-unless (ltb 65536 (length l)) 2 _ _
        (reads_then (target l) (λ t r. unless_given (target_refusal t) (with_function_within least most t kept r)) (λ t r. unless_given (target_refusal t) (with_function t kept r))
        (λ t r. reads-given (target_refusal t) (with_function_within least most t kept r) (with_function t kept r) (function-alone t r))))

ended_is : (x : job.Opened) (q : List ℕ) (a : job.Opened) (r : List ℕ) → ended x q ≡ got a r → (x ≡ a) × (r ≡ [])
ended_is x [] a r e = let p : x ≡ a = cc in let q : [] ≡ r = cc in (p, sym q)
ended_is x (b ∷ q) a r e = absurd (let z : ◌≡◌ {A = ℕ} 0 1 = cc in omega arith)

opened-alone : (frame : List ℕ) (i kept : ℕ) (l : List ℕ) → FrameOk frame → (a : job.Opened) (r : List ℕ) → opened_in frame i kept l ≡ got a r
    → (alone.opened kept l ≡ got a []) × (least_of frame i ≤ a.function.slots) × (a.function.slots ≤ most_of frame i)
unfolding opened_in alone.opened
opened-alone frame i kept l ok a r e =
    let p = then-got (beginning_within true (least_of frame i) (most_of frame i) kept l) (λ x q. ended x q) a r e in
    let z = beginning-alone (least_of frame i) (most_of frame i) (most-low frame i ok) kept l p.0 p.1 p.2 in
    let is = ended_is p.0 p.1 a r p.3 in
    let n : p.0.function.slots ≡ a.function.slots = ap (λ (y : job.Opened). y.function.slots) is.0 in
    let g : ended p.0 p.1 ≡ got a [] = p.3 ∙ ap (λ (q : List ℕ). got a q) is.1 in
    (rw z.0 g, omega (arith, n, z.1.0), omega (arith, n, z.1.1))

-- ---- one formula
pub record Joined (x : Opening) : Type 0 where
  pub read : alone.opened x.kept x.job ≡ got (record { target = reg_info_of x.target; function = function_of x.function }) []
  pub checked : Checked x.target x.function
  pub fresh : Fresh x.cache

module _ (x : Opening) (j : Joined x) where
  target_is : (inlined_of x).target ≡ reg_info_of x.target
  target_is = ap target_read j.read

  function-is : (inlined_of x).function ≡ function_of x.function
  function-is = ap function_read j.read

  accepted : function_refusal (inlined_of x).target (inlined_of x).function ≡ none
  accepted = rw (target_is, function-is) j.checked.function

  -- an accepted function has a setting of 1 or 2
  setting : no (is_setting (inlined_of x).function.kept) ≡ false
  unfolding function_refusal
  setting = first (no (is_setting (inlined_of x).function.kept)) _ accepted
    where
      first : (b : Bool) (o : Option ℕ) → or_else b 22 o ≡ none → b ≡ false
      first true o e = absurd (let z : ◌≡◌ {A = ℕ} 0 1 = cc in omega arith)
      first false o e = refl

  not-refused : (n : ℕ) → (function_of x.function).slots ≡ n → formula_refusal n (inlined_of x) ≡ none
  unfolding formula_refusal
  not-refused n e =
      let t : target_refusal (inlined_of x).target ≡ none = rw target_is j.checked.target in
      let s : eqb (inlined_of x).function.slots n ≡ true = eq-eqb (inlined_of x).function.slots n (ap (λ (y : Function). y.slots) function-is ∙ e) in
      rw (setting, t, s) accepted

-- what the contract of `open_in` says of one that answered Yes
module _ (frame : List ℕ) (i : ℕ) (x : Opening) (k : FrameOk frame) where
  pub record Went : Type 0 where
    pub joined : Joined x
    pub least : least_of frame i ≤ (function_of x.function).slots
    pub most : (function_of x.function).slots ≤ most_of frame i
    pub noted : SlotsNoted frame i (function_of x.function).slots x.frame
    pub ok : FrameOk x.frame

  went : OpenedAs frame x.frame i (opened_in frame i x.kept x.job) O.Yes x.target x.function x.before x.cache → Went
  went h = go (opened_in frame i x.kept x.job) refl h
    where
      go : (y : Read job.Opened) → opened_in frame i x.kept x.job ≡ y → OpenedAs frame x.frame i y O.Yes x.target x.function x.before x.cache → Went
      go (refused n) e h = let w = h.0 in absurd (let z : ◌≡◌ {A = ℕ} 0 1 = cc in omega arith)
      go (got a r) e h =
          let p = opened-alone frame i x.kept x.job k a r e in
          let is : a ≡ record { target = reg_info_of x.target; function = function_of x.function } = rw (h.1, h.2) refl in
          let n : a.function.slots ≡ (function_of x.function).slots = ap (λ (y : job.Opened). y.function.slots) is in
          record {
            joined = record { read = p.0 ∙ ap (λ (y : job.Opened). got y []) is; checked = h.3; fresh = fresh-cleared x.cache h.4 };
            least = omega (arith, n, p.1);
            most = omega (arith, n, p.2);
            noted = subst (λ (m : ℕ). SlotsNoted frame i m x.frame) n h.6;
            ok = h.7;
          }

-- ---- the others: all have the first one's N, and the frame stays
pub record Others (n : ℕ) (frame : List ℕ) (l : List Opening) : Type 0 where
  pub accepted : formulas_refusal n (formulas_of l) ≡ none
  pub frame_is : frame_after frame l ≡ frame
  pub each : (j : ℕ) → j < length l → Joined (get_or l j no_opening)

others : (i : ℕ) (frame : List ℕ) (l : List Opening) → FrameOk frame → OpenedFrom (suc i) frame l → Others (slots_of frame) frame l
unfolding formulas_refusal
others i frame [] k h = record { accepted = refl; frame_is = refl; each = λ j g. absurd (omega (arith, g)) }
others i frame (x ∷ l) k h =
    let w = went frame (suc i) x k (h.0 k) in
    let later : suc i ≡ 0 → ⊥ = λ z. absurd (omega (arith, z)) in
    let same : x.frame ≡ frame = subst (λ (b : Bool). NotedIf b frame (function_of x.function).slots x.frame) (ne_eqb (suc i) 0 later) w.noted in
    let rest = others (suc i) frame l k (subst (λ (y : List ℕ). OpenedFrom (suc (suc i)) y l) same h.1) in
    let n : (function_of x.function).slots ≡ slots_of frame = omega (arith, w.least, w.most, least_other frame (suc i) later, most_other frame (suc i) later) in
    record {
      accepted = rw (not-refused x w.joined (slots_of frame) n) rest.accepted;
      frame_is = ap (λ (y : List ℕ). frame_after y l) same ∙ rest.frame_is;
      each = λ j g. at j w.joined rest.each g;
    }
  where
    at : (j : ℕ) → Joined x → ((m : ℕ) → m < length l → Joined (get_or l m no_opening)) → j < suc (length l) → Joined (get_or (x ∷ l) j no_opening)
    at zero a b g = a
    at (suc j) a b g = b j (omega (arith, g))

-- the first one's N leaves the rest of the table
noted-holds : (frame frame' : List ℕ) (n : ℕ) (s : Frame) → SlotsSet frame n frame' → Holds frame s → Holds frame' s
noted-holds frame frame' n s w h =
    record {
      number = w.number ∙ h.number;
      limit = w.limit ∙ h.limit;
      counter = w.counter ∙ h.counter;
      share = λ j g. w.share j ∙ h.share j g;
      made = λ j g. w.made j ∙ h.made j g;
    }

-- ---- all of them
shares-are : (l : List Opening) → map (λ (x : Inlined). x.share) (formulas_of l) ≡ map (λ (x : Opening). x.share) l
shares-are [] = refl
shares-are (x ∷ l) = ap (λ (y : List ℕ). x.share ∷ y) (shares-are l)

formula-at : (l : List Opening) (i : ℕ) → i < length l → get_or (formulas_of l) i no_formula ≡ inlined_of (get_or l i no_opening)
formula-at [] i h = absurd (omega (arith, h))
formula-at (x ∷ l) zero h = refl
formula-at (x ∷ l) (suc i) h = formula-at l i (omega (arith, h))

pub openings-begin : OpeningsBegin
unfolding share_conditions first_of open_refusal formulas_refusal first_slots
openings-begin limit before frame [] o = absurd (let e = o.opens.0 in let z : ◌≡◌ {A = ℕ} 0 1 = cc in omega arith)
openings-begin limit before frame (x ∷ l) o = all
  where
    first : Went frame 0 x (filled_ok limit (map (λ (x : Opening). x.share) (x ∷ l)) frame o.opens.0 o.opens.1)
    first = went frame 0 x _ (o.formulas.0 (filled_ok limit (map (λ (x : Opening). x.share) (x ∷ l)) frame o.opens.0 o.opens.1))

    set : SlotsSet frame (function_of x.function).slots x.frame
    set = first.noted

    rest : Others (slots_of x.frame) x.frame l
    rest = others 0 x.frame l first.ok o.formulas.1

    joined : (i : ℕ) → i < length (x ∷ l) → Joined (get_or (x ∷ l) i no_opening)
    joined zero h = first.joined
    joined (suc i) h = rest.each i (omega (arith, h))

    n-is : slots_of x.frame ≡ (inlined_of x).function.slots
    n-is = set.slots ∙ sym (ap (λ (y : Function). y.slots) (function-is x first.joined))

    none-refused : first_of (frame_conditions limit (formulas_of (x ∷ l))) ≡ none
    none-refused = ap first_of (sym (same-conditions limit (formulas_of (x ∷ l)))) ∙ ap (λ (y : List ℕ). first_of (share_conditions limit y)) (shares-are (x ∷ l)) ∙ o.opens.0

    many : length (formulas_of (x ∷ l)) ≡ length (x ∷ l)
    many = length-map (x ∷ l) inlined_of

    opens-all : open_refusal limit (formulas_of (x ∷ l)) ≡ none
    opens-all =
        let a : formula_refusal (inlined_of x).function.slots (inlined_of x) ≡ none = not-refused x first.joined _ (sym set.slots ∙ n-is) in
        let b : formulas_refusal (inlined_of x).function.slots (formulas_of l) ≡ none = subst (λ (n : ℕ). formulas_refusal n (formulas_of l) ≡ none) n-is rest.accepted in
        rw (none-refused, a, b) refl

    holds-all : Holds (frame_after x.frame l) (opened limit (formulas_of (x ∷ l)))
    holds-all =
        subst (λ (y : List ℕ). Holds y (opened limit (formulas_of (x ∷ l)))) (sym rest.frame_is)
        (noted-holds frame x.frame _ _ set (opened-holds limit (formulas_of (x ∷ l)) frame (subst (λ (y : List ℕ). Filled limit y frame) (sym (shares-are (x ∷ l))) o.opens.1)))

    all : Begins limit frame (x ∷ l)
    all = record {
      begun = record {
        opens = opens-all;
        holds = holds-all;
        ok = subst FrameOk (sym rest.frame_is) first.ok;
        target = λ i h. ap (λ (y : Inlined). y.target) (formula-at (x ∷ l) i (omega (arith, many, h))) ∙ target_is _ (joined i (omega (arith, many, h)));
        function = λ i h. ap (λ (y : Inlined). y.function) (formula-at (x ∷ l) i (omega (arith, many, h))) ∙ function-is _ (joined i (omega (arith, many, h)));
        checked = λ i h. (joined i (omega (arith, many, h))).checked;
        fresh = λ i h. (joined i (omega (arith, many, h))).fresh;
      };
      read = λ i h. (joined i h).read;
    }

-- of every list of calls after such openings
pub shared-frame-from-openings : SharedFromOpenings
shared-frame-from-openings limit before frame l o calls n c =
    let many : length (formulas_of l) ≡ length l = length-map l inlined_of in
    shared-frame (targets_of l) (functions_of l) limit (formulas_of l) (frame_after frame l) (caches_of l) (openings-begin limit before frame l o).begun calls (rw many n) c
