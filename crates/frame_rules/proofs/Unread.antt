-- L is read by none of demand 3's definitions: what is right of a function is right of it with another L.
use Prim.Native.Nat.{ℕ}
use mathlib.Core.Path.{◌≡◌, refl, sym, ap, ◌∙◌}
use mathlib.Core.List.{List, [], ◌∷◌}
use mathlib.Core.Option.{Option, none, some}
use lib.ListN.{take}
use Rattle.reginfo.specs.RegInfo.{RegInfo}
use Rattle.function.specs.Function.{Function, value_bank, remat_cost, remat_class}
use Rattle.rules.specs.Edit.{Edit, Move, Rematerialize, EmergencySpill, EmergencyReload, and_then}
use Rattle.rules.specs.Patch.{Entry, move, remat, Patch, Sorted, nothing_sorted, add, sorted_from, sorted, Answer, refused, resolved}
use Rattle.rules.specs.Refusals.{with_limit}
use Rattle.machine.specs.Machine.{Memory, Machine, Waiting, begin, read, write, fits, step, steps, counted}
use Rattle.machine.specs.Claim.{Holding, Stopped, Finished, Right, Keeps, Accepted, Answered}

module _ (t : RegInfo) (f : Function) (l : ℕ) where
  abbrev F : Function
  F = with_limit t f l

  pub add_same : (e : Entry) (a : Sorted) → add t f e a ≡ add t F e a
  unfolding add value_bank remat_cost remat_class
  add_same (move s d v) a = refl
  add_same (remat d v) a = refl

  pub sorted-same : (es : List Entry) (a : Sorted) → sorted_from t f es a ≡ sorted_from t F es a
  unfolding sorted_from
  sorted-same [] a = refl
  sorted-same (e ∷ es) a = ap (sorted_from t f es) (add_same e a) ∙ sorted-same es (add t F e a)

  counted_same : (ws : List Waiting) (m : Memory) → counted t f ws m ≡ counted t F ws m
  unfolding counted write
  counted_same [] m = refl
  counted_same (w ∷ ws) m = rw (counted_same ws m) refl

  step_same : (content : ℕ → List ℕ) (e : Edit) (s : Machine) → step t f content e s ≡ step t F content e s
  unfolding step read write fits remat_cost remat_class
  step_same content (Move to from v) s = refl
  step_same content (Rematerialize to v) s = refl
  step_same content (EmergencySpill x r) s = refl
  step_same content (EmergencyReload r x) s = refl

  then_same : {A B : Type 0} (o : Option A) (g h : A → Option B) → ((a : A) → g a ≡ h a) → and_then o g ≡ and_then o h
  unfolding and_then
  then_same none g h e = refl
  then_same (some a) g h e = e a

  steps-same : (content : ℕ → List ℕ) (es : List Edit) (s : Machine) → steps t f content es s ≡ steps t F content es s
  unfolding steps
  steps-same content [] s = refl
  steps-same content (e ∷ es) s = ap (λ o. and_then o (steps t f content es)) (step_same content e s) ∙ then_same (step t F content e s) _ _ (steps-same content es)

  module _ (p : Patch) (content : ℕ → List ℕ) where
    abbrev a-same : sorted t f p ≡ sorted t F p
    a-same = sorted-same p.entries nothing_sorted

    holding-same : (start : Memory) → Holding t f p content start → Holding t F p content start
    unfolding read
    holding-same start h i il = rw (← a-same) (h i (rw a-same il))

    stopped-same : (start : Memory) (s : Machine) → Stopped t F p content start s → Stopped t f p content start s
    unfolding read
    stopped-same start s h =
        record {
          units = rw (counted_same s.waiting s.memory) h.units;
          slots = rw (counted_same s.waiting s.memory) h.slots;
          survives = rw (counted_same s.waiting s.memory, a-same) h.survives;
        }

    finished-same : (s : Machine) → Finished t F p content s → Finished t f p content s
    unfolding read
    finished-same s h = record { entries = h.entries; none-waits = h.none-waits }

    keeps_same : (es : List Edit) → Keeps t F p content es → Keeps t f p content es
    keeps_same es h start hold k s e = h start (holding-same start hold) k s (sym (steps-same content (take k es) (begin start)) ∙ e)

    right-same : (es : List Edit) → Right t F p content es → Right t f p content es
    right-same es h start hold =
        let r = h start (holding-same start hold) in
        record {
          stops = λ k. let y = r.stops k in (y.0, steps-same content (take k es) (begin start) ∙ y.1, stopped-same start y.0 y.2);
          ends = let y = r.ends in (y.0, steps-same content es (begin start) ∙ y.1, finished-same y.0 y.2);
        }

  accepted-same : (p : Patch) (es : List Edit) → Accepted t F p es → Accepted t f p es
  unfolding value_bank
  accepted-same p es h = record { right = λ content whole. right-same p content es (h.right content whole); few = rw (sorted-same p.entries nothing_sorted) h.few; saved = λ content whole. keeps_same p content es (h.saved content whole) }

  pub answered-same : (p : Patch) (r : Answer) → Answered t F p r → Answered t f p r
  answered-same p (refused n) h = tt
  answered-same p (resolved es c n) h = accepted-same p es h
