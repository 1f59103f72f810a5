-- The code's parts, put together, are the rules' answer.
use Prim.Native.Nat.{ℕ, zero, suc, ◌+◌, ◌<◌, ◌≤◌}
use mathlib.Core.Path.{◌≡◌, refl, sym, ap, ap₂, ◌∙◌}
use mathlib.Core.Bool.{Bool, true, false, false≢true}
use mathlib.Core.List.{List, [], ◌∷◌, ◌++◌, map}
use mathlib.Core.Option.{Option, none, some}
use mathlib.Core.Logic.{◌⊎◌, inl, inr, ⊎_elim}
use native.Mathlib.Omega.{arith}
use lib.Dec.{eqb}
use lib.ListN.{length}
use borrow.Author.Tests.{eqb-true, eqb-false, eq-eqb, ne_eqb, le-ltb}
use Rattle.entity.specs.Logic.{pick, and, or, no, any_in, all_in, has, indices}
use Rattle.entity.specs.Place.{Place, reg, slot, same_place}
use Rattle.reginfo.specs.RegInfo.{RegInfo, place_units, is_memory, in_class}
use Rattle.reginfo.specs.Refused as target
use Rattle.reginfo.specs.Refused.{Condition, refused_if, first_of, or_else}
use Rattle.function.specs.Function.{Function, can_rematerialize, remat_class}
use Rattle.rules.specs.Edit.{Edit, Move, Rematerialize, EmergencySpill, EmergencyReload, and_then}
use Rattle.rules.specs.Scratch.{units_of_reg}
use Rattle.rules.specs.Order.{KeptMove}
use Rattle.rules.specs.Patch.{Entry, Patch, nothing_sorted, sorted, bound, free_destination, last_overlaps, patch_conditions}
use Rattle.rules.specs.Refusals.{entries_conditions}
use Rattle.machine.specs.Machine.{Memory, Machine, begin, without, wrote, read, fits, step, steps, in_slot}
use Rattle.machine.specs.Claim.{entry_dest, entry_value}
use Rattle.machine.proofs.Entries.{ends-are, dests-are}
use Rattle.machine.proofs.Premises.{reg-low}
use Rattle.small_set.specs.Set.{set_of}
use Rattle.sparse.specs.Map.{known}
use Rattle.entries.specs.Known.{is_written, Tracked}
use Rattle.entries.proofs.Writers.{writer-known}
use Rattle.edit.specs.Word.{edit_of, word_of}
use Rattle.edit.specs.Buffer.{or_edit}
use Rattle.examine_rules.specs.Examine as rule
use Rattle.examine_rules.specs.Examine.{same_words, is_dest_unit, is_dest_slot, named, generic_content, generic_start, no_start, ends_right, judged, examine, patch_refusal}
use Rattle.examine_rules.specs.Words.{only_if, edit_in, in_front_of, edits_in, examine_edits, examine_words, examine_patch}
use Rattle.examine_words.specs.Named.{named_if, named_in}
use Rattle.examine_run.specs.Ran.{memory_in, edit_at, stepped, ran}
use Rattle.examine.specs.Ends.{wrongly, some_wrong, unit_stays, slot_stays}

-- ---- words
only-is : (o : Option Edit) (w : ℕ) (e : Edit) → only_if o w ≡ some e → or_edit o ≡ e
unfolding only_if
only-is none w e h = let z : ◌≡◌ {A = ℕ} 0 1 = cc in absurd (omega arith)
only-is (some x) w e h = go (eqb (word_of x) w) h
  where
    go : (b : Bool) → pick b (some x) none ≡ some e → x ≡ e
    go true h = cc
    go false h = let z : ◌≡◌ {A = ℕ} 0 1 = cc in absurd (omega arith)

module _ (t : RegInfo) (f : Function) (most : ℕ) where
  abbrev Words : List ℕ → Type 0
  Words ws = ((edits_in ws ≡ none) × (all_in (named_in t f most) ws ≡ false)) ⊎ ((edits_in ws ≡ some (map edit_at ws)) × (all_in (named_in t f most) ws ≡ all_in (named t f most) (map edit_at ws)))

  and_no : (a b : Bool) → b ≡ false → and a b ≡ false
  and_no true b h = h
  and_no false b h = refl

  words : (ws : List ℕ) → Words ws
  unfolding edits_in all_in named_in
  words [] = inr (refl, refl)
  words (w ∷ ws) = go (edit_in w) refl (words ws)
    where
      go : (o : Option Edit) → edit_in w ≡ o → Words ws → Words (w ∷ ws)
      go none e r = inl (ap (λ (o : Option Edit). in_front_of o (edits_in ws)) e, ap (λ (o : Option Edit). and (named_if t f most o) (all_in (named_in t f most) ws)) e)
      go (some x) e (inl r) = inl (ap₂ in_front_of e r.0, and_no (named_if t f most (edit_in w)) _ r.1)
      go (some x) e (inr r) =
          let is : edit_at w ≡ x = only-is (edit_of w) w x e in
          inr (ap₂ in_front_of e r.0 ∙ ap (λ (y : Edit). some (y ∷ map edit_at ws)) (sym is), ap₂ and (ap (named_if t f most) e ∙ ap (named t f most) (sym is)) r.1)

  module _ (p : Patch) (ws : List ℕ) where
    pub answer-24 : all_in (named_in t f most) ws ≡ false → examine_words t f p most ws ≡ rule.Refused 24
    unfolding examine_words examine
    answer-24 h = ⊎_elim (λ r. ap (examine_edits t f p most) r.0) (λ r. ap (examine_edits t f p most) r.0 ∙ rw (sym r.1 ∙ h)) (words ws)

    -- all are named
    module _ (h : all_in (named_in t f most) ws ≡ true) where
      abbrev ms : List KeptMove
      ms = (sorted t f p).moves

      left : examine_words t f p most ws ≡ pick (no_start t f ms) rule.Yes (rule.judged_from t f p (map edit_at ws) (generic_content t f ms) (generic_start t f ms))
      unfolding examine_words examine
      left = ⊎_elim (λ r. absurd (false≢true (sym r.1 ∙ h))) (λ r. ap (examine_edits t f p most) r.0 ∙ rw (sym r.1 ∙ h)) (words ws)

      pub answer-no-start : no_start t f ms ≡ true → examine_words t f p most ws ≡ rule.Yes
      answer-no-start n = left ∙ rw n

      pub answer-start : no_start t f ms ≡ false → examine_words t f p most ws ≡ rule.judged_from t f p (map edit_at ws) (generic_content t f ms) (generic_start t f ms)
      answer-start n = left ∙ rw n

-- ---- the run
module _ (t : RegInfo) (f : Function) (g : ℕ → List ℕ) where
  when-same : (b : Bool) (s s' : Machine) → s.memory ≡ s'.memory → memory_in (pick b (some s) none) ≡ memory_in (pick b (some s') none)
  when-same true s s' e = ap some e
  when-same false s s' e = refl

  same_step : (e : Edit) (s : Machine) → memory_in (step t f g e s) ≡ stepped t f g e s.memory
  unfolding step stepped
  same_step (Move to from v) s =
      when-same (and (no (and (is_memory t to) (is_memory t from))) (fits t f to (length (read t f s.memory from)))) (wrote t f to (read t f s.memory from) s.waiting s)
      (wrote t f to (read t f s.memory from) [] (begin s.memory)) refl
  same_step (Rematerialize to v) s =
      when-same (and (can_rematerialize f v) (in_class t (remat_class f v) to)) (wrote t f to (g v) s.waiting s) (wrote t f to (g v) [] (begin s.memory)) refl
  same_step (EmergencySpill x r) s = refl
  same_step (EmergencyReload r x) s =
      when-same (fits t f (reg r) (length (in_slot s.memory x))) (wrote t f (reg r) (in_slot s.memory x) (without r s.waiting) s)
      (wrote t f (reg r) (in_slot s.memory x) (without r []) (begin s.memory)) refl

  pub ran-is : (ws : List ℕ) (s : Machine) → memory_in (steps t f g (map edit_at ws) s) ≡ ran t f g ws s.memory
  unfolding steps ran and_then
  ran-is [] s = refl
  ran-is (w ∷ ws) s = go (ran-is ws) (step t f g (edit_at w) s) refl
    where
      go : ((s : Machine) → memory_in (steps t f g (map edit_at ws) s) ≡ ran t f g ws s.memory) → (o : Option Machine) → step t f g (edit_at w) s ≡ o → memory_in (and_then o (steps t f g (map edit_at ws))) ≡ and_then (stepped t f g (edit_at w) s.memory) (ran t f g ws)
      go on none e = rw (sym (same_step (edit_at w) s) ∙ ap memory_in e)
      go on (some s') e = on s' ∙ sym (ap (λ (o : Option Memory). and_then o (ran t f g ws)) (sym (same_step (edit_at w) s) ∙ ap memory_in e))

judged-no : (t : RegInfo) (f : Function) (p : Patch) (g : ℕ → List ℕ) (start : Memory) (o : Option Machine) → memory_in o ≡ none → judged t f p g start o ≡ rule.No
judged-no t f p g start none h = refl
judged-no t f p g start (some s) h = let z : ◌≡◌ {A = ℕ} 0 1 = cc in absurd (omega arith)

judged-yes : (t : RegInfo) (f : Function) (p : Patch) (g : ℕ → List ℕ) (start m : Memory) (o : Option Machine) → memory_in o ≡ some m → judged t f p g start o ≡ pick (ends_right t f p g start m) rule.Yes rule.No
judged-yes t f p g start m none h = let z : ◌≡◌ {A = ℕ} 0 1 = cc in absurd (omega arith)
judged-yes t f p g start m (some s) h = let e : s.memory ≡ m = cc in ap (λ (x : Memory). pick (ends_right t f p g start x) rule.Yes rule.No) e

-- ---- the answers, by kept moves that are those of the patch
module _ (t : RegInfo) (f : Function) (most : ℕ) (p : Patch) (ws : List ℕ) (h : all_in (named_in t f most) ws ≡ true) (ms : List KeptMove) (q : ms ≡ (sorted t f p).moves) where
  abbrev content : ℕ → List ℕ
  content = generic_content t f ms

  abbrev start : Memory
  start = generic_start t f ms

  pub says-no-start : no_start t f ms ≡ true → examine_words t f p most ws ≡ rule.Yes
  says-no-start n = answer-no-start t f most p ws h (ap (no_start t f) (sym q) ∙ n)

  begun : no_start t f ms ≡ false → examine_words t f p most ws ≡ judged t f p content start (steps t f content (map edit_at ws) (begin start))
  begun n =
      answer-start t f most p ws h (ap (no_start t f) (sym q) ∙ n)
      ∙ ap (λ (l : List KeptMove). judged t f p (generic_content t f l) (generic_start t f l) (steps t f (generic_content t f l) (map edit_at ws) (begin (generic_start t f l)))) (sym q)

  pub says-not-done : no_start t f ms ≡ false → (m : Memory) → m ≡ start → ran t f content ws m ≡ none → examine_words t f p most ws ≡ rule.No
  says-not-done n m e r = begun n ∙ judged-no t f p content start (steps t f content (map edit_at ws) (begin start)) (ran-is t f content ws (begin start) ∙ ap (ran t f content ws) (sym e) ∙ r)

  pub says-done : no_start t f ms ≡ false → (m m' : Memory) → m ≡ start → ran t f content ws m ≡ some m' → (b : Bool) → ends_right t f p content start m' ≡ b → examine_words t f p most ws ≡ pick b rule.Yes rule.No
  says-done n m m' e r b k =
      begun n ∙ judged-yes t f p content start m' (steps t f content (map edit_at ws) (begin start)) (ran-is t f content ws (begin start) ∙ ap (ran t f content ws) (sym e) ∙ r) ∙ ap (λ (x : Bool). pick x rule.Yes rule.No) k

-- ---- how it ends
all_any : {A : Type 0} (q : A → Bool) (l : List A) → all_in q l ≡ no (any_in (λ x. no (q x)) l)
unfolding all_in any_in
all_any q [] = refl
all_any q (x ∷ l) = ap (and (q x)) (all_any q l) ∙ turn (q x) (any_in (λ x. no (q x)) l)
  where
    turn : (a b : Bool) → and a (no b) ≡ no (or (no a) b)
    turn true b = refl
    turn false b = refl

all-below : (p q : ℕ → Bool) (i n : ℕ) → ((k : ℕ) → k < i + n → p k ≡ q k) → all_in p (indices i n) ≡ all_in q (indices i n)
unfolding all_in indices
all-below p q i zero h = refl
all-below p q i (suc n) h = ap₂ and (h i (omega arith)) (all-below p q (i + 1) n (λ k l. h k (omega arith)))

any-alike : {A : Type 0} (p q : A → Bool) (l : List A) → ((x : A) → p x ≡ q x) → any_in p l ≡ any_in q l
unfolding any_in
any-alike p q [] h = refl
any-alike p q (x ∷ l) h = ap₂ or (h x) (any-alike p q l h)

same-shift : (n a b : ℕ) → eqb (n + a) (n + b) ≡ eqb a b
same-shift n a b = go (eqb a b) refl
  where
    go : (t : Bool) → eqb a b ≡ t → eqb (n + a) (n + b) ≡ t
    go true e = let h : a ≡ b = eqb-true a b e in eq-eqb (n + a) (n + b) (omega arith)
    go false e = let h : a ≡ b → ⊥ = eqb-false a b e in ne_eqb (n + a) (n + b) (λ q. h (omega arith))

or-none : (a : Bool) → or a false ≡ a
or-none true = refl
or-none false = refl

module _ (t : RegInfo) (f : Function) (ta : target.Accepted t) (p : Patch) (e w : List ℕ) (free : List Bool) (tr : Tracked t f (sorted t f p) e w) (fr : (u : ℕ) → has u p.free ≡ set_of free u) where
  written : (u : ℕ) → is_written w u ≡ any_in (λ (x : Entry). has u (place_units t (entry_dest x))) p.entries
  written u = ap (λ (g : ℕ → Option ℕ). known (g u)) tr.map ∙ writer-known t f (sorted t f p) u ∙ dests-are t f p (λ d. has u (place_units t d))

  unit-of : (u : ℕ) → u < 512 → (d : Place) → has u (place_units t d) ≡ has u (units_of_reg t f d)
  unfolding has
  unit-of u h (reg r) = refl
  unit-of u h (slot s) = ap (λ (b : Bool). or b false) (ne_eqb u (512 + s) (λ q. omega arith))

  slot_of : (x : ℕ) (d : Place) → has (512 + x) (place_units t d) ≡ same_place (slot x) d
  unfolding has
  slot_of x (reg r) = reg-low t f ta r x
  slot_of x (slot s) = or-none (eqb (512 + x) (512 + s)) ∙ same-shift 512 x s

  module _ (g : ℕ → List ℕ) (start m : Memory) where
    unit-same : (u : ℕ) → u < 512 → unit_stays start m w free u ≡ or (is_dest_unit t f p u) (or (has u p.free) (and (eqb (m.word u) (start.word u)) (same_words (m.lists u) (start.lists u))))
    unit-same u h =
        ap₂ (λ (a b : Bool). or a (or b (and (eqb (m.word u) (start.word u)) (same_words (m.lists u) (start.lists u)))))
        (written u ∙ any-alike _ _ p.entries (λ x. unit-of u h (entry_dest x))) (sym (fr u))

    slot_same : (x : ℕ) → slot_stays start m w x ≡ or (is_dest_slot t f p x) (same_words (in_slot m x) (in_slot start x))
    slot_same x = ap (λ (a : Bool). or a (same_words (in_slot m x) (in_slot start x))) (written (512 + x) ∙ any-alike _ _ p.entries (λ y. slot_of x (entry_dest y)))

    pub ends_so : and (no (some_wrong t f g m (sorted t f p))) (and (all_in (unit_stays start m w free) (indices 0 512)) (all_in (slot_stays start m w) (indices 0 f.slots))) ≡ ends_right t f p g start m
    unfolding ends_right
    ends_so =
        ap₂ and (ap no (ends-are t f (wrongly t f g m) p) ∙ sym (all_any (λ (x : Entry). same_words (read t f m (entry_dest x)) (g (entry_value x))) p.entries))
        (ap₂ and (all-below _ _ 0 512 (λ k l. unit-same k (omega arith))) (all-below _ _ 0 f.slots (λ k l. slot_same k)))

-- ---- the patch's own number
first-none : (l m : List Condition) → first_of l ≡ none → first_of (l ++ m) ≡ first_of m
unfolding first_of
first-none [] m h = refl
first-none (c ∷ l) m h = go (first-none l m) c.holds h
  where
    go : (first_of l ≡ none → first_of (l ++ m) ≡ first_of m) → (b : Bool) → or_else b c.number (first_of l) ≡ none → or_else b c.number (first_of (l ++ m)) ≡ first_of m
    go on true h = let z : ◌≡◌ {A = ℕ} 0 1 = cc in absurd (omega arith)
    go on false h = on h

module _ (t : RegInfo) (f : Function) (p : Patch) (none_of : first_of (entries_conditions t f p.entries nothing_sorted) ≡ none) (few : bound (sorted t f p) ≤ 1024) where
  pub refusal_is : patch_refusal t f p ≡ first_of (patch_conditions t f p 1024 (sorted t f p))
  unfolding patch_refusal patch_conditions
  refusal_is =
      first-none (entries_conditions t f p.entries nothing_sorted) _ none_of
      ∙ ap (λ (b : Bool). first_of (refused_if 13 (free_destination t f p (sorted t f p)) ∷ refused_if 14 (last_overlaps t f (sorted t f p)) ∷ refused_if 16 b ∷ [])) (le-ltb (bound (sorted t f p)) (bound (sorted t f p)) (omega arith) ∙ sym (le-ltb 1024 (bound (sorted t f p)) few))

  pub refused_as : (most n : ℕ) (ws : List ℕ) → some n ≡ first_of (patch_conditions t f p 1024 (sorted t f p)) → rule.Refused n ≡ examine_patch t f p most ws
  unfolding examine_patch
  refused_as most n ws h = rw (refusal_is ∙ sym h)

  pub taken_as : (most : ℕ) (ws : List ℕ) → none ≡ first_of (patch_conditions t f p 1024 (sorted t f p)) → examine_words t f p most ws ≡ examine_patch t f p most ws
  unfolding examine_patch
  taken_as most ws h = rw (refusal_is ∙ sym h)
