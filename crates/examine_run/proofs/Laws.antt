-- The machine's steps by its memory alone, and which places and lengths there are.
use Prim.Native.Nat.{ℕ, zero, suc, ◌+◌, ◌<◌, ◌≤◌}
use mathlib.Core.Path.{◌≡◌, refl, sym, ap, ap₂, ◌∙◌, subst}
use mathlib.Core.Bool.{Bool, true, false, false≢true}
use mathlib.Core.List.{List, [], ◌∷◌}
use mathlib.Core.Option.{none, some}
use native.Mathlib.Omega.{arith}
use lib.Dec.{eqb, ltb}
use lib.ListN.{length, get_or, drop, drop_of_length-le}
use borrow.Author.Tests.{eqb-true, ltb-true}
use Rattle.entity.specs.Logic.{pick, and, no, has, indices}
use Rattle.entity.specs.Place.{Place, reg, slot, place_at, names}
use Rattle.entity.proofs.Laws.{and-true, drop-step, has-where}
use Rattle.reginfo.specs.RegInfo.{RegInfo, num_regs, place_units, is_memory, in_class, of_bank}
use Rattle.reginfo.specs.Table.{reg_info_of}
use Rattle.reginfo.proofs.Accepted.{known-place, width_fits, unit-low, member-fits, member-bank}
use Rattle.function.specs.Function.{Function, num_values, value_bank, can_rematerialize, remat_class}
use Rattle.function.specs.Known.{Checked}
use Rattle.function.specs.Table.{function_of}
use Rattle.function.proofs.Laws.{few-slots, class-of-bank, class-there}
use Rattle.rules.specs.Edit.{Edit, Move, Rematerialize, EmergencySpill, EmergencyReload, and_then}
use Rattle.rules.specs.Order.{KeptMove, no_move}
use Rattle.rules.specs.Patch.{names_place}
use Rattle.rules.specs.Sorted.{SortedOk, MoveOk}
use Rattle.machine.specs.Machine.{Memory, Machine, read, write, fits, step}
use Rattle.edit.specs.Word.{edit_of, word_of}
use Rattle.edit.specs.Buffer.{or_edit}
use Rattle.entries.specs.Table.{sorted_of}
use Rattle.entries.proofs.Table.{kept-count}
use Rattle.examine_rules.specs.Words.{only_if}
use Rattle.examine_rules.specs.Examine.{named, width, generic_content, laid, blank}
use Rattle.examine_rules.proofs.Given.{width_of}
use Rattle.cells.specs.Cells.{Celled, Takes}
use Rattle.ties.specs.Ties.{kept, source_at, value_at}
use Rattle.ties.proofs.Laws.{source_is, value-is}
use Rattle.examine_words.specs.Named.{named_in}
use Rattle.examine_words.proofs.Laws.{named-word}
use Rattle.examine_run.specs.Ran.{memory_in, if, PutIf, LaidOne, edit_at, stepped, ran}

pub get_d-indices : (a n k : ℕ) → k < n → get_or (indices a n) k 0 ≡ a + k
unfolding indices
get_d-indices a zero k h = absurd (omega arith)
get_d-indices a (suc n) zero h = omega arith
get_d-indices a (suc n) (suc k) h = get_d-indices (a + 1) n k (omega arith) ∙ omega arith

-- ---- one edit
memory-when : (b : Bool) (s : Machine) → memory_in (pick b (some s) none) ≡ pick b (some s.memory) none
memory-when true s = refl
memory-when false s = refl

module _ (t : RegInfo) (f : Function) (g : ℕ → List ℕ) (m : Memory) where
  move-is : (to from : Place) (v : ℕ) → stepped t f g (Move to from v) m ≡ pick (and (no (and (is_memory t to) (is_memory t from))) (fits t f to (length (read t f m from)))) (some (write t f to (read t f m from) m)) none
  unfolding stepped step
  move-is to from v = memory-when (and (no (and (is_memory t to) (is_memory t from))) (fits t f to (length (read t f m from)))) _

  pub move-no : (to from : Place) (v : ℕ) → and (is_memory t to) (is_memory t from) ≡ true → stepped t f g (Move to from v) m ≡ none
  move-no to from v h = move-is to from v ∙ rw h

  pub move-yes : (to from : Place) (v : ℕ) (ws : List ℕ) (r : Bool) (m' : Memory) → and (is_memory t to) (is_memory t from) ≡ false → ws ≡ read t f m from → PutIf t f to ws m r m' → stepped t f g (Move to from v) m ≡ if r m'
  move-yes to from v ws r m' h e p = move-is to from v ∙ rw h (subst (λ (l : List ℕ). PutIf t f to l m r m') e p)

  remat-is : (to : Place) (v : ℕ) → stepped t f g (Rematerialize to v) m ≡ pick (and (can_rematerialize f v) (in_class t (remat_class f v) to)) (some (write t f to (g v) m)) none
  unfolding stepped step
  remat-is to v = memory-when (and (can_rematerialize f v) (in_class t (remat_class f v) to)) _

  pub remat-no : (to : Place) (v : ℕ) → and (can_rematerialize f v) (in_class t (remat_class f v) to) ≡ false → stepped t f g (Rematerialize to v) m ≡ none
  remat-no to v h = remat-is to v ∙ ap (λ (b : Bool). pick b (some (write t f to (g v) m)) none) h

  pub remat-yes : (to : Place) (v : ℕ) (ws : List ℕ) (m' : Memory) → and (can_rematerialize f v) (in_class t (remat_class f v) to) ≡ true → ws ≡ g v → m' ≡ write t f to ws m → stepped t f g (Rematerialize to v) m ≡ some m'
  remat-yes to v ws m' h e w = remat-is to v ∙ ap (λ (b : Bool). pick b (some (write t f to (g v) m)) none) h ∙ ap some (ap (λ (l : List ℕ). write t f to l m) (sym e) ∙ sym w)

  pub spill-is : (x r : ℕ) (ws : List ℕ) (m' : Memory) → ws ≡ read t f m (reg r) → m' ≡ write t f (slot x) ws m → stepped t f g (EmergencySpill x r) m ≡ some m'
  unfolding stepped step
  spill-is x r ws m' e w = ap some (ap (λ (l : List ℕ). write t f (slot x) l m) (sym e) ∙ sym w)

  pub reload-is : (r x : ℕ) (ws : List ℕ) (d : Bool) (m' : Memory) → ws ≡ read t f m (slot x) → PutIf t f (reg r) ws m d m' → stepped t f g (EmergencyReload r x) m ≡ if d m'
  unfolding stepped step read
  reload-is r x ws d m' e p = memory-when (fits t f (reg r) (length (m.lists (512 + x)))) _ ∙ subst (λ (l : List ℕ). PutIf t f (reg r) l m d m') e p

-- ---- words put into a place
module _ (t : RegInfo) (f : Function) (p : Place) (ws : List ℕ) (m m' : Memory) (n : ℕ) (e : n ≡ length ws) where
  pub put-no : fits t f p n ≡ false → PutIf t f p ws m false m'
  put-no h = ap (λ (b : Bool). pick b (some (write t f p ws m)) none) (ap (fits t f p) (sym e) ∙ h)

  pub put-yes : fits t f p n ≡ true → m' ≡ write t f p ws m → PutIf t f p ws m true m'
  put-yes h w = ap (λ (b : Bool). pick b (some (write t f p ws m)) none) (ap (fits t f p) (sym e) ∙ h) ∙ ap some (sym w)

pub fits-takes : (t : RegInfo) (f : Function) (p : Place) (n : ℕ) → fits t f p n ≡ true → Takes t p n
unfolding fits
fits-takes t f p n h z = eqb-true n (length (place_units t p)) (rw z at h)

-- any function at all
abbrev pub some_function : Function
some_function = record { values = []; slots = 0; limit = 0; kept = 1 }

-- ---- which places there are
module _ (t f : List ℕ) (ok : Checked t f) where
  abbrev T : RegInfo
  T = reg_info_of t

  abbrev F : Function
  F = function_of f

  pub celled : (slots : ℕ) → slots ≤ 6144 → (p : Place) → names (num_regs T) slots p ≡ true → Celled T p
  unfolding has
  celled slots few (reg r) h =
      let l : r < num_regs T = ltb-true r (num_regs T) h in
      record {
        known = known-place T ok.target slots (reg r) (omega arith) h;
        some = omega (arith, (width_fits T ok.target r l).0);
        few = (width_fits T ok.target r l).1;
        low = λ u e. omega (arith, unit-low T ok.target r l u e);
      }
  celled slots few (slot s) h =
      let l : s < slots = ltb-true s slots h in
      record {
        known = known-place T ok.target slots (slot s) (omega arith) h;
        some = omega arith;
        few = omega arith;
        low = λ u e. let k = has-where u ((512 + s) ∷ []) e in only k.0 k.1 u k.2 (omega arith);
      }
    where
      only : (k : ℕ) → k < 1 → (u : ℕ) → get_or ((512 + s) ∷ []) k 0 ≡ u → s < 6144 → u < 6656
      only k h u e l = let z : k ≡ 0 = omega arith in let q : 512 + s ≡ u = ap (λ (i : ℕ). get_or ((512 + s) ∷ []) i 0) (sym z) ∙ e in omega arith

  -- a value's width is that of the registers of its bank
  pub takes-bank : (v : ℕ) → v < num_values F → (slots : ℕ) (p : Place) → names (num_regs T) slots p ≡ true → of_bank T (value_bank F v) p ≡ true → Takes T p (width T F v)
  takes-bank v hv slots (reg r) n b z = width_of T F ok.target ok.function v hv r (ltb-true r (num_regs T) n) z (eqb-true _ _ b)
  takes-bank v hv slots (slot s) n b z = absurd (false≢true (sym z))

  pub takes-class : (v : ℕ) → v < num_values F → (p : Place) → can_rematerialize F v ≡ true → in_class T (remat_class F v) p ≡ true → Takes T p (width T F v)
  takes-class v hv (reg r) can m z =
      let hc = class-there T F ok.function v hv can in
      width_of T F ok.target ok.function v hv r (member-fits T ok.target (remat_class F v) hc r m) z
      (member-bank T ok.target (remat_class F v) r hc m ∙ class-of-bank T F ok.function v hv can)
  takes-class v hv (slot s) can m z = absurd (false≢true (sym z))

  -- what a named word names
  module _ (most : ℕ) (few : most ≤ 2048) (w : ℕ) (n : named_in T F most w ≡ true) where
    slots-fit : F.slots + most ≤ 6144
    slots-fit = omega (arith, few-slots T F ok.function)

    pub edit-named : (e : Edit) → some e ≡ edit_of w → named T F most e ≡ true
    edit-named e q = (and-true (named T F most e) (eqb (word_of e) w) (named-word T F most w e q ∙ n)).0

    pub edit-is : (e : Edit) → some e ≡ edit_of w → edit_at w ≡ e
    edit-is e q = ap or_edit (sym q)

    pub is_some : none ≡ edit_of w → ⊥
    unfolding named_in only_if
    is_some q = false≢true ((rw (sym q) at n))

    pub move-named : (to from : Place) (v : ℕ) → some (Move to from v) ≡ edit_of w → Celled T to × Celled T from
    unfolding named
    move-named to from v q =
        let a = and-true (names (num_regs T) (F.slots + most) to) _ (edit-named (Move to from v) q) in
        let b = and-true (names (num_regs T) (F.slots + most) from) _ a.1 in
        (celled (F.slots + most) slots-fit to a.0, celled (F.slots + most) slots-fit from b.0)

    pub remat-named : (to : Place) (v : ℕ) → some (Rematerialize to v) ≡ edit_of w → Celled T to × (v < num_values F)
    unfolding named
    remat-named to v q =
        let a = and-true (names (num_regs T) (F.slots + most) to) _ (edit-named (Rematerialize to v) q) in
        (celled (F.slots + most) slots-fit to a.0, ltb-true v (num_values F) a.1)

    both : (x r : ℕ) → and (ltb x (F.slots + most)) (ltb r (num_regs T)) ≡ true → Celled T (slot x) × Celled T (reg r) × (x < 8192) × (r < 8192)
    both x r h =
        let a = and-true (ltb x (F.slots + most)) (ltb r (num_regs T)) h in
        let c = celled (F.slots + most) slots-fit (reg r) a.1 in
        (celled (F.slots + most) slots-fit (slot x) a.0, c, omega (arith, ltb-true x (F.slots + most) a.0, slots-fit), omega (arith, c.known.known.is, c.known.known.few))

    pub spill-named : (x r : ℕ) → some (EmergencySpill x r) ≡ edit_of w → Celled T (slot x) × Celled T (reg r) × (x < 8192) × (r < 8192)
    unfolding named
    spill-named x r q = both x r (edit-named (EmergencySpill x r) q)

    pub reload-named : (r x : ℕ) → some (EmergencyReload r x) ≡ edit_of w → Celled T (slot x) × Celled T (reg r) × (x < 8192) × (r < 8192)
    unfolding named
    reload-named r x q = both x r (edit-named (EmergencyReload r x) q)

  -- ---- a kept move's source and value
  module _ (e : List ℕ) (s : SortedOk T F (sorted_of e)) (m : ℕ) (h : m < kept e) where
    move-ok : MoveOk T F (get_or (sorted_of e).moves m no_move)
    move-ok = s.moves m (omega (arith, kept-count e))

    pub value_there : value_at e m < num_values F
    value_there = omega (arith, move-ok.value-named, value-is e m h)

    source-named : names_place T F (place_at (source_at e m)) ≡ true
    source-named = subst (λ (p : Place). names_place T F p ≡ true) (source_is e m h) move-ok.source-named

    pub source-celled : Celled T (place_at (source_at e m))
    source-celled = celled F.slots (omega (arith, few-slots T F ok.function)) (place_at (source_at e m)) source-named

    pub source-takes : Takes T (place_at (source_at e m)) (width T F (value_at e m))
    source-takes =
        takes-bank (value_at e m) value_there F.slots (place_at (source_at e m)) source-named
        (ap₂ (λ (v : ℕ) (p : Place). of_bank T (value_bank F v) p) (sym (value-is e m h)) (sym (source_is e m h)) ∙ move-ok.source-bank)

-- ---- laid
module _ (t : RegInfo) (f : Function) (ms : List KeptMove) where
  pub laid_none : (i : ℕ) → length ms ≤ i → blank ≡ laid t f ms (drop i ms)
  unfolding laid
  laid_none i h = rw (drop_of_length-le ms {i = i} h)

  pub laid_next : (i : ℕ) (m m' : Memory) → i < length ms → m ≡ laid t f ms (drop (i + 1) ms) → LaidOne t f ms i m m' → m' ≡ laid t f ms (drop i ms)
  unfolding laid
  laid_next i m m' h e o = o ∙ ap (write t f (get_or ms i no_move).source (generic_content t f ms (get_or ms i no_move).value)) e ∙ rw (drop-step ms i no_move h)

-- ---- one edit after the other
module _ (t : RegInfo) (f : Function) (g : ℕ → List ℕ) (ws : List ℕ) (i : ℕ) (h : i < length ws) (m : Memory) where
  ran-step : ran t f g (drop i ws) m ≡ and_then (stepped t f g (edit_at (get_or ws i 0)) m) (ran t f g (drop (i + 1) ws))
  unfolding ran
  ran-step = rw (drop-step ws i 0 h)

  pub ran-no : stepped t f g (edit_at (get_or ws i 0)) m ≡ none → ran t f g (drop i ws) m ≡ none
  unfolding and_then
  ran-no q = ran-step ∙ rw q

  pub ran-next : (m' : Memory) → stepped t f g (edit_at (get_or ws i 0)) m ≡ some m' → ran t f g (drop i ws) m ≡ ran t f g (drop (i + 1) ws) m'
  unfolding and_then
  ran-next m' q = ran-step ∙ rw q

pub ran-end : (t : RegInfo) (f : Function) (g : ℕ → List ℕ) (ws : List ℕ) (i : ℕ) (m : Memory) → length ws ≤ i → ran t f g (drop i ws) m ≡ some m
unfolding ran
ran-end t f g ws i m h = rw (drop_of_length-le ws {i = i} h)
