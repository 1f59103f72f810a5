-- What the tests of a patch leave known, and what a target leaves known of its places.
use mathlib.Core.Path.{◌≡◌, refl, sym, ◌∙◌, ap, subst}
use mathlib.Core.Bool.{Bool, true, false, not, ◌&&◌, ◌||◌, false≢true}
use mathlib.Core.List.{List, [], ◌∷◌, ◌++◌, append_assoc}
use mathlib.Core.Option.{none}
use Prim.Native.Nat.{ℕ, zero, suc, ◌+◌, ◌<◌, ◌≤◌}
use native.Mathlib.Omega.{arith}
use native.Mathlib.Decide.{dec_lt}
use lib.Dec.{T}
use lib.ListN.{length, get_or-append}
use borrow.Author.Tests.{le-ltb}
use Rattle.entity.specs.Logic.{has, twice}
use Rattle.entity.specs.Place.{Place, reg, slot}
use Rattle.reginfo.specs.RegInfo.{RegInfo, num_regs, bank_for_reg, reg_units, is_memory_reg, is_memory, place_units, overlap, last_in_order, stack_to_stack_class}
use Rattle.reginfo.specs.Refused as target
use Rattle.reginfo.specs.Refused.{Condition, refused_if, first_of}
use Rattle.reginfo.specs.Given.{Given, NoneHolds, condition_at}
use Rattle.reginfo.proofs.First.{first-none, none_first}
use Rattle.reginfo.proofs.Accepted.{width_fits, unit-low, stack-fits, stack-bank, stack-slots, same_width, order-member, member-fits, member-bank, last-memory, last-ordered}
use Rattle.function.specs.Function.{Function, num_values, value_bank}
use Rattle.function.specs.Refused as function
use Rattle.function.proofs.Laws.{bank-there}
use Rattle.rules.specs.Edit.{Edit}
use Rattle.rules.specs.Scratch.{Cache, empty_cache}
use Rattle.rules.specs.Patch.{Patch, nothing_sorted, sorted, bound, Answer, refused, resolved, patch_conditions, run, resolve}
use Rattle.rules.specs.Refusals.{ran_out, entries_conditions, call_conditions}
use Rattle.rules.proofs.Refusals.{refusals}
use Rattle.rules.proofs.Tested.{Tested, tested}
use Rattle.machine.specs.Claim.{Contents}
use Rattle.machine.proofs.Tests.{yes_of, no_of, of-yes, of-no}
use Rattle.machine.proofs.Memory.{distinct, TargetOk, Apart}
use Rattle.machine.proofs.Search.{place-covers}
use Rattle.machine.proofs.Premises.{disjoint, no-units, reg-low, reg-once, reg-own, reg-kinds}
use Rattle.group_rules.specs.Groups.{whole_conditions}
use Rattle.group_rules.proofs.Lists.{first-both, first-join}
use Rattle.examine_rules.specs.Examine.{width, patch_refusal}

pub once-distinct : (l : List ℕ) → twice l ≡ false → T (distinct l)
unfolding twice distinct
once-distinct [] e = tt
once-distinct (x ∷ l) e = go (has x l) (twice l) e (once-distinct l)
  where
    go : (a b : Bool) → (a || b) ≡ false → (b ≡ false → T (distinct l)) → T (not a && distinct l)
    go true b e h = absurd (let z : ◌≡◌ {A = ℕ} 0 1 = cc in omega arith)
    go false b e h = h e

module _ (t : RegInfo) (f : Function) where
  -- ---- the patch
  abbrev whole : Patch → List Condition
  whole p = whole_conditions t f p (bound (sorted t f p))

  abbrev ending : Patch → Cache → List Condition
  ending p c = refused_if 17 (ran_out (run t f p (sorted t f p) c)) ∷ []

  -- what stands in one list of conditions and then another
  at-end : (xs : List Condition) (x : Condition) (i : ℕ) → i < length (xs ++ (x ∷ [])) → (i < length xs → ⊥) → condition_at (xs ++ (x ∷ [])) i ≡ x
  at-end [] x zero l d = refl
  at-end [] x (suc i) l d = absurd (omega arith)
  at-end (y ∷ xs) x zero l d = absurd (d (omega arith))
  at-end (y ∷ xs) x (suc i) l d = at-end xs x i (omega arith) (λ k. d (omega arith))

  at_front : (xs ys : List Condition) (i : ℕ) → i < length xs → condition_at (xs ++ ys) i ≡ condition_at xs i
  at_front xs ys i l = get_or-append xs ys (refused_if 0 false) i l

  -- a call of it with a list long enough is refused with 17 or not at all
  late : (p : Patch) → NoneHolds (whole p) → (c : Cache) (n : ℕ) → Given (whole p ++ ending p c) n → n ≡ 17
  late p h c n g = go (dec_lt g.at (length (whole p)))
    where
      go : Dec (g.at < length (whole p)) → n ≡ 17
      go (yes l) = absurd (false≢true (sym (h g.at l) ∙ ap (λ (c : Condition). c.holds) (sym (at_front (whole p) (ending p c) g.at l)) ∙ g.holds))
      go (no l) = sym g.number ∙ ap (λ (c : Condition). c.number) (at-end (whole p) (refused_if 17 (ran_out (run t f p (sorted t f p) c))) g.at g.is l)

  as-whole : (p : Patch) (n : ℕ) → Given (call_conditions t f p (bound (sorted t f p)) empty_cache) n → Given (whole p ++ ending p empty_cache) n
  unfolding call_conditions
  as-whole p n g = subst (λ (l : List Condition). Given l n) (sym (append_assoc (entries_conditions t f p.entries nothing_sorted) (patch_conditions t f p (bound (sorted t f p)) (sorted t f p)) (ending p empty_cache))) g

  seventeen : (p : Patch) → first_of (whole p) ≡ none → (n : ℕ) → resolve t f p (bound (sorted t f p)) empty_cache ≡ refused n → n ≡ 17
  seventeen p e n q = late p (first-none (whole p) e) empty_cache n (as-whole p n (((refusals t f p (bound (sorted t f p)) empty_cache).given n).0 q))

  pub tested-of : (p : Patch) → patch_refusal t f p ≡ none → Tested t f (sorted t f p)
  unfolding patch_refusal
  tested-of p e = go (resolve t f p (bound (sorted t f p)) empty_cache) refl
    where
      go : (r : Answer) → resolve t f p (bound (sorted t f p)) empty_cache ≡ r → Tested t f (sorted t f p)
      go (resolved es c m) q = (tested t f p (bound (sorted t f p)) empty_cache (resolved es c m) tt q).0
      go (refused n) q = (tested t f p (bound (sorted t f p)) empty_cache (refused n) (seventeen p e n q) q).0

  none-there : first_of (refused_if 13 false ∷ refused_if 14 false ∷ refused_if 16 false ∷ []) ≡ none
  unfolding first_of
  none-there = refl

  -- a call that passed the patch's tests, whatever the length of its list
  pub accepted-whole : (p : Patch) (room : ℕ) → first_of (whole_conditions t f p room) ≡ none → patch_refusal t f p ≡ none
  unfolding patch_refusal patch_conditions
  accepted-whole p room e =
      let q = first-both (entries_conditions t f p.entries nothing_sorted) (patch_conditions t f p room (sorted t f p)) e in
      let b = first-none (patch_conditions t f p room (sorted t f p)) q.1 in
      first-join (entries_conditions t f p.entries nothing_sorted) (patch_conditions t f p (bound (sorted t f p)) (sorted t f p)) q.0
      ∙ rw (b 0 (omega arith), b 1 (omega arith), le-ltb (bound (sorted t f p)) (bound (sorted t f p)) (omega arith)) none-there

  -- a patch that was resolved is accepted
  pub accepted-of : (p : Patch) (room : ℕ) (c c' : Cache) (es : List Edit) (m : ℕ) → resolve t f p room c ≡ resolved es c' m → patch_refusal t f p ≡ none
  unfolding call_conditions
  accepted-of p room c c' es m e =
      accepted-whole p room
      (first-both (whole_conditions t f p room) (ending p c)
      (rw (append_assoc (entries_conditions t f p.entries nothing_sorted) (patch_conditions t f p room (sorted t f p)) (ending p c))
      (none_first (call_conditions t f p room c) ((refusals t f p room c).taken.0 (es, c', m, e))))).0

  -- ---- the target
  module _ (ta : target.Accepted t) where
    pub target_ok : TargetOk t
    target_ok =
        record {
          twice = λ r. once-distinct (reg_units t r) (reg-once t f ta r);
          low = λ r s. no_of (has (512 + s) (reg_units t r)) (reg-low t f ta r s);
          own = λ r m. yes_of _ (reg-own t f ta r (of-yes _ m));
          kinds = λ x r u m n h k. reg-kinds t f ta x r u (of-yes _ m) (of-no _ n) (of-yes _ h) (of-yes _ k);
        }

    pub apart_of : (p q : Place) → overlap t p q ≡ false → Apart t f target_ok p q
    apart_of p q d u a b = disjoint t f p q d u (of-yes _ (place-covers t f target_ok p u a)) (of-yes _ (place-covers t f target_ok q u b))

    reg-units : (P : List ℕ → Type 0) → P [] → ((r : ℕ) → r < num_regs t → P (reg_units t r)) → (r : ℕ) → P (reg_units t r)
    reg-units P z h r = go (dec_lt r (num_regs t))
      where
        go : Dec (r < num_regs t) → P (reg_units t r)
        go (yes l) = h r l
        go (no l) = rw (no-units t f r (omega arith)) z

    pub low : (p : Place) → is_memory t p ≡ false → (u : ℕ) → has u (place_units t p) ≡ true → u < 512
    unfolding has
    low (slot s) m = absurd (false≢true (sym m))
    low (reg r) m = reg-units (λ l. (u : ℕ) → has u l ≡ true → u < 512) (λ u h. absurd (false≢true h)) (λ r l u h. unit-low t ta r l u h) r

    pub narrow : (p : Place) → is_memory t p ≡ false → length (place_units t p) ≤ 8
    narrow (slot s) m = absurd (false≢true (sym m))
    narrow (reg r) m = reg-units (λ l. length l ≤ 8) (omega arith) (λ r l. (width_fits t ta r l).1) r

    -- ---- widths
    module _ (fa : function.Accepted t f) (v : ℕ) (hv : v < num_values f) where
      abbrev stack : ℕ
      stack = stack_to_stack_class t (value_bank f v)

      abbrev last : ℕ
      last = last_in_order t stack

      there : (last < num_regs t) × (is_memory_reg t last ≡ false) × (bank_for_reg t last ≡ value_bank f v)
      there =
          let hb = bank-there t f fa v hv in
          let hc = stack-fits t ta (value_bank f v) hb in
          let ns = stack-slots t ta (value_bank f v) hb in
          let m = order-member t ta stack last hc (last-ordered t ta stack hc ns) in
          (member-fits t ta stack hc last m, last-memory t ta stack hc ns, member-bank t ta stack last hc m ∙ stack-bank t ta (value_bank f v) hb)

      pub width_of : (r : ℕ) → r < num_regs t → is_memory_reg t r ≡ false → bank_for_reg t r ≡ value_bank f v → width t f v ≡ length (reg_units t r)
      unfolding width
      width_of r hr n e = same_width t ta last r there.0 hr there.1 n (there.2 ∙ sym e)

      pub width_is : (content : ℕ → List ℕ) → Contents t f content → length (content v) ≡ width t f v
      unfolding width
      width_is content w = w v last hv there.0 there.1 there.2

      pub width_small : width t f v ≤ 8
      unfolding width
      width_small = (width_fits t ta last there.0).1
