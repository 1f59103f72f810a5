use Prim.Native.Nat.{ℕ, ◌+◌, ◌*◌, ◌<◌, ◌≤◌}
use mathlib.Core.Path.{◌≡◌, refl, sym, ap, ◌∙◌}
use mathlib.Core.Bool.{true, false, true≢false}
use mathlib.Core.List.{List}
use native.Mathlib.Omega.{arith}
use lib.ListN.{length, get_or, length-set}
use Rattle.entity.specs.Logic.{has, twice, cells}
use Rattle.reginfo.specs.RegInfo.{num_classes, class_members}
use Rattle.reginfo.specs.Table.{reg_info_of, IndexedAt}
use Rattle.reginfo.specs.Refused.{outside_limits}
use Rattle.target_limits.proofs.Laws.{members-cells}
use Rattle.target_limits.proofs.Limits.{list-few, class-known, members-listed}
use Rattle.target_check.specs.Checked.{SameBelow}
use Rattle.target_check.proofs.Index.{again-twice, distinct, indexed-more, kept, same-cells, member-low}
use Rattle.target_check.proofs.index_members.Goals as goal

-- a class of a target within the limits, and a table that is the target's below the index of the class's members
module _ (t : List ℕ) (h : outside_limits (reg_info_of t) ≡ false) (c : ℕ) (k : c < num_classes (reg_info_of t)) where
  class-low : c < 64
  class-low = omega (arith, class-known (reg_info_of t) h c k)

  few : length (class_members (reg_info_of t) c) ≤ 512
  few = list-few (reg_info_of t) (class_members (reg_info_of t) c) (members-listed (reg_info_of t) h c k)

  module _ (u : List ℕ) (s : SameBelow (74752 + c * 512) t u) where
    none-again : IndexedAt u c (length (class_members (reg_info_of t) c)) → twice (class_members (reg_info_of t) c) ≡ false
    none-again x =
        let n = length (class_members (reg_info_of t) c) in
        ap twice (members-cells t c k) ∙ ap twice (sym (same-cells t u (74752 + c * 512) (9216 + c * 512) n s (omega (arith, few)))) ∙ distinct u c n x

    module _ (p : ℕ) (l : p < length (class_members (reg_info_of t) c)) where
      unchanged : get_or u (9216 + c * 512 + p) 0 ≡ get_or t (9216 + c * 512 + p) 0
      unchanged = s (9216 + c * 512 + p) (omega (arith, few))

      reg-low : get_or u (9216 + c * 512 + p) 0 < 512
      reg-low = rw unchanged (member-low t h c k p l)

      again : has (get_or u (9216 + c * 512 + p) 0) (cells u (9216 + c * 512) p) ≡ true → twice (class_members (reg_info_of t) c) ≡ true
      again e =
          let same : cells u (9216 + c * 512) p ≡ cells t (9216 + c * 512) p = same-cells t u (74752 + c * 512) (9216 + c * 512) p s (omega (arith, few)) in
          ap twice (members-cells t c k) ∙ again-twice t (9216 + c * 512) (length (class_members (reg_info_of t) c)) p l (rw (unchanged, same) at e)

pub num_members-n-requires : goal.num_members-n-requires
num_members-n-requires c = class-known (reg_info_of c.args.t.now) c.requires.0 c.args.c.0 c.requires.1

pub members_from-at-requires : goal.members_from-at-requires
members_from-at-requires c = class-low c.args.t.now c.requires.0 c.args.c.0 c.requires.1

pub index_from-index-requires : goal.index_from-index-requires
index_from-index-requires c = class-low c.args.t.now c.requires.0 c.args.c.0 c.requires.1

pub overflow_add-r : goal.overflow_add-r
overflow_add-r c = omega (arith, few c.args.t.now c.requires.0 c.args.c.0 c.requires.1, class-low c.args.t.now c.requires.0 c.args.c.0 c.requires.1)

pub offset_bounds-t-at : goal.offset_bounds-t-at
offset_bounds-t-at c = omega (arith, few c.args.t.now c.requires.0 c.args.c.0 c.requires.1, class-low c.args.t.now c.requires.0 c.args.c.0 c.requires.1)

pub bounds-t-at : goal.bounds-t-at
bounds-t-at c = omega (arith, few c.args.t.now c.requires.0 c.args.c.0 c.requires.1, class-low c.args.t.now c.requires.0 c.args.c.0 c.requires.1)

pub stands_before-requires : goal.stands_before-requires
stands_before-requires c = (class-low c.args.t.now c.requires.0 c.args.c.0 c.requires.1, omega (arith, few c.args.t.now c.requires.0 c.args.c.0 c.requires.1), rw c.members_from-at.ensures (reg-low c.args.t.now c.requires.0 c.args.c.0 c.requires.1 c.loop-p.t c.loop-p.invariant.1 c.loop-p.p (omega arith)), c.loop-p.invariant.2)

pub returns-then-stands_before : goal.returns-then-stands_before
returns-then-stands_before c =
    let found = rw c.members_from-at.ensures at (sym c.stands_before.ensures ∙ c.if-stands_before.true) in
    (sym (again c.args.t.now c.requires.0 c.args.c.0 c.requires.1 c.loop-p.t c.loop-p.invariant.1 c.loop-p.p (omega arith) found), c.loop-p.invariant.1, λ e. absurd (true≢false e))

pub overflow_cast-t : goal.overflow_cast-t
overflow_cast-t c = omega (arith, few c.args.t.now c.requires.0 c.args.c.0 c.requires.1)

pub bounds-t-index : goal.bounds-t-index
bounds-t-index c =
    let low : c.from.result < 512 = rw (c.from.ensures, c.members_from-at.ensures) (reg-low c.args.t.now c.requires.0 c.args.c.0 c.requires.1 c.loop-p.t c.loop-p.invariant.1 c.loop-p.p (omega arith)) in
    omega (arith, class-low c.args.t.now c.requires.0 c.args.c.0 c.requires.1)

pub loop-p-preserved : goal.loop-p-preserved
loop-p-preserved c =
    let t = c.loop-p.t in
    let p = c.loop-p.p in
    let new = rw c.members_from-at.ensures at (sym c.stands_before.ensures ∙ c.if-stands_before.false) in
    let r = get_or t (9216 + c.args.c.0 * 512 + p) 0 in
    let low = class-low c.args.t.now c.requires.0 c.args.c.0 c.requires.1 in
    let short : p < 512 = omega (arith, few c.args.t.now c.requires.0 c.args.c.0 c.requires.1) in
    let small = reg-low c.args.t.now c.requires.0 c.args.c.0 c.requires.1 t c.loop-p.invariant.1 p (omega arith) in
    rw (c.from.ensures, c.index_from-index.ensures, c.members_from-at.ensures) (
      length-set t (74752 + c.args.c.0 * 512 + r) p ∙ c.loop-p.invariant.0,
      (λ i l. kept t c.args.c.0 p r c.loop-p.invariant.0 low short refl small c.loop-p.invariant.2 new i l ∙ c.loop-p.invariant.1 i l),
      indexed-more t c.args.c.0 p r c.loop-p.invariant.0 low short refl small c.loop-p.invariant.2 new,
    )

pub returns : goal.returns
returns c =
    let e : c.loop-p.p ≡ length (class_members (reg_info_of c.args.t.now) c.args.c.0) = omega arith in
    let x : IndexedAt c.loop-p.t c.args.c.0 (length (class_members (reg_info_of c.args.t.now) c.args.c.0)) = rw e at c.loop-p.invariant.2 in
    (sym (none-again c.args.t.now c.requires.0 c.args.c.0 c.requires.1 c.loop-p.t c.loop-p.invariant.1 x), c.loop-p.invariant.1, λ f. x)
