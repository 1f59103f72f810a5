-- What a patch under construction leaves known of its table, and how a run that was done is answered.
use Prim.Native.Nat.{ℕ, ◌<◌, ◌≤◌}
use mathlib.Core.Path.{◌≡◌, sym, ap, ap₂, ◌∙◌, subst}
use mathlib.Core.Bool.{Bool, true, false}
use mathlib.Core.List.{List}
use mathlib.Core.Option.{some}
use native.Mathlib.Omega.{arith}
use lib.ListN.{get_or}
use borrow.Author.Tests.{ltb-true}
use Rattle.entity.specs.Logic.{pick, and, no, all_in, has, indices}
use Rattle.entity.specs.Place.{Place, reg, slot, code_of, place_at}
use Rattle.entity.proofs.Laws.{code-there}
use Rattle.reginfo.specs.RegInfo.{num_regs}
use Rattle.reginfo.specs.Table.{reg_info_of}
use Rattle.reginfo.proofs.Accepted.{regs-fit}
use Rattle.function.specs.Known.{Checked}
use Rattle.function.specs.Table.{function_of}
use Rattle.function.proofs.Laws.{few-slots, few-values}
use Rattle.rules.specs.Order.{no_move}
use Rattle.rules.specs.Patch.{Patch, Sorted, sorted, bound, names_place}
use Rattle.rules.specs.Sorted.{MoveOk}
use Rattle.machine.specs.Machine.{Memory}
use Rattle.small_set.specs.Set.{set_of}
use Rattle.entries.specs.Table.{sorted_of}
use Rattle.entries.specs.Known.{Tracked, EntriesOk}
use Rattle.entries.proofs.Table.{kept-count, remats-count, scratch-count}
use Rattle.examine_rules.specs.Examine as rule
use Rattle.examine_rules.specs.Examine.{generic_content, generic_start, no_start}
use Rattle.examine_rules.specs.Words.{examine_words}
use Rattle.ties.specs.Ties.{kept, source_at, Kept}
use Rattle.ties.proofs.Laws.{source_is, value-is}
use Rattle.examine_words.specs.Named.{named_in}
use Rattle.examine_run.specs.Ran.{ran}
use Rattle.examine.specs.Ends.{some_wrong, unit_stays, slot_stays}
use Rattle.examine.proofs.Answers.{says-done, ends_so}

module _ (t f e w : List ℕ) where
  pub few-of : EntriesOk t f e w → (get_or e 1024 0 ≤ 128) × (get_or e 1025 0 ≤ 128) × (get_or e 1026 0 ≤ 128)
  few-of k = let a = k.few in let b = k.most in (omega (arith, kept-count e, remats-count e, scratch-count e), omega (arith, kept-count e, remats-count e, scratch-count e), omega (arith, kept-count e, remats-count e, scratch-count e))

  pub few-bound : EntriesOk t f e w → (p : Patch) → sorted_of e ≡ sorted (reg_info_of t) (function_of f) p → bound (sorted (reg_info_of t) (function_of f) p) ≤ 1024
  few-bound k p so = let a = k.few in let b = k.most in subst (λ (x : Sorted). bound x ≤ 1024) so (omega arith)

  module _ (ok : Checked t f) (k : EntriesOk t f e w) where
    move-ok : (m : ℕ) → m < kept e → MoveOk (reg_info_of t) (function_of f) (get_or (sorted_of e).moves m no_move)
    move-ok m h = k.sorted.moves m (omega (arith, kept-count e))

    code-low : (p : Place) → names_place (reg_info_of t) (function_of f) p ≡ true → code_of p < 8192
    code-low (reg r) h = omega (arith, ltb-true r (num_regs (reg_info_of t)) h, (regs-fit (reg_info_of t) ok.target).1)
    code-low (slot s) h = omega (arith, ltb-true s (function_of f).slots h, few-slots (reg_info_of t) (function_of f) ok.function)

    source-low : (m : ℕ) → m < kept e → source_at e m < 8192
    source-low m h =
        let l = code-low (place_at (source_at e m)) (subst (λ (p : Place). names_place (reg_info_of t) (function_of f) p ≡ true) (source_is e m h) (move-ok m h).source-named) in
        omega (arith, l, code-there (source_at e m))

    pub kept_of : Kept e
    kept_of =
        record {
          few = (few-of k).0;
          sources = source-low;
          values = λ m h. omega (arith, (move-ok m h).value-named, value-is e m h, few-values (reg_info_of t) (function_of f) ok.function);
        }

-- the start laid in two tables, the run done in one of them, and how it ended
pub done-so :
    (t f : List ℕ) → Checked t f → (e w : List ℕ) (free : List Bool) → EntriesOk t f e w → (most : ℕ) (p : Patch) → ((u : ℕ) → has u p.free ≡ set_of free u)
    → sorted_of e ≡ sorted (reg_info_of t) (function_of f) p → (ws : List ℕ) → all_in (named_in (reg_info_of t) (function_of f) most) ws ≡ true
    → no_start (reg_info_of t) (function_of f) (sorted_of e).moves ≡ false
    → (m s m' : Memory) → m ≡ generic_start (reg_info_of t) (function_of f) (sorted_of e).moves → s ≡ generic_start (reg_info_of t) (function_of f) (sorted_of e).moves
    → ran (reg_info_of t) (function_of f) (generic_content (reg_info_of t) (function_of f) (sorted_of e).moves) ws m ≡ some m'
    → (b : Bool)
    → and (no (some_wrong (reg_info_of t) (function_of f) (generic_content (reg_info_of t) (function_of f) (sorted_of e).moves) m' (sorted_of e)))
    (and (all_in (unit_stays s m' w free) (indices 0 512)) (all_in (slot_stays s m' w) (indices 0 (function_of f).slots))) ≡ b
    → examine_words (reg_info_of t) (function_of f) p most ws ≡ pick b rule.Yes rule.No
done-so t f ok e w free k most p fr so ws n ns m s m' em es r b h =
    says-done (reg_info_of t) (function_of f) most p ws n (sorted_of e).moves (ap (λ (a : Sorted). a.moves) so) ns m m' em r b
    (sym (ends_so (reg_info_of t) (function_of f) ok.target p e w free (subst (λ (a : Sorted). Tracked (reg_info_of t) (function_of f) a e w) so k) fr (generic_content (reg_info_of t) (function_of f) (sorted_of e).moves) (generic_start (reg_info_of t) (function_of f) (sorted_of e).moves) m')
    ∙ ap₂ (λ (a : Sorted) (x : Memory). and (no (some_wrong (reg_info_of t) (function_of f) (generic_content (reg_info_of t) (function_of f) (sorted_of e).moves) m' a)) (and (all_in (unit_stays x m' w free) (indices 0 512)) (all_in (slot_stays x m' w) (indices 0 (function_of f).slots)))) (sym so) (sym es)
    ∙ h)
