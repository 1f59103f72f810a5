-- A word that is read, and codes that are small enough.
use Prim.Native.Nat.{ℕ, ◌+◌, ◌<◌, ◌≤◌}
use mathlib.Core.Path.{◌≡◌, refl, sym}
use mathlib.Core.Bool.{Bool, true, false}
use mathlib.Core.List.{List}
use mathlib.Core.Option.{none, some}
use native.Mathlib.Omega.{arith}
use lib.Dec.{eqb}
use lib.ListN.{length, get_or, drop, drop_of_length-le}
use borrow.Author.Tests.{ltb-true}
use Rattle.entity.specs.Logic.{pick, and, all_in}
use Rattle.entity.specs.Place.{Place, reg, slot, code_of, place_at, names}
use Rattle.entity.proofs.Laws.{code-there, drop-step}
use Rattle.reginfo.specs.RegInfo.{RegInfo, num_regs}
use Rattle.reginfo.specs.Table.{reg_info_of}
use Rattle.reginfo.proofs.Accepted.{regs-fit}
use Rattle.function.specs.Function.{Function, num_values}
use Rattle.function.specs.Known.{Checked}
use Rattle.function.specs.Table.{function_of}
use Rattle.function.proofs.Laws.{few-values, few-slots}
use Rattle.rules.specs.Edit.{Edit}
use Rattle.edit.specs.Word.{edit_of, word_of}
use Rattle.examine_rules.specs.Examine.{named}
use Rattle.examine_rules.specs.Words.{only_if}
use Rattle.examine_words.specs.Named.{named_if, named_in}

and-end : (a : Bool) → and a true ≡ a
and-end true = refl
and-end false = refl

and_no : (a : Bool) → and a false ≡ false
and_no true = refl
and_no false = refl

-- reading gives an edit: the word is named if the edit is, and if the word is the edit's own
pub named-word : (t : RegInfo) (f : Function) (most w : ℕ) (e : Edit) → some e ≡ edit_of w → and (named t f most e) (eqb (word_of e) w) ≡ named_in t f most w
unfolding named_in only_if
named-word t f most w e q = rw (sym q) (go (eqb (word_of e) w))
  where
    go : (b : Bool) → and (named t f most e) b ≡ named_if t f most (pick b (some e) none)
    go true = and-end (named t f most e)
    go false = and_no (named t f most e)

pub named_none : (t : RegInfo) (f : Function) (most w : ℕ) → none ≡ edit_of w → false ≡ named_in t f most w
unfolding named_in only_if
named_none t f most w q = rw (sym q)

pick_some : {A : Type 0} (b : Bool) (x y : A) → some x ≡ pick b (some y) none → true ≡ b
pick_some true x y h = refl
pick_some false x y h = let z : ◌≡◌ {A = ℕ} 0 1 = cc in absurd (omega arith)

pick-none : {A : Type 0} (b : Bool) (y : A) → none ≡ pick b (some y) none → false ≡ b
pick-none true y h = let z : ◌≡◌ {A = ℕ} 0 1 = cc in absurd (omega arith)
pick-none false y h = refl

module _ (t f : List ℕ) (ok : Checked t f) (most : ℕ) (few : most ≤ 2048) where
  pub few-regs : num_regs (reg_info_of t) ≤ 512
  few-regs = (regs-fit (reg_info_of t) ok.target).1

  pub slots-fit : (function_of f).slots + most ≤ 6144
  slots-fit = omega (arith, few-slots (reg_info_of t) (function_of f) ok.function)

  pub values-fit : num_values (function_of f) ≤ 4096
  values-fit = few-values (reg_info_of t) (function_of f) ok.function

  of-place : (p : Place) → names (num_regs (reg_info_of t)) ((function_of f).slots + most) p ≡ true → code_of p < 16384
  of-place (reg r) h = let l : r < num_regs (reg_info_of t) = ltb-true _ _ h in omega (arith, few-regs)
  of-place (slot s) h = let l : s < (function_of f).slots + most = ltb-true _ _ h in omega (arith, slots-fit)

  pub code-low : (c : ℕ) → names (num_regs (reg_info_of t)) ((function_of f).slots + most) (place_at c) ≡ true → c < 16384
  code-low c h = let l = of-place (place_at c) h in let e = code-there c in omega arith

pub all-next : {A : Type 0} (p : A → Bool) (l : List A) (i : ℕ) (d : A) → i < length l → all_in p (drop i l) ≡ and (p (get_or l i d)) (all_in p (drop (i + 1) l))
unfolding all_in
all-next p l i d h = rw (drop-step l i d h)

pub all_end : {A : Type 0} (p : A → Bool) (l : List A) (i : ℕ) → length l ≤ i → all_in p (drop i l) ≡ true
unfolding all_in
all_end p l i h = rw (drop_of_length-le l {i = i} h)
