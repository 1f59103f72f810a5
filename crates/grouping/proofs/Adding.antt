-- The entries of a group, added one after the other.
use Prim.Native.Nat.{ℕ, ◌+◌, ◌*◌}
use mathlib.Core.Path.{◌≡◌, refl, sym, ap, ◌∙◌}
use mathlib.Core.Bool.{Bool, true, false, false≢true}
use mathlib.Core.List.{List, [], ◌∷◌}
use mathlib.Core.Option.{Option, none, some}
use native.Mathlib.Omega.{arith}
use lib.Dec.{eqb}
use lib.ListN.{length, get_or}
use Rattle.entity.proofs.Laws.{never_true}
use Rattle.reginfo.specs.RegInfo.{RegInfo}
use Rattle.reginfo.specs.Refused.{first_of}
use Rattle.function.specs.Table.{function_of}
use Rattle.rules.specs.Patch.{Entry, Patch, nothing_sorted, entry_conditions, sorted_from}
use Rattle.rules.specs.Refusals.{entries_conditions}
use Rattle.small_set.specs.Set.{set_of}
use Rattle.scratch.specs.State.{T}
use Rattle.entries.specs.Table.{sorted_of}
use Rattle.entries.specs.Known.{EntriesOk, free_in}
use Rattle.entries.specs.Answers.{AddedAs}
use Rattle.group_rules.specs.Groups.{chosen, part, labels_of}
use Rattle.group_rules.proofs.Lists.{filter-has}
use Rattle.parallel_moves.specs.declared.Resolved as R
use Rattle.parallel_moves.specs.declared.Resolved.{Resolved}
use Rattle.parallel_moves.specs.Given.{entry_of, entries_of, Numbered, Built}
use Rattle.parallel_moves.specs.Answers.{ResolvesGranted}
use Rattle.parallel_moves.proofs.First.{first-append, first-within, built-within}
use Rattle.slots.specs.Stacks.{cache_of}
use Rattle.groups.specs.Given.{entry_at, labels_in}
use Rattle.groups.specs.Free.{FreeAs}
use Rattle.grouping.specs.Answers.{PartAdded, rest, PartGives}

pub entry-is : (t f e w e' w' numbers : List ℕ) (k : ℕ) (r : Option ℕ) → AddedAs t f e w e' w' (entry_of (get_or numbers (k * 4) 0) (get_or numbers (k * 4 + 1) 0) (get_or numbers (k * 4 + 2) 0) (get_or numbers (k * 4 + 3) 0)) r → AddedAs t f e w e' w' (entry_at numbers k) r
unfolding entry_at
entry-is t f e w e' w' numbers k r h = h

-- the entries of the group labelled g
abbrev pub owned : RegInfo → List ℕ → ℕ → List Entry
owned t numbers g = chosen (λ x. eqb x g) (labels_in t numbers) (entries_of numbers)

part-entries : (t : RegInfo) (free : List Bool) (numbers : List ℕ) (g : ℕ) (p : Patch) → Numbered free numbers p → (part t p (labels_of t p) g).entries ≡ owned t numbers g
unfolding part
part-entries t free numbers g p num = rw num.are

module _ (t f : List ℕ) (own : List Entry) where
  -- those of l are left
  pub record Adding (e w : List ℕ) (l : List Entry) : Type 0 where
    pub ok : EntriesOk t f e w
    pub first : first_of (entries_conditions (T t) (function_of f) own nothing_sorted) ≡ first_of (entries_conditions (T t) (function_of f) l (sorted_of e))
    pub became : sorted_from (T t) (function_of f) own nothing_sorted ≡ sorted_from (T t) (function_of f) l (sorted_of e)

  pub adding-start : (e w : List ℕ) → EntriesOk t f e w → sorted_of e ≡ nothing_sorted → Adding e w own
  adding-start e w ok empty = record { ok = ok; first = rw empty; became = rw empty }

  module _ (e w e' w' : List ℕ) (x : Entry) (l : List Entry) (h : Adding e w (x ∷ l)) where
    pub adding-more : AddedAs t f e w e' w' x none → Adding e' w' l
    unfolding entries_conditions sorted_from
    adding-more one =
        let y = one.yes refl in
        record {
          ok = y.1;
          first = h.first ∙ first-append (entry_conditions (T t) (function_of f) (sorted_of e) x) _ ∙ rw (← one.is, y.0);
          became = h.became ∙ rw y.0;
        }

    pub adding-stop : (n : ℕ) → AddedAs t f e w e' w' x (some n) → (some n ≡ first_of (entries_conditions (T t) (function_of f) own nothing_sorted)) × EntriesOk t f e' w'
    unfolding entries_conditions
    adding-stop n one = (sym (h.first ∙ first-append (entry_conditions (T t) (function_of f) (sorted_of e) x) _ ∙ rw (← one.is)), (one.no n refl).1)

module _ (t f numbers : List ℕ) (g : ℕ) (e w : List ℕ) where
  pub part-stopped : (n : ℕ) → (some n ≡ first_of (entries_conditions (T t) (function_of f) (owned (T t) numbers g) nothing_sorted)) × EntriesOk t f e w → PartAdded t f numbers g e w (some n)
  part-stopped n h =
      record {
        is = λ p free num. h.0 ∙ ap (λ (l : List Entry). first_of (entries_conditions (T t) (function_of f) l nothing_sorted)) (sym (part-entries (T t) free numbers g p num));
        yes = λ p free num q. absurd (let z : ◌≡◌ {A = ℕ} 0 1 = cc in omega arith);
        ok = h.1;
      }

  pub part-added : Adding t f (owned (T t) numbers g) e w [] → PartAdded t f numbers g e w none
  unfolding entries_conditions sorted_from first_of
  part-added h =
      record {
        is = λ p free num. sym h.first ∙ ap (λ (l : List Entry). first_of (entries_conditions (T t) (function_of f) l nothing_sorted)) (sym (part-entries (T t) free numbers g p num));
        yes = λ p free num q. sym h.became ∙ ap (λ (l : List Entry). sorted_from (T t) (function_of f) l nothing_sorted) (sym (part-entries (T t) free numbers g p num));
        ok = h.ok;
      }

  -- ---- a group resolved
  module _ (limit : ℕ) (free : List Bool) (list work : List ℕ) where
    pub part-refused : (n : ℕ) → PartAdded t f numbers g e w (some n) → PartGives limit t f free numbers g (R.TheVariants.Refused n) list list work work
    part-refused n h p num =
        let q : Patch = part (T t) p (labels_of (T t) p) g in
        rw (first-within (T t) (function_of f) limit q (length list) (cache_of work), ← h.is p free num) (refl, refl, refl)

    pub part-resolved : (available : List Bool) (r : Resolved) (list' work' : List ℕ) → PartAdded t f numbers g e w none → FreeAs (T t) numbers free g available
        → ResolvesGranted (rest limit work) t f available e r list list' work work' → PartGives limit t f free numbers g r list list' work work'
    part-resolved available r list' work' h fr out p num =
        let q : Patch = part (T t) p (labels_of (T t) p) g in
        let built : Built t f available e q = record { free-is = fr p num; taken = sym (h.is p free num); is = h.yes p free num refl } in
        rw (built-within t f limit available e q built (length list) (cache_of work)) (out q (fr p num))

-- where no unit is free, none is for a group
pub part_none : (t : RegInfo) (numbers : List ℕ) (free out : List Bool) (g : ℕ) (b : Bool) → b ≡ false → ((u : ℕ) → set_of free u ≡ false) → FreeAs t numbers free g (free_in b out)
unfolding part set_of
part_none t numbers free out g b q empty p num u = rw q (never_true _ (λ h. false≢true (sym (empty u) ∙ sym (num.free-is u) ∙ (filter-has _ p.free u h).0)))

pub part-some : (t : RegInfo) (numbers : List ℕ) (free out : List Bool) (g : ℕ) (b : Bool) → b ≡ true → FreeAs t numbers free g out → FreeAs t numbers free g (free_in b out)
part-some t numbers free out g b q h = rw q h
