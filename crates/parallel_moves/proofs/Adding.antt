-- The entries of a patch, added one after the other.
use Prim.Native.Nat.{ℕ, ◌+◌, ◌-◌, ◌<◌, ◌≤◌}
use mathlib.Core.Path.{◌≡◌, refl, sym, ◌∙◌}
use mathlib.Core.Bool.{Bool}
use mathlib.Core.List.{List, [], ◌∷◌}
use mathlib.Core.Option.{Option, none, some}
use native.Mathlib.Omega.{arith}
use lib.ListN.{length, get_or, drop, length-drop, drop_of_length-le}
use borrow.Author.Tests.{ne_eqb}
use Rattle.entity.specs.Place.{place_at}
use Rattle.entity.proofs.Laws.{drop-step}
use Rattle.reginfo.specs.Refused.{first_of}
use Rattle.function.specs.Table.{function_of}
use Rattle.rules.specs.Patch.{Entry, move, remat, Patch, nothing_sorted, entry_conditions, sorted_from}
use Rattle.rules.specs.Refusals.{entries_conditions}
use Rattle.scratch.specs.State.{T}
use Rattle.entries.specs.Table.{sorted_of}
use Rattle.entries.specs.Known.{EntriesOk}
use Rattle.entries.specs.Answers.{AddedAs}
use Rattle.slots.specs.Stacks.{cache_of}
use Rattle.parallel_moves.specs.declared.Grant.{Grant}
use Rattle.parallel_moves.specs.declared.asking.Asked as A
use Rattle.parallel_moves.specs.declared.asking.Asked.{Asked}
use Rattle.parallel_moves.specs.declared.Resolved as R
use Rattle.parallel_moves.specs.declared.Resolved.{Resolved}
use Rattle.parallel_moves.specs.Given.{nothing_named, entry_of, entries_of, with_made, Numbered, Built}
use Rattle.parallel_moves.specs.Answers.{answer_granted, GivesGranted, ResolvesGranted, Asks, AsksGranted}
use Rattle.parallel_moves.specs.Steps.{added_until, AllAdded}
use Rattle.parallel_moves.proofs.First.{first-append, first-within, built-within}

-- an entry by its first number
module _ (t f e w e' w' : List ℕ) (kind x y z : ℕ) (r : Option ℕ) where
  pub as-move : kind ≡ 0 → AddedAs t f e w e' w' (move (place_at x) (place_at y) z) r → AddedAs t f e w e' w' (entry_of kind x y z) r
  unfolding entry_of
  as-move k h = rw k h

  pub as-remat : kind ≡ 1 → AddedAs t f e w e' w' (remat (place_at x) y) r → AddedAs t f e w e' w' (entry_of kind x y z) r
  unfolding entry_of
  as-remat k h = rw k h

  pub as-nothing : (kind ≡ 0 → ⊥) → (kind ≡ 1 → ⊥) → AddedAs t f e w e' w' nothing_named r → AddedAs t f e w e' w' (entry_of kind x y z) r
  unfolding entry_of
  as-nothing a b h = rw (ne_eqb kind 0 a, ne_eqb kind 1 b) h

-- four numbers on, and what is left over
entries_at : (l : List ℕ) (at : ℕ) → at + 4 ≤ length l → entries_of (drop at l) ≡ entry_of (get_or l at 0) (get_or l (at + 1) 0) (get_or l (at + 2) 0) (get_or l (at + 3) 0) ∷ entries_of (drop (at + 4) l)
unfolding entries_of
entries_at l at h =
    let a : drop at l ≡ get_or l at 0 ∷ drop (at + 1) l = drop-step l at 0 (omega arith) in
    let b : drop (at + 1) l ≡ get_or l (at + 1) 0 ∷ drop (at + 2) l = let q : at + 1 + 1 ≡ at + 2 = omega arith in rw q at (drop-step l (at + 1) 0 (omega arith)) in
    let c : drop (at + 2) l ≡ get_or l (at + 2) 0 ∷ drop (at + 3) l = let q : at + 2 + 1 ≡ at + 3 = omega arith in rw q at (drop-step l (at + 2) 0 (omega arith)) in
    let d : drop (at + 3) l ≡ get_or l (at + 3) 0 ∷ drop (at + 4) l = let q : at + 3 + 1 ≡ at + 4 = omega arith in rw q at (drop-step l (at + 3) 0 (omega arith)) in
    rw (a, b, c, d)

short : (l : List ℕ) → 0 < length l → length l < 4 → entries_of l ≡ nothing_named ∷ []
unfolding entries_of
short [] a b = absurd (omega arith)
short (x ∷ []) a b = refl
short (x ∷ y ∷ []) a b = refl
short (x ∷ y ∷ z ∷ []) a b = refl
short (x ∷ y ∷ z ∷ u ∷ l) a b = absurd (omega arith)

-- one entry added or refused, before others
module _ (t f e w e' w' : List ℕ) (x : Entry) (l : List Entry) where
  -- what they become up to the first that is refused
  until-added : AddedAs t f e w e' w' x none → added_until (T t) (function_of f) (x ∷ l) (sorted_of e) ≡ added_until (T t) (function_of f) l (sorted_of e')
  unfolding added_until
  until-added one = let y = one.yes refl in rw (← one.is, y.0)

  until-refused : (n : ℕ) → AddedAs t f e w e' w' x (some n) → sorted_of e' ≡ added_until (T t) (function_of f) (x ∷ l) (sorted_of e)
  unfolding added_until
  until-refused n one = rw (← one.is) (one.no n refl).0

  one-added : AddedAs t f e w e' w' x none
      → (first_of (entries_conditions (T t) (function_of f) (x ∷ l) (sorted_of e)) ≡ first_of (entries_conditions (T t) (function_of f) l (sorted_of e')))
      × (sorted_from (T t) (function_of f) (x ∷ l) (sorted_of e) ≡ sorted_from (T t) (function_of f) l (sorted_of e'))
  unfolding entries_conditions sorted_from
  one-added one = let y = one.yes refl in (first-append (entry_conditions (T t) (function_of f) (sorted_of e) x) _ ∙ rw (← one.is, y.0), rw y.0)

  one-refused : (n : ℕ) → AddedAs t f e w e' w' x (some n) → some n ≡ first_of (entries_conditions (T t) (function_of f) (x ∷ l) (sorted_of e))
  unfolding entries_conditions
  one-refused n one = rw (first-append (entry_conditions (T t) (function_of f) (sorted_of e) x), ← one.is)

module _ (t f e : List ℕ) (numbers : List ℕ) where
  -- the entries before `at` are added, and `left` numbers are left
  pub record Adding (e' w' : List ℕ) (at left : ℕ) : Type 0 where
    pub ok : EntriesOk t f e' w'
    pub first : first_of (entries_conditions (T t) (function_of f) (entries_of numbers) (sorted_of e)) ≡ first_of (entries_conditions (T t) (function_of f) (entries_of (drop at numbers)) (sorted_of e'))
    pub became : sorted_from (T t) (function_of f) (entries_of numbers) (sorted_of e) ≡ sorted_from (T t) (function_of f) (entries_of (drop at numbers)) (sorted_of e')
    pub until : added_until (T t) (function_of f) (entries_of numbers) (sorted_of e) ≡ added_until (T t) (function_of f) (entries_of (drop at numbers)) (sorted_of e')
    pub within : at + left ≡ length numbers

  pub adding-start : (w : List ℕ) → EntriesOk t f e w → Adding e w 0 (length numbers)
  adding-start w ok = record { ok = ok; first = refl; became = refl; until = refl; within = omega arith }

  module _ (e' w' : List ℕ) (at left : ℕ) (h : Adding e' w' at left) where
    abbrev entry : Entry
    entry = entry_of (get_or numbers at 0) (get_or numbers (at + 1) 0) (get_or numbers (at + 2) 0) (get_or numbers (at + 3) 0)

    same_tables : (e'' w'' : List ℕ) (n : ℕ) (x : Entry) → AddedAs t f e' w' e'' w'' x (some n) → EntriesOk t f e'' w''
    same_tables e'' w'' n x one = (one.no n refl).1

    -- no entry is left
    ended : entries_of (drop at numbers) ≡ [] → AllAdded t f e e' w' (entries_of numbers) none
    unfolding entries_conditions sorted_from first_of added_until
    ended none_left = record { is = sym (h.first ∙ rw none_left); until = sym (h.until ∙ rw none_left); yes = λ _. sym (h.became ∙ rw none_left); ok = h.ok }

    -- the first of those left is refused
    stopped : (n : ℕ) (e'' w'' : List ℕ) (x : Entry) (l : List Entry) → entries_of (drop at numbers) ≡ x ∷ l → AddedAs t f e' w' e'' w'' x (some n) → AllAdded t f e e'' w'' (entries_of numbers) (some n)
    stopped n e'' w'' x l is one =
        record {
          is = one-refused t f e' w' e'' w'' x l n one ∙ sym (h.first ∙ rw is);
          until = until-refused t f e' w' e'' w'' x l n one ∙ sym (h.until ∙ rw is);
          yes = λ q. absurd (let z : ◌≡◌ {A = ℕ} 0 1 = cc in omega arith);
          ok = same_tables e'' w'' n x one;
        }

    pub adding-step : (e'' w'' : List ℕ) → 4 ≤ left → AddedAs t f e' w' e'' w'' entry none → Adding e'' w'' (at + 4) (left - 4)
    adding-step e'' w'' l one =
        let is = entries_at numbers at (omega (arith, h.within)) in
        let y = one-added t f e' w' e'' w'' entry (entries_of (drop (at + 4) numbers)) one in
        record {
          ok = (one.yes refl).1;
          first = h.first ∙ rw is y.0;
          became = h.became ∙ rw is y.1;
          until = h.until ∙ rw is (until-added t f e' w' e'' w'' entry (entries_of (drop (at + 4) numbers)) one);
          within = omega (arith, h.within);
        }

    pub adding-refused : (n : ℕ) (e'' w'' : List ℕ) → 4 ≤ left → AddedAs t f e' w' e'' w'' entry (some n) → AllAdded t f e e'' w'' (entries_of numbers) (some n)
    adding-refused n e'' w'' l one = stopped n e'' w'' entry (entries_of (drop (at + 4) numbers)) (entries_at numbers at (omega (arith, h.within))) one

    pub adding-end : left ≤ 0 → AllAdded t f e e' w' (entries_of numbers) none
    unfolding entries_of
    adding-end z = ended (rw (drop_of_length-le numbers {i = at} (omega (arith, h.within))))

    left_over : left < 4 → 0 < left → entries_of (drop at numbers) ≡ nothing_named ∷ []
    left_over a b = let n : length (drop at numbers) ≡ left = omega (arith, length-drop at numbers, h.within) in short (drop at numbers) (omega arith) (omega arith)

    pub adding-short : (e'' w'' : List ℕ) (r : Option ℕ) → left < 4 → 0 < left → AddedAs t f e' w' e'' w'' nothing_named r → AllAdded t f e e'' w'' (entries_of numbers) r
    unfolding entries_conditions sorted_from first_of added_until
    adding-short e'' w'' none a b one =
        let y = one-added t f e' w' e'' w'' nothing_named [] one in
        record {
          is = sym (h.first ∙ rw (left_over a b) y.0);
          until = sym (h.until ∙ rw (left_over a b) (until-added t f e' w' e'' w'' nothing_named [] one));
          yes = λ _. sym (h.became ∙ rw (left_over a b) y.1);
          ok = (one.yes refl).1;
        }
    adding-short e'' w'' (some n) a b one = stopped n e'' w'' nothing_named [] (left_over a b) one

-- all entries of a patch
module _ (t f e e' w' : List ℕ) (g : Grant) (free : List Bool) (numbers list cache : List ℕ) (empty : sorted_of e ≡ nothing_sorted) (p : Patch) (given : Numbered free numbers p) where
  pub patch-refused : (n : ℕ) → AllAdded t f e e' w' (entries_of numbers) (some n)
      → GivesGranted f g (answer_granted t f g p (length list) cache) (R.TheVariants.Refused n) list list cache cache
  patch-refused n h =
      let first : first_of (entries_conditions (T t) (function_of f) p.entries nothing_sorted) ≡ some n = rw given.are (rw empty at (sym h.is)) in
      rw (first-within (T t) (function_of f) g.limit p (length list) (with_made g.made (cache_of cache)), first) (refl, refl, refl)

  patch-built : AllAdded t f e e' w' (entries_of numbers) none → Built t f free e' p
  patch-built h = record { free-is = given.free-is; taken = rw given.are (rw empty at (sym h.is)); is = rw given.are (rw empty at (h.yes refl)) }

  pub patch-resolved : (r : Resolved) (list' cache' : List ℕ) → AllAdded t f e e' w' (entries_of numbers) none → ResolvesGranted g t f free e' r list list' cache cache'
      → GivesGranted f g (answer_granted t f g p (length list) cache) r list list' cache cache'
  patch-resolved r list' cache' h out = rw (built-within t f g.limit free e' p (patch-built h) (length list) (with_made g.made (cache_of cache))) (out p given.free-is)

  pub asked-refused : (n : ℕ) (slots : List ℕ) → AllAdded t f e e' w' (entries_of numbers) (some n)
      → Asks f g.limit (answer_granted t f g p (length list) cache) (A.TheVariants.Refused n) list list cache slots
  asked-refused n slots h =
      let first : first_of (entries_conditions (T t) (function_of f) p.entries nothing_sorted) ≡ some n = rw given.are (rw empty at (sym h.is)) in
      rw (first-within (T t) (function_of f) g.limit p (length list) (with_made g.made (cache_of cache)), first) (refl, refl, tt)

  pub patch-asked : (r : Asked) (list' slots : List ℕ) → AllAdded t f e e' w' (entries_of numbers) none → AsksGranted g t f free e' r list list' cache slots
      → Asks f g.limit (answer_granted t f g p (length list) cache) r list list' cache slots
  patch-asked r list' slots h out = rw (built-within t f g.limit free e' p (patch-built h) (length list) (with_made g.made (cache_of cache))) (out p given.free-is)
