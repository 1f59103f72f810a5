-- The whole patch's tests: its number, and what is known of its entries where it gets none.
use Prim.Native.Nat.{ℕ, zero, suc, ◌+◌, ◌*◌, ◌<◌, ◌≤◌}
use mathlib.Core.Path.{◌≡◌, refl, sym, ap, ◌∙◌}
use mathlib.Core.Bool.{Bool, true, false}
use mathlib.Core.List.{List, [], ◌∷◌}
use mathlib.Core.Option.{Option, none, some}
use native.Mathlib.Omega.{arith}
use lib.Dec.{eqb}
use lib.ListN.{length, get_or}
use borrow.Author.Tests.{ltb-true, leb-false, le-ltb, eqb-true}
use Rattle.entity.specs.Logic.{pick, has}
use Rattle.entity.specs.Place.{Place, place_at}
use Rattle.entity.proofs.Laws.{or-false, no_false}
use Rattle.reginfo.specs.RegInfo.{RegInfo}
use Rattle.reginfo.specs.Refused.{first_of}
use Rattle.reginfo.proofs.First.{first-none}
use Rattle.function.specs.Function.{Function, num_values}
use Rattle.function.specs.Known.{Checked}
use Rattle.function.specs.Table.{function_of}
use Rattle.function.proofs.Laws.{few-values}
use Rattle.rules.specs.Patch.{Entry, move, remat, Patch, Sorted, nothing_sorted, bound, needs_scratch, becomes_remat, dropped, add_remat, add_kept, add, sorted_from, sorted, names_place, entry_conditions, patch_conditions}
use Rattle.rules.specs.Refusals.{entries_conditions}
use Rattle.small_set.specs.Set.{set_of}
use Rattle.scratch.specs.State.{T}
use Rattle.entries.specs.Table.{sorted_of}
use Rattle.entries.specs.Known.{free_in}
use Rattle.entries.proofs.Fates.{writable, code_fits}
use Rattle.group_rules.specs.Groups.{whole_conditions}
use Rattle.group_rules.specs.Refusals.{no_entry}
use Rattle.group_rules.proofs.Lists.{first-both, first-join, first_some, every_first}
use Rattle.parallel_moves.specs.Given.{nothing_named, entry_of, entries_of}
use Rattle.parallel_moves.specs.Steps.{AllAdded}
use Rattle.groups.specs.Given.{count_of, entry_at, KnownCode, KnownEntry, KnownEntries}
use Rattle.groups.proofs.Entries.{at-entries}
use Rattle.grouping.specs.Answers.{TestedAs}

-- an entry that 2 does not refuse
abbrev Names : RegInfo → Function → Entry → Type 0
Names t f (move s d v) = (names_place t f s ≡ true) × (names_place t f d ≡ true) × (v < num_values f)
Names t f (remat d v) = (names_place t f d ≡ true) × (v < num_values f)

module _ (t : RegInfo) (f : Function) where
  entry-names : (a : Sorted) (e : Entry) → first_of (entry_conditions t f a e) ≡ none → Names t f e
  unfolding entry_conditions
  entry-names a (move s d v) h =
      let x = or-false _ _ (first-none _ h 1 (omega arith)) in
      let y = or-false _ _ x.1 in
      (no_false _ x.0, no_false _ y.0, ltb-true v (num_values f) (no_false _ y.1))
  entry-names a (remat d v) h = let x = or-false _ _ (first-none _ h 1 (omega arith)) in (no_false _ x.0, ltb-true v (num_values f) (no_false _ x.1))

  all-name : (l : List Entry) (a : Sorted) → first_of (entries_conditions t f l a) ≡ none → (k : ℕ) → k < length l → Names t f (get_or l k no_entry)
  unfolding entries_conditions
  all-name [] a h k l = absurd (omega arith)
  all-name (e ∷ l) a h zero q = entry-names a e (first-both (entry_conditions t f a e) _ h).0
  all-name (e ∷ l) a h (suc k) q = all-name l (add t f e a) (first-both (entry_conditions t f a e) _ h).1 k (omega arith)

  -- numbers left over name nothing
  whole : num_values f ≤ 4096 → (l : List ℕ) → ((k : ℕ) → k < length (entries_of l) → Names t f (get_or (entries_of l) k no_entry)) → length l ≡ length (entries_of l) * 4
  unfolding entries_of
  whole n [] h = refl
  whole n (a ∷ []) h = absurd (let z = (h 0 (omega arith)).1 in omega arith)
  whole n (a ∷ b ∷ []) h = absurd (let z = (h 0 (omega arith)).1 in omega arith)
  whole n (a ∷ b ∷ c ∷ []) h = absurd (let z = (h 0 (omega arith)).1 in omega arith)
  whole n (a ∷ b ∷ c ∷ d ∷ l) h = let z = whole n l (λ k q. h (suc k) (omega arith)) in omega arith

  remat-one : (b : Bool) (d : Place) (v : ℕ) (a : Sorted) → (add_remat t f b d v a).count ≡ suc a.count
  remat-one true d v a = refl
  remat-one false d v a = refl

  kept-one : (b : Bool) (s d : Place) (v : ℕ) (a : Sorted) → (add_kept t f b s d v a).count ≡ suc a.count
  kept-one true s d v a = refl
  kept-one false s d v a = refl

  add-one : (e : Entry) (a : Sorted) → (add t f e a).count ≡ suc a.count
  unfolding add
  add-one (remat d v) a = remat-one (needs_scratch t f d v) d v a
  add-one (move s d v) a = go (becomes_remat t f s d v)
    where
      go : (b : Bool) → (pick b (add_remat t f (needs_scratch t f d v) d v a) (add_kept t f (dropped t f a s d v) s d v a)).count ≡ suc a.count
      go true = remat-one (needs_scratch t f d v) d v a
      go false = kept-one (dropped t f a s d v) s d v a

  below : (a : Sorted) (e : Entry) → first_of (entry_conditions t f a e) ≡ none → a.count < 128
  unfolding entry_conditions
  below a (move s d v) h = leb-false 128 a.count (first-none _ h 0 (omega arith))
  below a (remat d v) h = leb-false 128 a.count (first-none _ h 0 (omega arith))

  -- as many as the last one's count
  counted : (l : List Entry) (a : Sorted) → first_of (entries_conditions t f l a) ≡ none → 0 < length l → length l + a.count ≤ 128
  unfolding entries_conditions
  counted [] a h q = absurd (omega arith)
  counted (e ∷ []) a h q = let z = below a e (first-both (entry_conditions t f a e) _ h).0 in omega arith
  counted (e ∷ x ∷ l) a h q =
      let z = counted (x ∷ l) (add t f e a) (first-both (entry_conditions t f a e) _ h).1 (omega arith) in
      omega (arith, z, add-one e a)

module _ (t f : List ℕ) (ok : Checked t f) where
  known-code : (c : ℕ) → names_place (T t) (function_of f) (place_at c) ≡ true → KnownCode (T t) c
  known-code c h = record { fits = code_fits t f ok c h; place = writable t f ok (place_at c) h }

  known-entry : (numbers : List ℕ) (k : ℕ) → Names (T t) (function_of f) (entry_at numbers k) → KnownEntry (T t) numbers k
  unfolding entry_at entry_of
  known-entry numbers k h = go (eqb (get_or numbers (k * 4) 0) 0) (eqb (get_or numbers (k * 4) 0) 1) refl refl h
    where
      a : ℕ
      a = get_or numbers (k * 4) 0

      go : (x y : Bool) → eqb (get_or numbers (k * 4) 0) 0 ≡ x → eqb (get_or numbers (k * 4) 0) 1 ≡ y
          → Names (T t) (function_of f) (pick x (move (place_at (get_or numbers (k * 4 + 1) 0)) (place_at (get_or numbers (k * 4 + 2) 0)) (get_or numbers (k * 4 + 3) 0)) (pick y (remat (place_at (get_or numbers (k * 4 + 1) 0)) (get_or numbers (k * 4 + 2) 0)) nothing_named))
          → KnownEntry (T t) numbers k
      go true y p q n = let z = eqb-true (get_or numbers (k * 4) 0) 0 p in record { kind = omega arith; first = known-code _ n.0; second = λ _. known-code _ n.1 }
      go false true p q n = let z = eqb-true (get_or numbers (k * 4) 0) 1 q in record { kind = omega arith; first = known-code _ n.0; second = λ e. absurd (omega arith) }
      go false false p q n = absurd (let z = few-values (T t) (function_of f) ok.function in let w = n.1 in omega arith)

  entries-known : (numbers : List ℕ) → first_of (entries_conditions (T t) (function_of f) (entries_of numbers) nothing_sorted) ≡ none → KnownEntries (T t) numbers
  entries-known numbers h =
      let names = all-name (T t) (function_of f) (entries_of numbers) nothing_sorted h in
      let w : length numbers ≡ length (entries_of numbers) * 4 = whole (T t) (function_of f) (few-values (T t) (function_of f) ok.function) numbers names in
      let n : count_of numbers ≡ length (entries_of numbers) = omega arith in
      record {
        whole = rw n w;
        few = rw n (most (entries_of numbers) h);
        each = λ k l. let kl : k < length (entries_of numbers) = omega arith in known-entry numbers k (rw (at-entries k numbers (omega arith)) at (names k kl));
      }
    where
      most : (l : List Entry) → first_of (entries_conditions (T t) (function_of f) l nothing_sorted) ≡ none → length l ≤ 128
      most [] h = omega arith
      most (e ∷ l) h = let z = counted (T t) (function_of f) (e ∷ l) nothing_sorted h (omega arith) in omega arith

-- ---- the tests of the whole patch
-- where no unit is in the set unless one is given, the units given are those of the set
pub all-given : (b : Bool) (set : List Bool) → (b ≡ false → (u : ℕ) → set_of set u ≡ false) → (u : ℕ) → set_of set u ≡ set_of (free_in b set) u
unfolding set_of
all-given true set h u = refl
all-given false set h u = h refl u

module _ (t f e e' w' : List ℕ) (free : List Bool) (numbers : List ℕ) (room : ℕ) (ok : Checked t f) (empty : sorted_of e ≡ nothing_sorted) where
  pub entries-refused : (n : ℕ) → AllAdded t f e e' w' (entries_of numbers) (some n) → TestedAs t f free numbers room (some n)
  entries-refused n h =
      record {
        is = λ p q. let first : first_of (entries_conditions (T t) (function_of f) p.entries nothing_sorted) ≡ some n = rw q.are (rw empty at (sym h.is)) in sym (first_some _ (patch_conditions (T t) (function_of f) p room (sorted (T t) (function_of f) p)) n first);
        known = λ q. absurd (let z : ◌≡◌ {A = ℕ} 0 1 = cc in omega arith);
        few = λ q. absurd (let z : ◌≡◌ {A = ℕ} 0 1 = cc in omega arith);
      }

  pub entries-taken : (r : Option ℕ) → AllAdded t f e e' w' (entries_of numbers) none
      → ((p : Patch) → ((u : ℕ) → has u p.free ≡ set_of free u) → r ≡ first_of (patch_conditions (T t) (function_of f) p room (sorted_of e'))) → TestedAs t f free numbers room r
  entries-taken r h rest =
      let first : first_of (entries_conditions (T t) (function_of f) (entries_of numbers) nothing_sorted) ≡ none = rw empty at (sym h.is) in
      let became : sorted_of e' ≡ sorted_from (T t) (function_of f) (entries_of numbers) nothing_sorted = rw empty at (h.yes refl) in
      record {
        is = λ p q. rest p q.free-is ∙ ap (λ (a : Sorted). first_of (patch_conditions (T t) (function_of f) p room a)) (became ∙ ap (λ (l : List Entry). sorted_from (T t) (function_of f) l nothing_sorted) (sym q.are))
            ∙ sym (first-join (entries_conditions (T t) (function_of f) p.entries nothing_sorted) (patch_conditions (T t) (function_of f) p room (sorted (T t) (function_of f) p)) (ap (λ (l : List Entry). first_of (entries_conditions (T t) (function_of f) l nothing_sorted)) q.are ∙ first));
        known = λ _. entries-known t f ok numbers first;
        few = λ _ p q. let s : sorted (T t) (function_of f) p ≡ sorted_of e' = ap (λ (l : List Entry). sorted_from (T t) (function_of f) l nothing_sorted) q.are ∙ sym became in rw s (omega (arith, h.ok.few, h.ok.most));
      }

-- with other room
pub other-room : (t : RegInfo) (f : Function) (p : Patch) (room r : ℕ) → first_of (whole_conditions t f p room) ≡ none → bound (sorted t f p) ≤ r → first_of (whole_conditions t f p r) ≡ none
unfolding patch_conditions
other-room t f p room r h few =
    let q = first-both (entries_conditions t f p.entries nothing_sorted) (patch_conditions t f p room (sorted t f p)) h in
    first-join (entries_conditions t f p.entries nothing_sorted) _ q.0
    ∙ every_first (patch_conditions t f p r (sorted t f p)) (first-none _ q.1 0 (omega arith), (first-none _ q.1 1 (omega arith), (le-ltb r (bound (sorted t f p)) few, tt)))
