-- The entries of a patch, one after the other.
use Prim.Native.Nat.{ℕ, suc, ◌-◌, ◌<◌, ◌≤◌}
use mathlib.Core.Path.{◌≡◌, refl, sym, ap, ◌∙◌}
use mathlib.Core.Bool.{Bool, true, false}
use mathlib.Core.List.{List, ◌∷◌}
use mathlib.Core.Option.{Option, none, some}
use native.Mathlib.Omega.{arith}
use lib.Dec.{leb}
use lib.ListN.{length, drop}
use Rattle.reginfo.specs.RegInfo.{RegInfo}
use Rattle.reginfo.specs.Refused.{first_of}
use Rattle.reginfo.specs.Table.{reg_info_of}
use Rattle.function.specs.Function.{Function}
use Rattle.function.specs.Table.{function_of}
use Rattle.rules.specs.Patch.{Entry, Sorted, nothing_sorted, entry_conditions, add, sorted_from}
use Rattle.entries.specs.Table.{sorted_of}
use Rattle.entries.specs.Known.{EntriesOk}
use Rattle.number.specs.Read.{Read, got, refused, then}
use Rattle.number.specs.Number.{number}
use Rattle.number.specs.Answer.{NumberAt}
use Rattle.number.specs.declared.Number.TheVariants as N
use Rattle.reading.specs.declared.Next.{Next}
use Rattle.reading.specs.declared.Next.TheVariants.{At, Refused}
use Rattle.job_patch.specs.Patches.{unless_given, entry, entries}
use Rattle.job_patch.specs.Steps.{adding, EntryAt, Entered}

module _ (t f s : List ℕ) where
  abbrev T : RegInfo
  T = reg_info_of t

  abbrev F : Function
  F = function_of f

  -- one entry more in front
  more : (en : Entry) (a : Sorted) (x : Read (List Entry)) (r : Next) (e w : List ℕ) → Entered t f s x (add T F en a) r e w → Entered t f s (then x (λ es q. got (en ∷ es) q)) a r e w
  unfolding sorted_from
  more en a (refused k) r e w h = h
  more en a (got es rest) r e w h = h

  -- an entry that was added, and those after it
  after : (n : ℕ) (a b : Sorted) (x : Read Entry) (rest : List ℕ) (r : Next) (e w : List ℕ) → got b rest ≡ adding T F a x → Entered t f s (entries T F n b rest) b r e w
      → Entered t f s (then x (λ en q. unless_given (first_of (entry_conditions T F a en)) (then (entries T F n (add T F en a) q) (λ es o. got (en ∷ es) o)))) a r e w
  after n a b (refused k) rest r e w h g = absurd (let z : ◌≡◌ {A = ℕ} 0 1 = cc in omega arith)
  after n a b (got en q) rest r e w h g = go (first_of (entry_conditions T F a en)) h
    where
      go : (o : Option ℕ) → got b rest ≡ unless_given o (got (add T F en a) q)
          → Entered t f s (unless_given o (then (entries T F n (add T F en a) q) (λ es o. got (en ∷ es) o))) a r e w
      go (some k) h = absurd (let z : ◌≡◌ {A = ℕ} 0 1 = cc in omega arith)
      go none h =
          let here : b ≡ add T F en a = cc in
          let there : rest ≡ q = cc in
          more en a (entries T F n (add T F en a) q) r e w (rw (here, there) at g)

  -- an entry that was refused
  turned : (n : ℕ) (a : Sorted) (x : Read Entry) (k : ℕ) (e w : List ℕ) → refused k ≡ adding T F a x
      → Entered t f s (then x (λ en q. unless_given (first_of (entry_conditions T F a en)) (then (entries T F n (add T F en a) q) (λ es o. got (en ∷ es) o)))) a (Refused k) e w
  turned n a (refused j) k e w h = let z : k ≡ j = cc in (ap Refused z, tt, tt)
  turned n a (got en q) k e w h = go (first_of (entry_conditions T F a en)) h
    where
      go : (o : Option ℕ) → refused k ≡ unless_given o (got (add T F en a) q) → Entered t f s (unless_given o (then (entries T F n (add T F en a) q) (λ es o. got (en ∷ es) o))) a (Refused k) e w
      go (some j) h = let z : k ≡ j = cc in (ap Refused z, tt, tt)
      go none h = absurd (let z : ◌≡◌ {A = ℕ} 0 1 = cc in omega arith)

  -- of n entries from `at` on, `left` are left from q on
  pub record Entering (at n q left : ℕ) (e w : List ℕ) : Type 0 where
    pub ok : EntriesOk t f e w
    pub within : q ≤ length s
    pub rest : (r : Next) (e' w' : List ℕ) → Entered t f s (entries T F left (sorted_of e) (drop q s)) (sorted_of e) r e' w' → Entered t f s (entries T F n nothing_sorted (drop at s)) nothing_sorted r e' w'

  pub entering-start : (at n : ℕ) (e w : List ℕ) → at ≤ length s → (sorted_of e ≡ nothing_sorted) × EntriesOk t f e w → Entering at n at n e w
  entering-start at n e w l h = record { ok = h.1; within = l; rest = λ r e' w' g. rw h.0 at g }

  module _ (at n q left : ℕ) (e w : List ℕ) (h : Entering at n q left e w) where
    pub entering-full : (b : Bool) → 0 < left → b ≡ true → b ≡ leb 128 (sorted_of e).count → Entered t f s (entries T F n nothing_sorted (drop at s)) nothing_sorted (Refused 15) e w
    unfolding entries
    entering-full b p y is =
        let l : left ≡ suc (left - 1) = omega arith in
        let full : leb 128 (sorted_of e).count ≡ true = sym is ∙ y in
        h.rest (Refused 15) e w (rw (l, full) (refl, tt, tt))

    module _ (b : Bool) (p : 0 < left) (y : b ≡ false) (is : b ≡ leb 128 (sorted_of e).count) where
      pub entering-refused : (k : ℕ) (e' w' : List ℕ) → EntryAt t f s e w (entry T F) q e' w' (Refused k) → Entered t f s (entries T F n nothing_sorted (drop at s)) nothing_sorted (Refused k) e' w'
      unfolding entries
      entering-refused k e' w' g =
          let l : left ≡ suc (left - 1) = omega arith in
          let full : leb 128 (sorted_of e).count ≡ false = sym is ∙ y in
          h.rest (Refused k) e' w' (rw (l, full) (turned (left - 1) (sorted_of e) (entry T F (drop q s)) k e' w' g.reads))

      pub entering-step : (next : ℕ) (e' w' : List ℕ) → EntryAt t f s e w (entry T F) q e' w' (At next) → Entering at n next (left - 1) e' w'
      unfolding entries
      entering-step next e' w' g =
          let l : left ≡ suc (left - 1) = omega arith in
          let full : leb 128 (sorted_of e).count ≡ false = sym is ∙ y in
          record {
            ok = g.past.2;
            within = g.past.1 h.within;
            rest = λ r e'' w'' o. h.rest r e'' w'' (rw (l, full) (after (left - 1) (sorted_of e) (sorted_of e') (entry T F (drop q s)) (drop next s) r e'' w'' g.reads o));
          }

    pub entering-end : left ≤ 0 → Entered t f s (entries T F n nothing_sorted (drop at s)) nothing_sorted (At q) e w
    unfolding entries sorted_from
    entering-end z = let l : left ≡ 0 = omega arith in h.rest (At q) e w (rw l (q, refl, refl, h.within, h.ok, refl))

  -- the count in front
  pub counted-refused : (at k : ℕ) (e w : List ℕ) → NumberAt s at (N.Refused k) → Entered t f s (then (number (drop at s)) (λ n p. entries T F n nothing_sorted p)) nothing_sorted (Refused k) e w
  counted-refused at k e w h = rw (← h.reads) (refl, tt, tt)

  pub counted : (at n next : ℕ) (r : Next) (e w : List ℕ) → NumberAt s at (N.Is n next) → Entered t f s (entries T F n nothing_sorted (drop next s)) nothing_sorted r e w
      → Entered t f s (then (number (drop at s)) (λ n p. entries T F n nothing_sorted p)) nothing_sorted r e w
  counted at n next r e w h g = rw (← h.reads) g
