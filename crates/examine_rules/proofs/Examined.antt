-- 02 m: the answer is the one that is asked for.
use mathlib.Core.Path.{◌≡◌, refl, sym, ◌∙◌, ap, ap₂}
use mathlib.Core.Bool.{Bool, true, false, false≢true, true≢false}
use mathlib.Core.List.{List, [], ◌∷◌, Memᴰ}
use mathlib.Core.Option.{Option, none, some}
use mathlib.Core.Logic.{◌⊎◌, inl, inr}
use Prim.Native.Nat.{ℕ, zero, suc, ◌+◌, ◌<◌, ◌≤◌}
use native.Mathlib.Omega.{arith}
use lib.Dec.{eqb}
use lib.ListN.{length, get_or}
use borrow.Author.Tests.{eqb-true, eq-eqb}
use Rattle.entity.specs.Logic.{pick, and, or, no, all_in, has, indices}
use Rattle.entity.proofs.Laws.{and-true, never_true}
use Rattle.reginfo.specs.RegInfo.{RegInfo}
use Rattle.reginfo.specs.Refused as target
use Rattle.function.specs.Function.{Function, num_values}
use Rattle.function.specs.Refused as function
use Rattle.rules.specs.Edit.{Edit}
use Rattle.rules.specs.Order.{KeptMove, no_move}
use Rattle.rules.specs.Patch.{Entry, Patch, Sorted, sorted}
use Rattle.rules.specs.Sorted.{SortedOk}
use Rattle.machine.specs.Machine.{Memory, Machine, begin, read, steps}
use Rattle.machine.specs.Claim.{entry_dest, entry_value}
use Rattle.machine.proofs.Entries.{Became, entry-ends}
use Rattle.examine_rules.specs.Examine.{Verdict, Yes, No, Refused, same_words, is_dest_unit, is_dest_slot, Ends, Does, Fails, generic_content, generic_start, no_start, ends_right, judged, judged_from, named, examine, patch_refusal}
use Rattle.examine_rules.specs.Examined.{AllNamed, AnswersOf, Examined}
use Rattle.examine_rules.proofs.Given.{tested-of, low, narrow}
use Rattle.examine_rules.proofs.Simulation.{read-image, steps-image}
use Rattle.examine_rules.proofs.Generic.{φ, ψ, short, few_words, same, Renamed, start-image, generic-contents, generic-holds, none-starts}

-- ---- tests
words_are : (l m : List ℕ) → same_words l m ≡ true → l ≡ m
unfolding same_words
words_are [] [] h = refl
words_are [] (y ∷ m) h = absurd (false≢true h)
words_are (x ∷ l) [] h = absurd (false≢true h)
words_are (x ∷ l) (y ∷ m) h = let q = and-true (eqb x y) (same_words l m) h in ap₂ ◌∷◌ (eqb-true x y q.0) (words_are l m q.1)

self-words : (l : List ℕ) → same_words l l ≡ true
unfolding same_words
self-words [] = refl
self-words (x ∷ l) = rw (eq-eqb x x refl) (self-words l)

are_words : (l m : List ℕ) → l ≡ m → same_words l m ≡ true
are_words l m e = rw (← e) (self-words l)

both : (a b : Bool) → a ≡ true → b ≡ true → and a b ≡ true
both a b h k = rw (h, k)

pub all-mem : {A : Type 0} (p : A → Bool) (l : List A) → all_in p l ≡ true → (x : A) → Memᴰ x l → p x ≡ true
unfolding all_in
all-mem {A = A} p [] h x x4 = elim x4 [ ]
all-mem p (y ∷ l) h x (Memᴰ.head e) = rw e (and-true (p y) (all_in p l) h).0
all-mem p (y ∷ l) h x (Memᴰ.tail m) = all-mem p l (and-true (p y) (all_in p l) h).1 x m

pub mem-all : {A : Type 0} (p : A → Bool) (l : List A) → ((x : A) → Memᴰ x l → p x ≡ true) → all_in p l ≡ true
unfolding all_in
mem-all p [] h = refl
mem-all p (y ∷ l) h = both (p y) (all_in p l) (h y (Memᴰ.head refl)) (mem-all p l (λ x m. h x (Memᴰ.tail m)))

pub not-all : {A : Type 0} (p : A → Bool) (l : List A) → all_in p l ≡ false → (x : A) × Memᴰ x l × (p x ≡ false)
unfolding all_in
not-all p [] h = absurd (true≢false h)
not-all {A} p (y ∷ l) h = go (p y) refl h (not-all p l)
  where
    go : (b : Bool) → p y ≡ b → and b (all_in p l) ≡ false → (all_in p l ≡ false → (x : A) × Memᴰ x l × (p x ≡ false)) → (x : A) × Memᴰ x (y ∷ l) × (p x ≡ false)
    go false e k on = (y, Memᴰ.head refl, e)
    go true e k on = let w = on k in (w.0, Memᴰ.tail w.1, w.2)

all_from : (p : ℕ → Bool) (a n : ℕ) → all_in p (indices a n) ≡ true → (i : ℕ) → i < n → p (a + i) ≡ true
unfolding all_in indices
all_from p a zero h i k = absurd (omega arith)
all_from p a (suc n) h zero k = let e : a + 0 ≡ a = omega arith in rw e (and-true (p a) (all_in p (indices (a + 1) n)) h).0
all_from p a (suc n) h (suc i) k =
    let e : a + suc i ≡ a + 1 + i = omega arith in
    ap p e ∙ all_from p (a + 1) n (and-true (p a) (all_in p (indices (a + 1) n)) h).1 i (omega arith)

from_all : (p : ℕ → Bool) (a n : ℕ) → ((i : ℕ) → i < n → p (a + i) ≡ true) → all_in p (indices a n) ≡ true
unfolding all_in indices
from_all p a zero h = refl
from_all p a (suc n) h =
    let e : a + 0 ≡ a = omega arith in
    both (p a) (all_in p (indices (a + 1) n)) (ap p (sym e) ∙ h 0 (omega arith)) (from_all p (a + 1) n (λ i k. let q : a + 1 + i ≡ a + suc i = omega arith in ap p q ∙ h (suc i) (omega arith)))

all-below : (p : ℕ → Bool) (n : ℕ) → all_in p (indices 0 n) ≡ true → (i : ℕ) → i < n → p i ≡ true
all-below p n h i k = let e : 0 + i ≡ i = omega arith in ap p (sym e) ∙ all_from p 0 n h i k

below_all : (p : ℕ → Bool) (n : ℕ) → ((i : ℕ) → i < n → p i ≡ true) → all_in p (indices 0 n) ≡ true
below_all p n h = from_all p 0 n (λ i k. let e : 0 + i ≡ i = omega arith in ap p e ∙ h i k)

-- unless the one, the other
other : (a b : Bool) → or a b ≡ true → a ≡ false → b ≡ true
other a b h e = rw e at h

unless : (a b : Bool) → (a ≡ false → b ≡ true) → or a b ≡ true
unless true b h = refl
unless false b h = h refl

-- ---- the answer, by its tests
yes-parts : (a b : Bool) (v : Verdict) → pick (no a) (Refused 24) (pick b Yes v) ≡ Yes → (a ≡ true) × ((b ≡ true) ⊎ ((b ≡ false) × (v ≡ Yes)))
yes-parts false b v e = absurd (let z : ◌≡◌ {A = ℕ} 0 1 = cc in omega arith)
yes-parts true true v e = (refl, inl refl)
yes-parts true false v e = (refl, inr (refl, e))

no-parts : (a b : Bool) (v : Verdict) → pick (no a) (Refused 24) (pick b Yes v) ≡ No → (a ≡ true) × (b ≡ false) × (v ≡ No)
no-parts false b v e = absurd (let z : ◌≡◌ {A = ℕ} 0 1 = cc in omega arith)
no-parts true true v e = absurd (let z : ◌≡◌ {A = ℕ} 0 1 = cc in omega arith)
no-parts true false v e = (refl, refl, e)

refused-parts : (a b : Bool) (v : Verdict) (n : ℕ) → (v ≡ Refused n → ⊥) → pick (no a) (Refused 24) (pick b Yes v) ≡ Refused n → (a ≡ false) × (n ≡ 24)
refused-parts false b v n h e = (refl, cc)
refused-parts true true v n h e = absurd (let z : ◌≡◌ {A = ℕ} 0 1 = cc in omega arith)
refused-parts true false v n h e = absurd (h e)

-- one of three, and two of them are not
third : (a b : Bool) (v : Verdict) → a ≡ true → ((n : ℕ) → v ≡ Refused n → ⊥) → (pick (no a) (Refused 24) (pick b Yes v) ≡ Yes → ⊥) → pick (no a) (Refused 24) (pick b Yes v) ≡ No
third false b v e r n = absurd (false≢true e)
third true true v e r n = absurd (n refl)
third true false Yes e r n = absurd (n refl)
third true false No e r n = refl
third true false (Refused m) e r n = absurd (r m refl)

module _ (t : RegInfo) (f : Function) (p : Patch) where
  judged-yes : (content : ℕ → List ℕ) (start : Memory) (o : Option Machine) → judged t f p content start o ≡ Yes → (s : Machine) × (o ≡ some s) × (ends_right t f p content start s.memory ≡ true)
  judged-yes content start none e = absurd (let z : ◌≡◌ {A = ℕ} 0 1 = cc in omega arith)
  judged-yes content start (some s) e = (s, refl, go (ends_right t f p content start s.memory) e)
    where
      go : (b : Bool) → pick b Yes No ≡ Yes → b ≡ true
      go true e = refl
      go false e = absurd (let z : ◌≡◌ {A = ℕ} 0 1 = cc in omega arith)

  judged-no : (content : ℕ → List ℕ) (start : Memory) (o : Option Machine) (s : Machine) → o ≡ some s → ends_right t f p content start s.memory ≡ true → judged t f p content start o ≡ No → ⊥
  judged-no content start o s e h n = let q : judged t f p content start o ≡ Yes = rw (e, h) in let z : ◌≡◌ {A = ℕ} 0 1 = cc in omega arith

  judged-neither : (content : ℕ → List ℕ) (start : Memory) (o : Option Machine) (n : ℕ) → judged t f p content start o ≡ Refused n → ⊥
  judged-neither content start none n e = let z : ◌≡◌ {A = ℕ} 0 1 = cc in omega arith
  judged-neither content start (some s) n e = go (ends_right t f p content start s.memory) e
    where
      go : (b : Bool) → pick b Yes No ≡ Refused n → ⊥
      go true e = let z : ◌≡◌ {A = ℕ} 0 1 = cc in omega arith
      go false e = let z : ◌≡◌ {A = ℕ} 0 1 = cc in omega arith

  -- `ends_right` says whether it `Ends`
  of-ends : (content : ℕ → List ℕ) (start m : Memory) → Ends t f p content start m → ends_right t f p content start m ≡ true
  unfolding ends_right
  of-ends content start m h =
      both _ _ (mem-all _ p.entries (λ e k. are_words _ _ (h.entries e k)))
      (both _ _
      (below_all _ 512 (λ u k. unless (is_dest_unit t f p u) _ (λ d. unless (has u p.free) _ (λ n. let q = h.units u k d n in both _ _ (eq-eqb _ _ q.0) (are_words _ _ q.1)))))
      (below_all _ f.slots (λ x k. unless (is_dest_slot t f p x) _ (λ d. are_words _ _ (h.slots x k d)))))

  ends_of : (content : ℕ → List ℕ) (start m : Memory) → ends_right t f p content start m ≡ true → Ends t f p content start m
  unfolding ends_right
  ends_of content start m h =
      let q = and-true (all_in (λ e. same_words (read t f m (entry_dest e)) (content (entry_value e))) p.entries) _ h in
      let r = and-true (all_in (λ u. or (is_dest_unit t f p u) (or (has u p.free) (and (eqb (m.word u) (start.word u)) (same_words (m.lists u) (start.lists u))))) (indices 0 512)) _ q.1 in
      record {
        entries = λ e k. words_are _ _ (all-mem _ p.entries q.0 e k);
        units = λ u k d n.
            let w = and-true (eqb (m.word u) (start.word u)) (same_words (m.lists u) (start.lists u)) (other (has u p.free) _ (other (is_dest_unit t f p u) _ (all-below _ 512 r.0 u k) d) n) in
            (eqb-true _ _ w.0, words_are _ _ w.1);
        slots = λ x k d. words_are _ _ (other (is_dest_slot t f p x) _ (all-below _ f.slots r.1 x k) d);
      }

  module _ (ta : target.Accepted t) (fa : function.Accepted t f) (acc : patch_refusal t f p ≡ none) where
    abbrev a : Sorted
    a = sorted t f p

    abbrev ms : List KeptMove
    ms = a.moves

    abbrev γ : ℕ → List ℕ
    γ = generic_content t f ms

    abbrev start₀ : Memory
    start₀ = generic_start t f ms

    ok : SortedOk t f a
    ok = (tested-of t f p acc).ok

    few : length ms ≤ 128
    few = let g = tested-of t f p acc in omega (arith, g.kept, g.most)

    valued : (i : ℕ) → i < length ms → (get_or ms i no_move).value < num_values f
    valued i h = (ok.moves i h).value-named

    -- an entry's value is one of the function's
    entry-valued : (e : Entry) → Memᴰ e p.entries → entry_value e < num_values f
    entry-valued e m = go (entry-ends t f p e m)
      where
        go : Became t f p e → entry_value e < num_values f
        go (inl w) = rw w.3 (ok.moves w.0 w.1).value-named
        go (inr (inl w)) = rw w.3 (ok.remats w.0 w.1).value-named
        go (inr (inr w)) = rw w.3 (ok.remats_with_scratch w.0 w.1).value-named

    module _ (most : ℕ) (es : List Edit) (al : all_in (named t f most) es ≡ true) where
      -- what is right from the generic start is right from every start
      from-generic : (s : Machine) → steps t f γ es (begin start₀) ≡ some s → Ends t f p γ start₀ s.memory → Does t f p es
      from-generic s ran ends content whole start hold =
          let φ₀ : ℕ → ℕ = φ t f ta fa ms few valued content whole start hold in
          let ψ₀ : List ℕ → List ℕ = ψ t f ta fa ms few valued content whole start hold in
          let sh = short t f ta fa ms few valued content whole start hold in
          let sm = same t f ta fa ms few valued content whole start hold in
          let i = start-image t f ta fa ms few valued content whole start hold in
          let x = steps-image t f (low t f ta) (narrow t f ta) φ₀ ψ₀ sh γ content (few_words t f ta fa ms few valued content whole start hold) sm most es (begin start₀) s (begin start) al i ran in
          let s' : Machine = x.0 in
          let j : Renamed t f ta fa ms few valued content whole start hold s.memory s'.memory = x.2 in (
            s',
            x.1,
            record {
              entries = λ e m. read-image t f (low t f ta) (narrow t f ta) φ₀ ψ₀ sh s.memory s'.memory j (entry_dest e) ∙ ap ψ₀ (ends.entries e m) ∙ sm (entry_value e) (entry-valued e m);
              units = λ u k d n.
                  let q = ends.units u k d n in
                  (j.words u k ∙ ap φ₀ q.0 ∙ sym (i.words u k), j.lists u ∙ ap ψ₀ q.1 ∙ sym (i.lists u));
              slots = λ y k d. j.lists (512 + y) ∙ ap ψ₀ (ends.slots y k d) ∙ sym (i.lists (512 + y));
            },
          )

      yes-does : (no_start t f ms ≡ true) ⊎ ((no_start t f ms ≡ false) × (judged_from t f p es γ start₀ ≡ Yes)) → Does t f p es
      yes-does (inl n) = λ content whole start hold. absurd (none-starts t f ta fa a ok n content whole start hold)
      yes-does (inr h) = let w = judged-yes γ start₀ (steps t f γ es (begin start₀)) h.1 in from-generic w.0 w.1 (ends_of γ start₀ w.0.memory w.2)

      does-yes : Does t f p es → no_start t f ms ≡ false → judged_from t f p es γ start₀ ≡ Yes
      does-yes d n =
          let w = d γ (generic-contents t f ta fa ms) start₀ (generic-holds t f ta fa a ok n) in
          rw (w.1, of-ends γ start₀ w.0.memory w.2)

    module _ (most : ℕ) (es : List Edit) where
      abbrev are-named : Bool
      are-named = all_in (named t f most) es

      abbrev no_start_lem : Bool
      no_start_lem = no_start t f ms

      abbrev verdict : Verdict
      verdict = judged_from t f p es γ start₀

      neither : (n : ℕ) → verdict ≡ Refused n → ⊥
      neither n = judged-neither γ start₀ (steps t f γ es (begin start₀)) n

      if_yes : examine t f p most es ≡ Yes → AllNamed t f most es × Does t f p es
      unfolding examine
      if_yes e = let q = yes-parts are-named no_start_lem verdict e in (all-mem (named t f most) es q.0, yes-does most es q.0 q.1)

      is-yes : (x n : Bool) → x ≡ true → (n ≡ false → verdict ≡ Yes) → pick (no x) (Refused 24) (pick n Yes verdict) ≡ Yes
      is-yes false n e h = absurd (false≢true e)
      is-yes true true e h = refl
      is-yes true false e h = h refl

      yes-if : AllNamed t f most es → Does t f p es → examine t f p most es ≡ Yes
      unfolding examine
      yes-if h d = let al = mem-all (named t f most) es h in is-yes are-named no_start_lem al (does-yes most es al d)

      -- the generic start is the one that fails
      if_no : examine t f p most es ≡ No → AllNamed t f most es × Fails t f p es
      unfolding examine
      if_no e =
          let q = no-parts are-named no_start_lem verdict e in (
            all-mem (named t f most) es q.0,
            (γ, generic-contents t f ta fa ms, start₀, generic-holds t f ta fa a ok q.1, λ w. judged-no γ start₀ (steps t f γ es (begin start₀)) w.0 w.1 (of-ends γ start₀ w.0.memory w.2) q.2),
          )

      no-if : AllNamed t f most es → Fails t f p es → examine t f p most es ≡ No
      unfolding examine
      no-if h x =
          let al = mem-all (named t f most) es h in
          third are-named no_start_lem verdict al neither (λ e. x.4 (yes-does most es al (yes-parts are-named no_start_lem verdict e).1 x.0 x.1 x.2 x.3))

      if-refused : (n : ℕ) → examine t f p most es ≡ Refused n → (n ≡ 24) × (e : Edit) × Memᴰ e es × (named t f most e ≡ false)
      unfolding examine
      if-refused n e = let q = refused-parts are-named no_start_lem verdict n (neither n) e in let w = not-all (named t f most) es q.0 in (q.1, w.0, w.1, w.2)

      refused-if : (e : Edit) → Memᴰ e es → named t f most e ≡ false → examine t f p most es ≡ Refused 24
      unfolding examine
      refused-if e m h = let x : are-named ≡ false = never_true are-named (λ al. false≢true (sym h ∙ all-mem (named t f most) es al e m)) in rw x

      pub answers : AnswersOf t f p most es
      answers =
          record {
            yes-if = (if_yes, λ h. yes-if h.0 h.1);
            no-if = (if_no, λ h. no-if h.0 h.1);
            refused-if = λ n. (if-refused n, λ h. rw h.0 (refused-if h.1 h.2 h.3));
          }

pub examined : Examined
examined t f ta fa p acc = answers t f p ta fa acc
