-- One group after the other.
use Prim.Native.Nat.{ℕ, zero, suc, ◌+◌, ◌-◌, ◌<◌, ◌≤◌}
use mathlib.Core.Path.{◌≡◌, refl, sym, ap, subst, ◌∙◌}
use mathlib.Core.Bool.{Bool, true, false}
use mathlib.Core.List.{List, [], ◌∷◌, ◌++◌, map, append-nil, append_assoc}
use mathlib.Core.Option.{none}
use native.Mathlib.Omega.{arith}
use lib.Dec.{eqb, ltb}
use lib.ListN.{length, get_or, take, drop, length-append, length-drop, length-map}
use lib.Seq.{length-take-le, take_all, drop-length}
use borrow.Author.Tests.{ltb-true, ltb-false, lt-ltb, le-ltb}
use Rattle.entity.specs.Logic.{pick, indices, cells}
use Rattle.reginfo.specs.Refused.{first_of}
use Rattle.reginfo.proofs.First.{first-none}
use Rattle.function.specs.Function.{Function}
use Rattle.function.specs.Known.{Checked}
use Rattle.function.specs.Table.{function_of}
use Rattle.rules.specs.Edit.{Edit, filter}
use Rattle.rules.specs.Scratch.{Cache}
use Rattle.rules.specs.Patch.{Patch, nothing_sorted, bound, Answer, refused, resolved, sorted, patch_conditions, resolve}
use Rattle.rules.specs.Refusals.{entries_conditions}
use Rattle.rules.proofs.Accepted.{accepted}
use Rattle.machine.proofs.Bound.{bound-ok}
use Rattle.machine.proofs.EnoughSlots.{accepted-within}
use Rattle.edit.specs.Word.{word_of, AllInRange}
use Rattle.slots.specs.Stacks.{cache_of}
use Rattle.scratch.specs.State.{T}
use Rattle.group_rules.specs.Groups.{near, firsts, part, labels_of, parts, greater, behind, resolve_parts, whole_conditions}
use Rattle.group_rules.specs.Refusals.{no_entry}
use Rattle.group_rules.proofs.Lists.{first-both, total}
use Rattle.group_rules.proofs.Labelled.{labelled}
use Rattle.group_rules.proofs.Parts.{near-comm, split}
use Rattle.group_rules.proofs.Refusals.{Passing, by-run, parts-pass}
use Rattle.parallel_moves.specs.declared.Resolved as R
use Rattle.parallel_moves.specs.Given.{Numbered, GrantOk}
use Rattle.parallel_moves.specs.Answers.{GivesGranted}
use Rattle.groups.specs.Given.{count_of, labels_in}
use Rattle.grouping.specs.Answers.{within, rest, PartsLeave}
use Rattle.grouping.proofs.Laying.{label_at}
use Rattle.grouping.proofs.Testing.{other-room}

-- ---- answers joined
greater-none : (n : ℕ) → greater 0 n ≡ n
greater-none zero = refl
greater-none (suc n) = rw (lt-ltb 0 (suc n) (omega arith))

greater-still : (m : ℕ) → greater m 0 ≡ m
greater-still m = rw (le-ltb m 0 (omega arith))

greater-joined : (m n k : ℕ) → greater m (greater n k) ≡ greater (greater m n) k
greater-joined m n k = go (ltb n k) (ltb m n) refl refl
  where
    go : (a b : Bool) → ltb n k ≡ a → ltb m n ≡ b → greater m (pick a k n) ≡ greater (pick b n m) k
    go true true p q = let x = ltb-true n k p in let y = ltb-true m n q in rw (lt-ltb m k (omega arith), p)
    go true false p q = refl
    go false true p q = rw (q, p)
    go false false p q = let x = ltb-false n k p in let y = ltb-false m n q in rw (le-ltb m n (omega arith), le-ltb m k (omega arith))

behind-none : (r : Answer) → behind [] 0 r ≡ r
behind-none (refused n) = refl
behind-none (resolved es c n) = ap (resolved es c) (greater-none n)

behind-behind : (es fs : List Edit) (m n : ℕ) (r : Answer) → behind es m (behind fs n r) ≡ behind (es ++ fs) (greater m n) r
behind-behind es fs m n (refused k) = refl
behind-behind es fs m n (resolved gs c k) = rw (greater-joined m n k, append_assoc es fs gs)

map-append : (es fs : List Edit) → map word_of (es ++ fs) ≡ map word_of es ++ map word_of fs
map-append [] fs = refl
map-append (e ∷ es) fs = ap (λ (l : List ℕ). word_of e ∷ l) (map-append es fs)

take-front : (l m : List ℕ) (n : ℕ) → n ≡ length l → take n (l ++ m) ≡ l
take-front l m n e = rw e (go l)
  where
    go : (l : List ℕ) → take (length l) (l ++ m) ≡ l
    go [] = refl
    go (x ∷ l) = ap (λ (k : List ℕ). x ∷ k) (go l)

-- the words from `count` on, lent and given back
pub part_length : (words : List ℕ) (count : ℕ) → length (take (length words - count) (drop count words)) ≡ length words - count
part_length words count = ap length (take_all (length words - count) (drop count words) (omega (arith, length-drop count words))) ∙ length-drop count words

pub back_is : (words list : List ℕ) (count : ℕ) → take count words ++ (list ++ drop (length words - count) (drop count words)) ≡ take count words ++ list
back_is words list count = rw (← length-drop count words, drop-length (drop count words), append-nil list)

pub back-length : (words list : List ℕ) (count : ℕ) → count ≤ length words → length list ≡ length (take (length words - count) (drop count words))
    → length (take count words ++ (list ++ drop (length words - count) (drop count words))) ≡ length words
back-length words list count h k = ap length (back_is words list count) ∙ rw (length-append (take count words) list, length-take-le count words h) (omega (arith, k, part_length words count))

all_append : (es fs : List Edit) → AllInRange es → AllInRange fs → AllInRange (es ++ fs)
all_append [] fs a b = b
all_append (e ∷ es) fs a b = (a.0, all_append es fs a.1 b)

-- the words of one group behind those before
joined_words : (es fs : List Edit) (joined joined' list list' : List ℕ) (count m : ℕ) → joined' ≡ take count joined ++ list' → take count joined ≡ map word_of es → count ≡ length es → m ≡ length fs
    → list' ≡ map word_of fs ++ drop (length fs) list → take (count + m) joined' ≡ map word_of (es ++ fs)
joined_words es fs joined joined' list list' count m je we ce me le =
    let front : take count joined ++ list' ≡ (map word_of es ++ map word_of fs) ++ drop (length fs) list = rw (we, le) (sym (append_assoc (map word_of es) (map word_of fs) (drop (length fs) list))) in
    let n : count + m ≡ length (map word_of es ++ map word_of fs) = omega (arith, length-append (map word_of es) (map word_of fs), length-map es word_of, length-map fs word_of, ce, me) in
    ap (take (count + m)) (je ∙ front) ∙ take-front (map word_of es ++ map word_of fs) (drop (length fs) list) (count + m) n ∙ sym (map-append es fs)

-- ---- where the whole patch has passed its tests
module _ (limit : ℕ) (t f : List ℕ) (p : Patch) where
  abbrev W : Function
  W = within t f limit

  abbrev ls : List ℕ
  ls = labels_of (T t) p

  abbrev piece : ℕ → Patch
  piece g = part (T t) p ls g

  -- the first entries among the k from i on
  abbrev heads : ℕ → ℕ → List ℕ
  heads i k = filter (λ g. eqb (get_or ls g 0) g) (indices i k)

  abbrev bounds : List ℕ → ℕ
  bounds gs = total (λ g. bound (sorted (T t) W (piece g))) gs

  -- the groups before entry i of n have run
  pub record Going (c₀ : Cache) (n i : ℕ) (work joined : List ℕ) (count met : ℕ) : Type 0 where
    pub edits : List Edit
    pub answer : (k : ℕ) → i + k ≡ n → resolve_parts (T t) W (parts (T t) p) 1024 c₀ ≡ behind edits met (resolve_parts (T t) W (map piece (heads i k)) 1024 (cache_of work))
    pub counted : count ≡ length edits
    pub words : take count joined ≡ map word_of edits
    pub ranged : AllInRange edits
    pub few : (k : ℕ) → i + k ≡ n → count + bounds (heads i k) ≤ bound (sorted (T t) W p)
    pub pass : (k : ℕ) → i + k ≡ n → Passing (T t) W 1024 (map piece (heads i k))
    pub ok : GrantOk f (rest limit work) work

module _ (limit : ℕ) (t f : List ℕ) (ok : Checked t f) (low : limit ≤ 2048) (p : Patch) (passed : first_of (whole_conditions (T t) (within t f limit) p 1024) ≡ none) where
  abbrev L : Function
  L = within t f limit

  abbrev ms : List ℕ
  ms = labels_of (T t) p

  abbrev bit : ℕ → Patch
  bit g = part (T t) p ms g

  abbrev those : ℕ → ℕ → List ℕ
  those i k = heads limit t f p i k

  abbrev sum : List ℕ → ℕ
  sum gs = bounds limit t f p gs

  abbrev Gone : Cache → ℕ → ℕ → List ℕ → List ℕ → ℕ → ℕ → Type 0
  Gone c₀ n i work joined count met = Going limit t f p c₀ n i work joined count met

  entries_none : first_of (entries_conditions (T t) L p.entries nothing_sorted) ≡ none
  entries_none = (first-both (entries_conditions (T t) L p.entries nothing_sorted) (patch_conditions (T t) L p 1024 (sorted (T t) L p)) passed).0

  pub most : bound (sorted (T t) L p) ≤ 1024
  unfolding patch_conditions
  most = ltb-false 1024 (bound (sorted (T t) L p)) (first-none _ (first-both (entries_conditions (T t) L p.entries nothing_sorted) (patch_conditions (T t) L p 1024 (sorted (T t) L p)) passed).1 2 (omega arith))

  labels-long : length ms ≡ length p.entries
  labels-long = (labelled _ (near (T t)) (near-comm (T t)) no_entry p.entries).each

  pub going_start : (n : ℕ) (work joined : List ℕ) → length p.entries ≡ n → GrantOk f (rest limit work) work → Gone (cache_of work) n 0 work joined 0 0
  unfolding parts firsts
  going_start n work joined len gr =
      record {
        edits = [];
        answer = λ k e. let z : k ≡ length ms = omega (arith, labels-long) in rw z (sym (behind-none (resolve_parts (T t) L (map bit (those 0 (length ms))) 1024 (cache_of work))));
        counted = refl;
        words = refl;
        ranged = tt;
        few = λ k e. let z : k ≡ length ms = omega (arith, labels-long) in rw z (omega (arith, (split (T t) L ok.target p entries_none).bounds));
        pass = λ k e. let z : k ≡ length ms = omega (arith, labels-long) in rw z (parts-pass (T t) L ok.target p 1024 passed);
        ok = gr;
      }

  module _ (c₀ : Cache) (n i : ℕ) (work joined : List ℕ) (count met : ℕ) (low-i : i < n) (g : Gone c₀ n i work joined count met) where
    pub count_most : count ≤ 1024
    count_most = let z = g.few (n - i) (omega arith) in omega (arith, z, most)

    -- an entry that is not the first of its group
    pub going-skip : eqb (get_or ms i 0) i ≡ false → Gone c₀ n (i + 1) work joined count met
    unfolding indices filter
    going-skip other =
        record {
          edits = g.edits;
          answer = λ k e. g.answer (suc k) (omega arith) ∙ ap (λ (l : List ℕ). behind g.edits met (resolve_parts (T t) L (map bit l) 1024 (cache_of work))) (same k);
          counted = g.counted;
          words = g.words;
          ranged = g.ranged;
          few = λ k e. subst (λ (l : List ℕ). count + sum l ≤ bound (sorted (T t) L p)) (same k) (g.few (suc k) (omega arith));
          pass = λ k e. subst (λ (l : List ℕ). Passing (T t) L 1024 (map bit l)) (same k) (g.pass (suc k) (omega arith));
          ok = g.ok;
        }
      where
        same : (k : ℕ) → those i (suc k) ≡ those (i + 1) k
        same k = rw other

    -- the first of a group
    module _ (yes : eqb (get_or ms i 0) i ≡ true) where
      heads-first : (k : ℕ) → those i (suc k) ≡ i ∷ those (i + 1) k
      unfolding indices filter
      heads-first k = rw yes

      left : ℕ
      left = n - (i + 1)

      pub count_low : count + bound (sorted (T t) L (bit i)) ≤ 1024
      unfolding total
      count_low =
          let e : i + suc (n - (i + 1)) ≡ n = omega arith in
          let z = subst (λ (l : List ℕ). count + sum l ≤ bound (sorted (T t) L p)) (heads-first (n - (i + 1))) (g.few (suc (n - (i + 1))) e) in
          omega (arith, z, most)

      passes : first_of (whole_conditions (T t) L (bit i) 1024) ≡ none
      passes =
          let e : i + suc (n - (i + 1)) ≡ n = omega arith in
          (subst (λ (l : List ℕ). Passing (T t) L 1024 (map bit l)) (heads-first (n - (i + 1))) (g.pass (suc (n - (i + 1))) e)).0

      -- the room that is left is enough
      roomy : (room : ℕ) → room ≡ 1024 - count → resolve (T t) L (bit i) room (cache_of work) ≡ resolve (T t) L (bit i) 1024 (cache_of work)
      roomy room e =
          by-run (T t) L (bit i) room (cache_of work) (other-room (T t) L (bit i) 1024 room passes (omega (arith, count_low)))
          ∙ sym (by-run (T t) L (bit i) 1024 (cache_of work) passes)

      module _ (room : ℕ) (re : room ≡ 1024 - count) (list list' work' : List ℕ) (long : length joined ≡ 1024) where
        pub going-refused : (k : ℕ) → GivesGranted f (rest limit work) (resolve (T t) L (bit i) room (cache_of work)) (R.TheVariants.Refused k) list list' work work'
            → resolve_parts (T t) L (parts (T t) p) 1024 c₀ ≡ refused k
        unfolding resolve_parts
        going-refused k out = go (resolve (T t) L (bit i) room (cache_of work)) refl out
          where
            go : (a : Answer) → resolve (T t) L (bit i) room (cache_of work) ≡ a → GivesGranted f (rest limit work) a (R.TheVariants.Refused k) list list' work work'
                → resolve_parts (T t) L (parts (T t) p) 1024 c₀ ≡ refused k
            go (refused m) e o =
                let z : k ≡ m = (let w = o.0 in cc) in
                let q : i + suc (n - (i + 1)) ≡ n = omega arith in
                g.answer (suc (n - (i + 1))) q ∙ rw (heads-first (n - (i + 1)), ← roomy room re, e, z)
            go (resolved es c m) e o = absurd (let w = o.0 in let z : ◌≡◌ {A = ℕ} 0 1 = cc in omega arith)

        pub going_more : (m q : ℕ) (joined' : List ℕ) → joined' ≡ take count joined ++ list' → GivesGranted f (rest limit work) (resolve (T t) L (bit i) room (cache_of work)) (R.TheVariants.Edits m q) list list' work work'
            → Gone c₀ n (i + 1) work' joined' (count + m) (greater met q)
        unfolding resolve_parts total
        going_more m q joined' je out = go (resolve (T t) L (bit i) room (cache_of work)) refl out
          where
            go : (a : Answer) → resolve (T t) L (bit i) room (cache_of work) ≡ a → GivesGranted f (rest limit work) a (R.TheVariants.Edits m q) list list' work work'
                → Gone c₀ n (i + 1) work' joined' (count + m) (greater met q)
            go (refused k) e o = absurd (let w = o.0 in let z : ◌≡◌ {A = ℕ} 0 1 = cc in omega arith)
            go (resolved es c k) e o =
                let whole : resolve (T t) L (bit i) 1024 (cache_of work) ≡ resolved es c k = sym (roomy room re) ∙ e in
                let short : length es ≤ bound (sorted (T t) L (bit i)) = bound-ok (T t) L ok.target (accepted-within (T t) (function_of f) limit ok.function low) (bit i) 1024 (cache_of work) c es (accepted (T t) L (bit i) 1024 (cache_of work) c es k whole) in
                let me : m ≡ length es = o.1 in
                let qe : q ≡ k = o.6 in
                let ce : cache_of work' ≡ c = o.4 in
                let at : (j : ℕ) → i + 1 + j ≡ n → i + suc j ≡ n = λ j h. omega arith in
                record {
                  edits = g.edits ++ es;
                  answer = λ j h. g.answer (suc j) (at j h) ∙ rw (heads-first j, whole, ce, qe) (behind-behind g.edits es met k (resolve_parts (T t) L (map bit (those (i + 1) j)) 1024 c));
                  counted = omega (arith, g.counted, me, length-append g.edits es);
                  words = joined_words g.edits es joined joined' list list' count m je g.words g.counted me o.2;
                  ranged = all_append g.edits es g.ranged o.3;
                  few = λ j h. let z = subst (λ (l : List ℕ). count + sum l ≤ bound (sorted (T t) L p)) (heads-first j) (g.few (suc j) (at j h)) in omega (arith, z, short, me);
                  pass = λ j h. (subst (λ (l : List ℕ). Passing (T t) L 1024 (map bit l)) (heads-first j) (g.pass (suc j) (at j h))).1;
                  ok = rw (← ce) at o.5;
                }

  pub going_end : (c₀ : Cache) (n i : ℕ) (work joined : List ℕ) (count met : ℕ) → i ≡ n → Gone c₀ n i work joined count met
      → PartsLeave limit t f p (resolve_parts (T t) L (parts (T t) p) 1024 c₀) (R.TheVariants.Edits count met) joined work
  unfolding resolve_parts indices filter total
  going_end c₀ n i work joined count met e g =
      let a : resolve_parts (T t) L (parts (T t) p) 1024 c₀ ≡ resolved g.edits (cache_of work) met =
      g.answer 0 (omega arith) ∙ rw (append-nil g.edits, greater-still met) in
      rw a (refl, g.counted, rw (← g.counted) g.words, g.ranged, refl, g.ok, refl, omega (arith, g.few 0 (omega arith), g.counted))

-- whether an entry is the first of its group, by the table of labels
pub first-here : (t : List ℕ) (free : List Bool) (numbers table : List ℕ) → cells table 0 (count_of numbers) ≡ labels_in (T t) numbers → (i : ℕ) → i < count_of numbers → (p : Patch) → Numbered free numbers p
    → eqb (get_or (labels_of (T t) p) i 0) i ≡ eqb (get_or table i 0) i
first-here t free numbers table e i h p num = rw (num.are, label_at (T t) numbers table e i h)
