-- Patches drawn and tested one after the other.
use Prim.Native.Nat.{ℕ, zero, suc, ◌+◌, ◌-◌, ◌*◌, ◌<◌, ◌≤◌}
use native.Mathlib.Omega.{arith}
use mathlib.Core.Path.{◌≡◌, refl, sym, ap, subst, ◌∙◌}
use mathlib.Core.Bool.{Bool, true, false}
use mathlib.Core.List.{List, [], ◌∷◌, ◌++◌, map, append_assoc}
use mathlib.Core.Option.{some}
use lib.Dec.{eqb, ltb}
use lib.ListN.{length, get_or, take, drop, length-map, length-append}
use lib.Seq.{take_at}
use Rattle.entity.specs.Logic.{pick, has}
use Rattle.reginfo.specs.RegInfo.{RegInfo}
use Rattle.reginfo.specs.Table.{reg_info_of}
use Rattle.function.specs.Function.{Function}
use Rattle.function.specs.Table.{function_of}
use Rattle.small_set.specs.Set.{set_of}
use Rattle.rules.specs.Edit.{Edit, filter}
use Rattle.rules.specs.Counts.{bit}
use Rattle.rules.specs.Scratch.{Cache}
use Rattle.rules.specs.Patch.{Patch, Answer, refused, resolved, resolve, cache_after}
use Rattle.edit.specs.Word.{word_of}
use Rattle.slots.specs.Stacks.{cache_of}
use Rattle.price.specs.declared.Prices.{Prices}
use Rattle.price.specs.Price.{price_of, in_range}
use Rattle.price.specs.Totals.{added, from_first}
use Rattle.price.proofs.Totals.{out}
use Rattle.price.proofs.Laws.{edits-few}
use Rattle.parallel_moves.specs.declared.Resolved.{Resolved}
use Rattle.parallel_moves.specs.declared.Resolved.TheVariants.{Edits, Refused}
use Rattle.parallel_moves.specs.Given.{Numbered, CacheOk}
use Rattle.parallel_moves.specs.Answers as answers
use Rattle.trying.specs.declared.Tried.{Tried}
use Rattle.trying.specs.declared.Tried as TR
use Rattle.trying.specs.declared.DrawnPatch.{DrawnPatch}
use Rattle.trying.specs.Drawing.{draw_patch, patch_of}
use Rattle.trying.specs.Tried.{Tries, no_tries, followed, judged, tries, drawings}
use Rattle.trying.specs.Report.{accepted_in, refusals_in, is_accepted, is_refused, edits_in, kind_of, of_kind}
use Rattle.trying.specs.Steps.{cell_of, Adds, Room, Told, Counted, PatchDrawn, Ready, answer_at, Once, Many, seed_of, accepted_of}
use Rattle.trying.proofs.Counting.{count-append, count_most}
use Rattle.trying.proofs.Tally.{not_some, accepted-cell, refused-cell}

-- counts of one list and then another
edits-append : (l m : List Answer) → edits_in (l ++ m) ≡ edits_in l ++ edits_in m
unfolding edits_in
edits-append [] m = refl
edits-append (refused n ∷ l) m = edits-append l m
edits-append (resolved es c n ∷ l) m = ap (λ (x : List Edit). es ++ x) (edits-append l m) ∙ sym (append_assoc es (edits_in l) (edits_in m))

price-append : (price : Edit → ℕ) (l m : List Edit) → from_first price (l ++ m) ≡ from_first price l + from_first price m
unfolding added
price-append price [] m = omega arith
price-append price (e ∷ l) m = omega (arith, out price (0 + price e) (l ++ m), out price (0 + price e) l, price-append price l m)

pub cell-append : (p : Prices) (l m : List Answer) (i : ℕ) → cell_of p (l ++ m) i ≡ cell_of p l i + cell_of p m i
unfolding cell_of
cell-append p l m i = go (ltb i 7) (eqb i 0) (eqb i 6)
  where
    go : (a b c : Bool)
        → pick a (pick b (accepted_in (l ++ m)) (pick c (from_first (price_of p) (edits_in (l ++ m))) (of_kind i (edits_in (l ++ m))))) (refusals_in (i - 7) (l ++ m))
        ≡ pick a (pick b (accepted_in l) (pick c (from_first (price_of p) (edits_in l)) (of_kind i (edits_in l)))) (refusals_in (i - 7) l)
        + pick a (pick b (accepted_in m) (pick c (from_first (price_of p) (edits_in m)) (of_kind i (edits_in m)))) (refusals_in (i - 7) m)
    go false b c = count-append (is_refused (i - 7)) l m
    go true true c = count-append is_accepted l m
    go true false true = ap (from_first (price_of p)) (edits-append l m) ∙ price-append (price_of p) (edits_in l) (edits_in m)
    go true false false = ap (of_kind i) (edits-append l m) ∙ count-append (λ e. eqb (kind_of e) i) (edits_in l) (edits_in m)

pub no_cell : (p : Prices) (i : ℕ) → cell_of p [] i ≡ 0
unfolding cell_of filter edits_in added
no_cell p i = go (ltb i 7) (eqb i 0) (eqb i 6)
  where
    go : (a b c : Bool) → ◌≡◌ {A = ℕ} (pick a (pick b 0 (pick c 0 0)) 0) 0
    go false b c = refl
    go true true c = refl
    go true false true = refl
    go true false false = refl

-- what one patch adds is small
most : (b : Bool) (n m : ℕ) → n ≤ m → pick b n 0 ≤ m
most true n m h = h
most false n m h = omega arith

abbrev pub Short : Answer → Type 0
Short (refused n) = Unit {0}
Short (resolved es c m) = length es ≤ 1024

cell-small : (p : Prices) (a : Answer) (i : ℕ) → in_range p ≡ true → Short a → cell_of p (a ∷ []) i ≤ 134217728
cell-small p (refused n) i q h = omega (arith, refused-cell p n i, most (eqb (7 + n) i) 1 1 (omega arith))
cell-small p (resolved es c m) i q h =
    let few : from_first (price_of p) es < 67108864 = edits-few p q es h in
    omega (
      arith,
      accepted-cell p es c m i,
      count_most (λ e. eqb (kind_of e) i) es,
      most (eqb 0 i) 1 1 (omega arith),
      most (eqb 6 i) (from_first (price_of p) es) 67108864 (omega arith),
    )

pub adds-room : (p : Prices) (a : Answer) (t t' : List ℕ) (n : ℕ) → in_range p ≡ true → Short a → Adds p (a ∷ []) t t' → Room (suc n) t → Room n t'
adds-room p a t t' n q h g r = λ i l. omega (arith, g i l, cell-small p a i q h, r i l)

-- what a call gives is this answer of the rules
pub record Tested (f : List ℕ) (a : Answer) (r : Resolved) (list cache cache' : List ℕ) : Type 0 where
  pub told : Told a r list
  pub within : answers.edits_in r ≤ 1024
  pub short : Short a
  pub cache-is : cache_of cache' ≡ cache_after (cache_of cache) a
  pub ok : CacheOk f cache'

no-edits : (r : Resolved) (n : ℕ) → answers.number_of r ≡ some n → answers.edits_in r ≤ 1024
no-edits (Edits k m) n e = absurd (not_some n e)
no-edits (Refused k) n e = omega arith

pub tested : (f : List ℕ) (a : Answer) (r : Resolved) (list list' cache cache' : List ℕ) → length list' ≡ 1024 → CacheOk f cache → answers.Gives f a r list list' cache cache'
    → Tested f a r list' cache cache'
tested f (refused n) r list list' cache cache' h k g =
    record { told = g.0; within = no-edits r n g.0; short = tt; cache-is = ap cache_of g.2; ok = subst (CacheOk f) (sym g.2) k }
tested f (resolved es c m) r list list' cache cache' h k g =
    let n : length es ≤ 1024 = omega (arith, h, ap (length {A = ℕ}) g.2, length-append (map word_of es) (drop (length es) list), length-map es word_of) in
    record {
      told = (g.0, g.1, ap (take (length es)) g.2 ∙ take_at (map word_of es) (drop (length es) list) (length es) (length-map es word_of));
      within = omega (arith, g.1);
      short = n;
      cache-is = g.4;
      ok = g.5;
    }

-- the numbers of a drawn patch give it, and no unit is free
pub patch-numbered : (t f : List ℕ) (seed : ℕ) (numbers numbers' : List ℕ) (d : DrawnPatch) → PatchDrawn t f seed numbers numbers' d
    → Numbered [] (take (d.count * 4) numbers') (patch_of (draw_patch (reg_info_of t) (function_of f) seed))
unfolding has set_of
patch-numbered t f seed numbers numbers' d g = record { free-is = λ u. refl; are = sym g.are }

-- a call of `resolve_patch` with them tests the patch
pub tested-call : (t f : List ℕ) (p : Patch) (free : List Bool) (numbers : List ℕ) (r : Resolved) (list list' cache cache' : List ℕ) → answers.ResolvesPatch t f free numbers r list list' cache cache'
    → Numbered free numbers p → length list ≡ 1024 → length list' ≡ length list → CacheOk f cache → Tested f (resolve (reg_info_of t) (function_of f) p 1024 (cache_of cache)) r list' cache cache'
tested-call t f p free numbers r list list' cache cache' w n h g k =
    tested f (resolve (reg_info_of t) (function_of f) p 1024 (cache_of cache)) r list list' cache cache' (g ∙ h) k
    (subst (λ (room : ℕ). answers.Gives f (resolve (reg_info_of t) (function_of f) p room (cache_of cache)) r list list' cache cache') h (w p n))

-- one try
pub once-tried : (t f : List ℕ) (p : Prices) (seed : ℕ) (tally tally' cache cache' list : List ℕ) (d : DrawnPatch) (numbers numbers' : List ℕ) (r : Resolved) (x : Tried) → in_range p ≡ true
    → PatchDrawn t f seed numbers numbers' d → Tested f (answer_at t f seed cache) r list cache cache' → Counted p r d.seed list tally tally' x → Once t f p seed tally cache x tally' cache'
once-tried t f p seed tally tally' cache cache' list d numbers numbers' r x q g w k =
    let n = k.counts (answer_at t f seed cache) w.told in
    record {
      seed-is = k.seed-is ∙ g.seed-is;
      accepted = n.0;
      cache-is = w.cache-is;
      ok = w.ok;
      adds = n.1;
      room = λ m h. adds-room p (answer_at t f seed cache) tally tally' m q w.short n.1 h;
    }

-- on the way to r: what is counted, and what follows from here
pub record Toward (p : Prices) (r : Tries) (n : ℕ) (tally₀ : List ℕ) (rest : Tries) (left : ℕ) (tally : List ℕ) : Type 0 where
  pub seed : rest.seed ≡ r.seed
  pub cache : rest.cache ≡ r.cache
  pub cells : (i : ℕ) → i < 263 → get_or tally i 0 + cell_of p rest.answers i ≡ get_or tally₀ i 0 + cell_of p r.answers i
  pub room : (m : ℕ) → Room (m + n) tally₀ → Room (m + left) tally

pub toward-start : (p : Prices) (r : Tries) (n : ℕ) (tally : List ℕ) → Toward p r n tally r n tally
toward-start p r n tally = record { seed = refl; cache = refl; cells = λ i h. refl; room = λ m h. h }

pub room-less : (t : List ℕ) (a b : ℕ) → a ≤ b → Room b t → Room a t
room-less t a b h r = λ i l. omega (arith, r i l)

-- a part of it is done
toward-part : (p : Prices) (r : Tries) (n : ℕ) (tally₀ : List ℕ) (part : Tries) (next : ℕ → Cache → Tries) (total left k : ℕ) (tally tally' : List ℕ) → Toward p r n tally₀ (followed part next) total tally
    → left + k ≤ total → Adds p part.answers tally tally' → ((m : ℕ) → Room (m + k) tally → Room m tally') → Toward p r n tally₀ (next part.seed part.cache) left tally'
toward-part p r n tally₀ part next total left k tally tally' g e a q =
    record {
      seed = g.seed;
      cache = g.cache;
      cells = λ i h. omega (arith, g.cells i h, a i h, cell-append p part.answers (next part.seed part.cache).answers i);
      room = λ m h. q (m + left) (room-less tally (m + left + k) (m + total) (omega arith) (g.room m h));
    }

-- all is done
toward-end : (f : List ℕ) (p : Prices) (r : Tries) (n : ℕ) (tally₀ : List ℕ) (rest : Tries) (tally cache : List ℕ) → Toward p r n tally₀ rest 0 tally → rest.answers ≡ [] → cache_of cache ≡ rest.cache → CacheOk f cache
    → Many f p r n tally₀ tally cache
toward-end f p r n tally₀ rest tally cache g e c k =
    record {
      cache-is = c ∙ g.cache;
      ok = k;
      adds = λ i h. omega (arith, g.cells i h, ap (λ (l : List Answer). cell_of p l i) e ∙ no_cell p i);
      room = λ m h. room-less tally m (m + 0) (omega arith) (g.room m h);
    }

module _ (t f : List ℕ) (p : Prices) where
  abbrev T : RegInfo
  T = reg_info_of t

  abbrev F : Function
  F = function_of f

  -- a refused patch is drawn over
  pub drawn-over : (r : Tries) (n : ℕ) (tally₀ : List ℕ) (s left : ℕ) (tally cache tally' cache' : List ℕ) (x : Tried)
      → Toward p r n tally₀ (tries T F left s (cache_of cache)) left tally → 0 < left → Once t f p s tally cache x tally' cache' → accepted_of x ≡ false
      → Toward p r n tally₀ (tries T F (left - 1) (seed_of x) (cache_of cache')) (left - 1) tally'
  unfolding tries bit
  drawn-over r n tally₀ s zero tally cache tally' cache' x g h o a = absurd (omega arith)
  drawn-over r n tally₀ s (suc left) tally cache tally' cache' x g h o a =
      let e : suc left - 1 ≡ left = omega arith in
      rw (e, o.seed-is, o.cache-is) (go (answer_at t f s cache) (sym o.accepted ∙ a) g o.adds)
    where
      go : (b : Answer) → is_accepted b ≡ false → Toward p r n tally₀ (judged b (draw_patch T F s) (cache_of cache) (tries T F left)) (suc left) tally → Adds p (b ∷ []) tally tally'
          → Toward p r n tally₀ (tries T F left (draw_patch T F s).seed (cache_after (cache_of cache) b)) left tally'
      go (refused j) q w k =
          toward-part p r n tally₀ (record { answers = refused j ∷ []; draws = (draw_patch T F s).draws; seed = (draw_patch T F s).seed; cache = cache_of cache }) (tries T F left) (suc left) left 1 tally tally' w (omega arith) k
          (λ m y. o.room m (room-less tally (suc m) (m + 1) (omega arith) y))
      go (resolved es c m) q w k = let z : ◌≡◌ {A = ℕ} 1 0 = ap bit q in absurd (omega arith)

  -- an accepted one ends it
  pub taken : (r : Tries) (n : ℕ) (tally₀ : List ℕ) (s left : ℕ) (tally cache tally' cache' : List ℕ) (x : Tried)
      → Toward p r n tally₀ (tries T F left s (cache_of cache)) left tally → 0 < left → Once t f p s tally cache x tally' cache' → accepted_of x ≡ true
      → (seed_of x ≡ r.seed) × Many f p r n tally₀ tally' cache'
  unfolding tries bit
  taken r n tally₀ s zero tally cache tally' cache' x g h o a = absurd (omega arith)
  taken r n tally₀ s (suc left) tally cache tally' cache' x g h o a = go (answer_at t f s cache) (sym o.accepted ∙ a) g o.adds o.cache-is
    where
      go : (b : Answer) → is_accepted b ≡ true → Toward p r n tally₀ (judged b (draw_patch T F s) (cache_of cache) (tries T F left)) (suc left) tally → Adds p (b ∷ []) tally tally'
          → cache_of cache' ≡ cache_after (cache_of cache) b → (seed_of x ≡ r.seed) × Many f p r n tally₀ tally' cache'
      go (refused j) q w k e = let z : ◌≡◌ {A = ℕ} 0 1 = ap bit q in absurd (omega arith)
      go (resolved es c m) q w k e = (
        o.seed-is ∙ w.seed,
        record {
          cache-is = e ∙ w.cache;
          ok = o.ok;
          adds = λ i l. omega (arith, w.cells i l, k i l);
          room = λ i y. o.room i (room-less tally (suc i) (i + suc left) (omega arith) (w.room i y));
        },
      )

  -- the same of what a match tells
  pub drawn-over-by : (r : Tries) (n : ℕ) (tally₀ : List ℕ) (s left : ℕ) (tally cache tally' cache' : List ℕ) (x : Tried) (k : ℕ)
      → Toward p r n tally₀ (tries T F left s (cache_of cache)) left tally → 0 < left → Once t f p s tally cache x tally' cache' → x ≡ TR.TheVariants.Refused k
      → Toward p r n tally₀ (tries T F (left - 1) k (cache_of cache')) (left - 1) tally'
  drawn-over-by r n tally₀ s left tally cache tally' cache' x k g h o e =
      subst (λ (y : ℕ). Toward p r n tally₀ (tries T F (left - 1) y (cache_of cache')) (left - 1) tally') (ap seed_of e) (drawn-over r n tally₀ s left tally cache tally' cache' x g h o (ap accepted_of e))

  pub taken-by : (r : Tries) (n : ℕ) (tally₀ : List ℕ) (s left : ℕ) (tally cache tally' cache' : List ℕ) (x : Tried) (k : ℕ)
      → Toward p r n tally₀ (tries T F left s (cache_of cache)) left tally → 0 < left → Once t f p s tally cache x tally' cache' → x ≡ TR.TheVariants.Accepted k
      → (k ≡ r.seed) × Many f p r n tally₀ tally' cache'
  taken-by r n tally₀ s left tally cache tally' cache' x k g h o e =
      let a = taken r n tally₀ s left tally cache tally' cache' x g h o (ap accepted_of e) in
      (sym (ap seed_of e) ∙ a.0, a.1)

  -- the tables are as another try asks
  pub ready-again : (cache cache' numbers numbers' list list' : List ℕ) → Ready t f p cache numbers list → CacheOk f cache' → length numbers' ≡ length numbers → length list' ≡ length list
      → Ready t f p cache' numbers' list'
  ready-again cache cache' numbers numbers' list list' g k n l =
      record { checked = g.checked; some-values = g.some-values; ok = k; priced = g.priced; numbers-long = n ∙ g.numbers-long; list-long = l ∙ g.list-long }

  -- the last was refused too
  pub left_out : (r : Tries) (n : ℕ) (tally₀ : List ℕ) (s left : ℕ) (tally cache : List ℕ) → Toward p r n tally₀ (tries T F left s (cache_of cache)) left tally → left ≤ 0 → CacheOk f cache
      → (s ≡ r.seed) × Many f p r n tally₀ tally cache
  unfolding tries
  left_out r n tally₀ s zero tally cache g h k = (g.seed, toward-end f p r n tally₀ (no_tries s (cache_of cache)) tally cache g refl refl k)
  left_out r n tally₀ s (suc left) tally cache g h k = absurd (omega arith)

  -- patch by patch
  pub patch-done : (r : Tries) (n : ℕ) (tally₀ : List ℕ) (s left seed : ℕ) (tally cache tally' cache' : List ℕ) → Toward p r n tally₀ (drawings T F left s (cache_of cache)) (left * 9) tally → 0 < left
      → seed ≡ (tries T F 9 s (cache_of cache)).seed → Many f p (tries T F 9 s (cache_of cache)) 9 tally tally' cache' → Toward p r n tally₀ (drawings T F (left - 1) seed (cache_of cache')) ((left - 1) * 9) tally'
  unfolding drawings
  patch-done r n tally₀ s zero seed tally cache tally' cache' g h e m = absurd (omega arith)
  patch-done r n tally₀ s (suc left) seed tally cache tally' cache' g h e m =
      let z : suc left - 1 ≡ left = omega arith in
      rw (z, e, m.cache-is) (toward-part p r n tally₀ (tries T F 9 s (cache_of cache)) (drawings T F left) (suc left * 9) (left * 9) 9 tally tally' g (omega arith) m.adds m.room)

  pub all_done : (r : Tries) (n : ℕ) (tally₀ : List ℕ) (s left : ℕ) (tally cache : List ℕ) → Toward p r n tally₀ (drawings T F left s (cache_of cache)) (left * 9) tally → left ≤ 0 → CacheOk f cache
      → Many f p r n tally₀ tally cache
  unfolding drawings
  all_done r n tally₀ s zero tally cache g h k = toward-end f p r n tally₀ (no_tries s (cache_of cache)) tally cache g refl refl k
  all_done r n tally₀ s (suc left) tally cache g h k = absurd (omega arith)
