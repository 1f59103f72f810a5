-- What is known of a call that is not refused: every test of its entries and of the patch was passed, and the run came to its end.
use Prim.Native.Nat.{ℕ, zero, suc, ◌<◌}
use mathlib.Core.Path.{◌≡◌, refl, sym, ap, ◌∙◌}
use mathlib.Core.Bool.{Bool, true, false, true≢false, false≢true}
use mathlib.Core.List.{List, [], ◌∷◌, ◌++◌, map, append-nil, append_assoc}
use mathlib.Core.Option.{Option, none, some}
use native.Mathlib.Omega.{arith}
use lib.Dec.{ltb}
use lib.ListN.{length, get_or}
use borrow.Author.Tests.{ltb-true, ltb-false, eq-eqb, eqb-true}
use Rattle.entity.specs.Logic.{pick, and, or, no, any_in}
use Rattle.entity.specs.Place.{Place, reg, slot, same_place}
use Rattle.entity.proofs.Laws.{or-false, and-true, no_false, never_true, any_at}
use Rattle.reginfo.specs.RegInfo.{RegInfo, in_class, of_bank, overlap}
use Rattle.reginfo.specs.Refused.{first_of}
use Rattle.reginfo.proofs.Laws.{overlap-comm}
use Rattle.reginfo.proofs.First.{first-none}
use Rattle.function.specs.Function.{Function, num_values, value_bank, remat_class, can_rematerialize}
use Rattle.rules.specs.Edit.{Edit}
use Rattle.rules.specs.Scratch.{Cache, ScratchAllocator}
use Rattle.rules.specs.Order.{KeptMove, Remat, no_move, no_remat}
use Rattle.rules.specs.Patch.{Entry, move, remat, Patch, Sorted, nothing_sorted, destinations, bound, Answer, resolved, answer_of, unless_refused, needs_scratch, becomes_remat, dropped, add_remat, add_kept, add, sorted_from, sorted, names_place, overlaps_earlier, overlaps_source, entry_conditions, patch_conditions, run, resolve_sorted, resolve_from, resolve}
use Rattle.rules.specs.Sorted.{MoveOk, RematOk, SortedOk, Ran}

unless_not : (o b : Bool) → and o (no b) ≡ false → b ≡ false → o ≡ false
unless_not false b e q = refl
unless_not true b e q = absurd (true≢false (sym (no_false b e) ∙ q))

-- one more at the end of a list
snoc-all : {A : Type 0} (P : A → Type 0) (l : List A) (x d : A) → ((i : ℕ) → i < length l → P (get_or l i d)) → P x
    → (i : ℕ) → i < length (l ++ (x ∷ [])) → P (get_or (l ++ (x ∷ [])) i d)
snoc-all P [] x d h p zero k = p
snoc-all P [] x d h p (suc i) k = absurd (omega arith)
snoc-all P (y ∷ l) x d h p zero k = h 0 (omega arith)
snoc-all P (y ∷ l) x d h p (suc i) k = snoc-all P l x d (λ j q. h (suc j) (omega arith)) p i (omega arith)

-- the same of every two
snoc-pairs : {A : Type 0} (P : A → A → Type 0) (l : List A) (x d : A) → ((i k : ℕ) → i < length l → k < length l → P (get_or l i d) (get_or l k d))
    → ((i : ℕ) → i < length l → P (get_or l i d) x × P x (get_or l i d)) → P x x
    → (i k : ℕ) → i < length (l ++ (x ∷ [])) → k < length (l ++ (x ∷ [])) → P (get_or (l ++ (x ∷ [])) i d) (get_or (l ++ (x ∷ [])) k d)
snoc-pairs P l x d h e p i k a b =
    snoc-all (λ y. (k : ℕ) → k < length (l ++ (x ∷ [])) → P y (get_or (l ++ (x ∷ [])) k d)) l x d
    (λ j c. snoc-all (P (get_or l j d)) l x d (λ k q. h j k c q) (e j c).0)
    (snoc-all (P x) l x d (λ k q. (e k q).1) p) i a k b

map_snoc : {A B : Type 0} (g : A → B) (l : List A) (x : A) → map g (l ++ (x ∷ [])) ≡ map g l ++ (g x ∷ [])
map_snoc g [] x = refl
map_snoc g (y ∷ l) x = ap (g y ∷◌) (map_snoc g l x)

-- what an answer that is no refusal came from
not-refused : (o : Option ℕ) (r : Answer) (es : List Edit) (c : Cache) (m : ℕ) → unless_refused o r ≡ resolved es c m → (o ≡ none) × (r ≡ resolved es c m)
not-refused none r es c m e = (refl, e)
not-refused (some n) r es c m e = let z : ◌≡◌ {A = ℕ} 0 1 = cc in absurd (omega arith)

answered : (o : Option ScratchAllocator) (es : List Edit) (c : Cache) (m : ℕ) → answer_of o ≡ resolved es c m
    → (k : ScratchAllocator) × (o ≡ some k) × (es ≡ k.edits) × (c ≡ k.cache)
answered none es c m e = let z : ◌≡◌ {A = ℕ} 0 1 = cc in absurd (omega arith)
answered (some k) es c m e = (k, refl, cc, cc)

pub same_self : (p : Place) → same_place p p ≡ true
same_self (reg r) = eq-eqb r r refl
same_self (slot s) = eq-eqb s s refl

pub same-is : (p q : Place) → same_place p q ≡ true → p ≡ q
same-is (reg a) (reg b) e = ap reg (eqb-true a b e)
same-is (slot a) (slot b) e = ap slot (eqb-true a b e)
same-is (reg a) (slot b) e = absurd (false≢true e)
same-is (slot a) (reg b) e = absurd (false≢true e)

-- two places that are not equal are not equal the other way round
differ_comm : (p q : Place) → same_place p q ≡ false → same_place q p ≡ false
differ_comm p q e = never_true (same_place q p) (λ h. true≢false (sym (same_self p) ∙ ap (same_place p) (sym (same-is q p h)) ∙ e))

module _ (t : RegInfo) (f : Function) where
  -- no two of the places overlap
  abbrev Apart : List Place → Type 0
  Apart [] = Unit {0}
  Apart (p ∷ l) = (any_in (overlap t p) l ≡ false) × Apart l

  any-comm : (d : Place) (l : List Place) → any_in (λ p. overlap t p d) l ≡ any_in (overlap t d) l
  unfolding any_in
  any-comm d [] = refl
  any-comm d (p ∷ l) = rw (any-comm d l, overlap-comm t p d)

  any-between : (q : Place → Bool) (xs ys : List Place) (d : Place) → q d ≡ false → any_in q (xs ++ ys) ≡ false → any_in q (xs ++ (d ∷ ys)) ≡ false
  unfolding any_in
  any-between q [] ys d h e = rw h e
  any-between q (x ∷ xs) ys d h e =
      let s = or-false (q x) (any_in q (xs ++ ys)) e in
      rw s.0 (any-between q xs ys d h s.1)

  -- one more, wherever it is put
  between : (xs ys : List Place) (d : Place) → any_in (λ p. overlap t p d) (xs ++ ys) ≡ false → Apart (xs ++ ys) → Apart (xs ++ (d ∷ ys))
  unfolding any_in
  between [] ys d e h = (sym (any-comm d ys) ∙ e, h)
  between (x ∷ xs) ys d e h =
      let s = or-false (overlap t x d) (any_in (λ p. overlap t p d) (xs ++ ys)) e in
      (any-between (overlap t x) xs ys d s.0 h.0, between xs ys d s.1 h.1)

  apart-at : (l : List Place) → Apart l → (i k : ℕ) → i < length l → k < length l → (i ≡ k → ⊥) → overlap t (get_or l i (slot 0)) (get_or l k (slot 0)) ≡ false
  apart-at [] h i k a b d = absurd (omega arith)
  apart-at (p ∷ l) h zero zero a b d = absurd (d refl)
  apart-at (p ∷ l) h zero (suc k) a b d = any_at (overlap t p) l k (slot 0) h.0 (omega arith)
  apart-at (p ∷ l) h (suc i) zero a b d = overlap-comm t (get_or l i (slot 0)) p ∙ any_at (overlap t p) l i (slot 0) h.0 (omega arith)
  apart-at (p ∷ l) h (suc i) (suc k) a b d = apart-at l h.1 i k (omega arith) (omega arith) (λ e. d (ap suc e))

  -- sources that are not equal share no unit
  abbrev Clear : KeptMove → KeptMove → Type 0
  Clear m n = same_place m.source n.source ≡ false → overlap t m.source n.source ≡ false

  -- `SortedOk` with the destinations' part as above
  record Good (a : Sorted) : Type 0 where
    moves : (i : ℕ) → i < length a.moves → MoveOk t f (get_or a.moves i no_move)
    remats : (i : ℕ) → i < length a.remats → RematOk t f true (get_or a.remats i no_remat)
    remats_with_scratch : (i : ℕ) → i < length a.remats_with_scratch → RematOk t f false (get_or a.remats_with_scratch i no_remat)
    apart : Apart (destinations a)
    sources : (i k : ℕ) → i < length a.moves → k < length a.moves → Clear (get_or a.moves i no_move) (get_or a.moves k no_move)

  good-ok : (a : Sorted) → Good a → SortedOk t f a
  good-ok a g = record { moves = g.moves; remats = g.remats; remats_with_scratch = g.remats_with_scratch; apart = apart-at (destinations a) g.apart; sources = g.sources }

  -- one more behind each of three parts
  module _ (xs ys zs : List Place) (d : Place) (e : any_in (λ p. overlap t p d) (xs ++ (ys ++ zs)) ≡ false) (h : Apart (xs ++ (ys ++ zs))) where
    behind-first : Apart ((xs ++ (d ∷ [])) ++ (ys ++ zs))
    behind-first = rw (append_assoc xs (d ∷ []) (ys ++ zs)) (between xs (ys ++ zs) d e h)

    behind-second : Apart (xs ++ ((ys ++ (d ∷ [])) ++ zs))
    behind-second = rw (append_assoc ys (d ∷ []) zs, ← append_assoc xs ys (d ∷ zs)) (between (xs ++ ys) zs d (rw (append_assoc xs ys zs) e) (rw (append_assoc xs ys zs) h))

    behind-third : Apart (xs ++ (ys ++ (zs ++ (d ∷ []))))
    behind-third =
        rw (← append_assoc ys zs (d ∷ []), ← append_assoc xs (ys ++ zs) (d ∷ []))
        (between (xs ++ (ys ++ zs)) [] d (rw (append-nil (xs ++ (ys ++ zs))) e) (rw (append-nil (xs ++ (ys ++ zs))) h))

  abbrev kept-dests : List KeptMove → List Place
  kept-dests l = map (λ (m : KeptMove). m.dest) l

  abbrev remat-dests : List Remat → List Place
  remat-dests l = map (λ (r : Remat). r.dest) l

  -- a source that overlaps no unequal one before it
  clear_of : (a : Sorted) (s d : Place) (v : ℕ) → overlaps_source t a s ≡ false → (i : ℕ) → i < length a.moves
      → Clear (get_or a.moves i no_move) record { source = s; dest = d; value = v } × Clear record { source = s; dest = d; value = v } (get_or a.moves i no_move)
  clear_of a s d v e i h =
      let p = (get_or a.moves i no_move).source in
      let c : same_place p s ≡ false → overlap t p s ≡ false = λ q. unless_not (overlap t p s) (same_place p s) (any_at (λ (m : KeptMove). and (overlap t m.source s) (no (same_place m.source s))) a.moves i no_move e h) q in
      (c, λ q. overlap-comm t s p ∙ c (differ_comm s p q))

  -- an entry whose destination overlaps none before it
  module _ (a : Sorted) (g : Good a) (d : Place) (v : ℕ) (e : overlaps_earlier t f a d ≡ false) where
    good-kept : (s : Place) → overlaps_source t a s ≡ false → MoveOk t f record { source = s; dest = d; value = v } → Good (add_kept t f false s d v a)
    unfolding destinations
    good-kept s e' ok =
        record {
          moves = snoc-all (MoveOk t f) a.moves record { source = s; dest = d; value = v } no_move g.moves ok;
          remats = g.remats;
          remats_with_scratch = g.remats_with_scratch;
          apart =
              rw (map_snoc (λ (m : KeptMove). m.dest) a.moves record { source = s; dest = d; value = v })
              (behind-first (kept-dests a.moves) (remat-dests a.remats) (remat-dests a.remats_with_scratch) d e g.apart);
          sources =
              snoc-pairs Clear a.moves record { source = s; dest = d; value = v } no_move g.sources (clear_of a s d v e')
              (λ q. absurd (true≢false (sym (same_self s) ∙ q)));
        }

    good-remat : (b : Bool) → RematOk t f (no b) record { dest = d; value = v } → Good (add_remat t f b d v a)
    unfolding destinations
    good-remat true ok =
        record {
          moves = g.moves;
          remats = g.remats;
          remats_with_scratch = snoc-all (RematOk t f false) a.remats_with_scratch record { dest = d; value = v } no_remat g.remats_with_scratch ok;
          apart =
              rw (map_snoc (λ (r : Remat). r.dest) a.remats_with_scratch record { dest = d; value = v })
              (behind-third (kept-dests a.moves) (remat-dests a.remats) (remat-dests a.remats_with_scratch) d e g.apart);
          sources = g.sources;
        }
    good-remat false ok =
        record {
          moves = g.moves;
          remats = snoc-all (RematOk t f true) a.remats record { dest = d; value = v } no_remat g.remats ok;
          remats_with_scratch = g.remats_with_scratch;
          apart =
              rw (map_snoc (λ (r : Remat). r.dest) a.remats record { dest = d; value = v })
              (behind-second (kept-dests a.moves) (remat-dests a.remats) (remat-dests a.remats_with_scratch) d e g.apart);
          sources = g.sources;
        }

  never-dropped : (b x : Bool) → b ≡ true → and (no b) x ≡ false
  never-dropped true x q = refl
  never-dropped false x q = absurd (false≢true q)

  no-no : (b : Bool) → no (no b) ≡ b
  no-no true = refl
  no-no false = refl

  -- what the tests of an entry leave known
  remat-ok : (d : Place) (v : ℕ) → names_place t f d ≡ true → v < num_values f → of_bank t (value_bank f v) d ≡ true → can_rematerialize f v ≡ true
      → RematOk t f (no (needs_scratch t f d v)) record { dest = d; value = v }
  remat-ok d v n l b c = record { dest-named = n; value-named = l; dest-bank = b; can = c; in-class = sym (no-no (in_class t (remat_class f v) d)) }

  good-add : (e : Entry) (a : Sorted) → Good a → first_of (entry_conditions t f a e) ≡ none → Good (add t f e a)
  unfolding entry_conditions add destinations
  good-add (remat d v) a g h =
      let q = or-false (no (names_place t f d)) (no (ltb v (num_values f))) (first-none _ h 1 (omega arith)) in
      good-remat a g d v (first-none _ h 4 (omega arith)) (needs_scratch t f d v)
      (remat-ok d v (no_false _ q.0) (ltb-true _ _ (no_false _ q.1)) (no_false _ (first-none _ h 2 (omega arith))) (no_false _ (first-none _ h 3 (omega arith))))
  good-add (move s d v) a g h = go (becomes_remat t f s d v) refl (dropped t f a s d v) refl
    where
      names : (names_place t f s ≡ true) × (names_place t f d ≡ true) × (v < num_values f)
      names =
          let q = or-false (no (names_place t f s)) (or (no (names_place t f d)) (no (ltb v (num_values f)))) (first-none _ h 1 (omega arith)) in
          let p = or-false (no (names_place t f d)) (no (ltb v (num_values f))) q.1 in
          (no_false _ q.0, no_false _ p.0, ltb-true _ _ (no_false _ p.1))

      banks : (no (of_bank t (value_bank f v) s) ≡ false) × (no (of_bank t (value_bank f v) d) ≡ false)
      banks = or-false (no (of_bank t (value_bank f v) s)) (no (of_bank t (value_bank f v) d)) (first-none _ h 2 (omega arith))

      clear : dropped t f a s d v ≡ false → overlaps_earlier t f a d ≡ false
      clear q = unless_not (overlaps_earlier t f a d) (dropped t f a s d v) (first-none _ h 4 (omega arith)) q

      -- 21 was tested, since the move is neither rebuilt nor dropped
      apart : becomes_remat t f s d v ≡ false → dropped t f a s d v ≡ false → overlaps_source t a s ≡ false
      apart q p = rw (p, q) at (first-none _ h 5 (omega arith))

      go : (b : Bool) → becomes_remat t f s d v ≡ b → (c : Bool) → dropped t f a s d v ≡ c → Good (pick b (add_remat t f (needs_scratch t f d v) d v a) (add_kept t f c s d v a))
      go true q c p =
          good-remat a g d v (clear (never-dropped (becomes_remat t f s d v) _ q)) (needs_scratch t f d v)
          (remat-ok d v names.1 names.2 (no_false _ banks.1) (and-true (can_rematerialize f v) _ q).0)
      go false q true p = record { moves = g.moves; remats = g.remats; remats_with_scratch = g.remats_with_scratch; apart = g.apart; sources = g.sources }
      go false q false p =
          good-kept a g d v (clear p) s (apart q p)
          record {
            source-named = names.0;
            dest-named = names.1;
            value-named = names.2;
            source-bank = no_false _ banks.0;
            dest-bank = no_false _ banks.1;
            differ = first-none _ h 3 (omega arith);
          }

  -- the same of `SortedOk`
  none-at : (q : Place → Bool) (l : List Place) → ((i : ℕ) → i < length l → q (get_or l i (slot 0)) ≡ false) → any_in q l ≡ false
  unfolding any_in
  none-at q [] h = refl
  none-at q (p ∷ l) h = rw (h 0 (omega arith)) (none-at q l (λ i b. h (suc i) (omega arith)))

  at-apart : (l : List Place) → ((i k : ℕ) → i < length l → k < length l → (i ≡ k → ⊥) → overlap t (get_or l i (slot 0)) (get_or l k (slot 0)) ≡ false) → Apart l
  at-apart [] h = tt
  at-apart (p ∷ l) h =
      (none-at (overlap t p) l (λ k b. h 0 (suc k) (omega arith) (omega arith) (λ e. omega arith)), at-apart l (λ i k a b d. h (suc i) (suc k) (omega arith) (omega arith) (λ e. d (omega arith))))

  pub sorted-add : (e : Entry) (a : Sorted) → SortedOk t f a → first_of (entry_conditions t f a e) ≡ none → SortedOk t f (add t f e a)
  sorted-add e a ok h =
      good-ok (add t f e a) (good-add e a record { moves = ok.moves; remats = ok.remats; remats_with_scratch = ok.remats_with_scratch; apart = at-apart (destinations a) ok.apart; sources = ok.sources } h)

  good-from : (p : Patch) (room : ℕ) (c c' : Cache) (es : List Edit) (m : ℕ) (l : List Entry) (a : Sorted) → Good a → resolve_from t f p room c l a ≡ resolved es c' m
      → Good (sorted_from t f l a) × (resolve_sorted t f p room c (sorted_from t f l a) ≡ resolved es c' m)
  unfolding sorted_from resolve_from
  good-from p room c c' es m [] a g h = (g, h)
  good-from p room c c' es m (e ∷ l) a g h =
      let q = not-refused (first_of (entry_conditions t f a e)) (resolve_from t f p room c l (add t f e a)) es c' m h in
      good-from p room c c' es m l (add t f e a) (good-add e a g q.0) q.1

  pub accepted : (p : Patch) (room : ℕ) (c c' : Cache) (es : List Edit) (m : ℕ) → resolve t f p room c ≡ resolved es c' m → Ran t f p room c es c'
  unfolding resolve resolve_sorted patch_conditions destinations
  accepted p room c c' es m h =
      let a = sorted t f p in
      let g = good-from p room c c' es m p.entries nothing_sorted
      record { moves = λ i l. absurd (omega arith); remats = λ i l. absurd (omega arith); remats_with_scratch = λ i l. absurd (omega arith); apart = tt; sources = λ i k l q. absurd (omega arith) } h in
      let q = not-refused (first_of (patch_conditions t f p room a)) (answer_of (run t f p a c)) es c' m g.1 in
      let k = answered (run t f p a c) es c' m q.1 in
      record {
        ok = good-ok a g.0;
        free = first-none _ q.0 0 (omega arith);
        last = first-none _ q.0 1 (omega arith);
        room-enough = ltb-false room (bound a) (first-none _ q.0 2 (omega arith));
        allocator = k.0;
        ran = k.1;
        edits = k.2;
        cache = k.3;
      }
