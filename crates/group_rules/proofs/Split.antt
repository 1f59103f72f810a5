-- What the entries of a patch become, group by group: each group's kept moves and rebuilds are those of the whole patch that come of its
-- entries, and a move is dropped in its group exactly where it is in the whole patch.
use Prim.Native.Nat.{ℕ, suc, ◌+◌, ◌≤◌}
use mathlib.Core.Path.{◌≡◌, refl, sym, ap, ◌∙◌, subst}
use mathlib.Core.Bool.{Bool, true, false}
use mathlib.Core.List.Memᴰ
use mathlib.Core.List.{List, [], ◌∷◌, ◌++◌, map, Memᴰ}
use mathlib.Core.Option.{none}
use mathlib.Core.Logic.{◌⊎◌, inl, inr, ⊎_elim}
use native.Mathlib.Omega.{arith}
use lib.Dec.{eqb, leb}
use lib.ListN.{length-append}
use borrow.Author.Tests.{eqb-true, eq-eqb, ne_eqb, leb-false, lt-leb}
use Rattle.entity.specs.Logic.{pick, and, or, no, any_in, has, twice}
use Rattle.entity.specs.Place.{Place, same_place}
use Rattle.entity.proofs.Laws.{and-true}
use Rattle.reginfo.specs.RegInfo.{RegInfo, place_units, overlap}
use Rattle.reginfo.specs.Refused.{first_of}
use Rattle.reginfo.proofs.First.{first-none}
use Rattle.function.specs.Function.{Function}
use Rattle.rules.specs.Order.{KeptMove, Remat}
use Rattle.rules.specs.Patch.{Entry, move, remat, Sorted, destinations, bound, needs_scratch, becomes_remat, same_move, dropped, add, overlaps_earlier, overlaps_source, entry_conditions}
use Rattle.rules.proofs.Steps.{branch}
use Rattle.rules.proofs.Accepted.{same-is}
use Rattle.group_rules.specs.Groups.{near, entry_units}
use Rattle.group_rules.proofs.Lists.{same_test, not-then, and-less, and_right, or-more, or_right, Sub, any-mem, mem-any, any-sub, any_append, any-map, has-append, meet, total, total-grows, every_first}

-- what an entry becomes
data Becomes : Type 0 where
  kept : KeptMove → Becomes
  nothing : Becomes
  plain scratched : Remat → Becomes

abbrev grown : Becomes → Sorted → Sorted
grown (kept m) a = record { moves = a.moves ++ (m ∷ []); remats = a.remats; remats_with_scratch = a.remats_with_scratch; count = suc a.count }
grown nothing a = record { moves = a.moves; remats = a.remats; remats_with_scratch = a.remats_with_scratch; count = suc a.count }
grown (plain r) a = record { moves = a.moves; remats = a.remats ++ (r ∷ []); remats_with_scratch = a.remats_with_scratch; count = suc a.count }
grown (scratched r) a = record { moves = a.moves; remats = a.remats; remats_with_scratch = a.remats_with_scratch ++ (r ∷ []); count = suc a.count }

-- by how much the bound grows
abbrev dear : Becomes → ℕ
dear (kept m) = 8
dear nothing = 0
dear (plain r) = 1
dear (scratched r) = 5

bound-grown : (k : Becomes) (a : Sorted) → bound (grown k a) ≡ bound a + dear k
bound-grown (kept m) a = let e = length-append a.moves (m ∷ []) in omega arith
bound-grown nothing a = omega arith
bound-grown (plain r) a = let e = length-append a.remats (r ∷ []) in omega arith
bound-grown (scratched r) a = let e = length-append a.remats_with_scratch (r ∷ []) in omega arith

-- one more at the end of both
sub-end : {A : Type 0} (l m : List A) (x : A) → Sub l m → Sub (l ++ (x ∷ [])) (m ++ (x ∷ []))
sub-end l m x s y h = ⊎_elim (λ a. Memᴰ.append_left (x ∷ []) (s y a)) (λ a. Memᴰ.append_right m a) (Memᴰ.append_cases l h)

sub_more : {A : Type 0} (l m : List A) (x : A) → Sub l m → Sub l (m ++ (x ∷ []))
sub_more l m x s y h = Memᴰ.append_left (x ∷ []) (s y h)

-- the move as an entry
abbrev pub as_entry : KeptMove → Entry
as_entry m = move m.source m.dest m.value

module _ (t : RegInfo) (f : Function) where
  becomes : Entry → Bool → Becomes
  becomes (move s d v) b =
      pick (becomes_remat t f s d v) (pick (needs_scratch t f d v) (scratched (record { dest = d; value = v })) (plain (record { dest = d; value = v })))
      (pick b nothing (kept (record { source = s; dest = d; value = v })))
  becomes (remat d v) b = pick (needs_scratch t f d v) (scratched (record { dest = d; value = v })) (plain (record { dest = d; value = v }))

  is_dropped : Entry → Sorted → Bool
  is_dropped (move s d v) a = dropped t f a s d v
  is_dropped (remat d v) a = false

  grown-remat : (r : Remat) (a : Sorted) (c : Bool) → pick c (grown (scratched r) a) (grown (plain r) a) ≡ grown (pick c (scratched r) (plain r)) a
  grown-remat r a true = refl
  grown-remat r a false = refl

  grown-move : (r : Remat) (m : KeptMove) (a : Sorted) (b c q : Bool)
      → pick b (pick c (grown (scratched r) a) (grown (plain r) a)) (pick q (grown nothing a) (grown (kept m) a)) ≡ grown (pick b (pick c (scratched r) (plain r)) (pick q nothing (kept m))) a
  grown-move r m a true c q = grown-remat r a c
  grown-move r m a false c true = refl
  grown-move r m a false c false = refl

  add-grown : (e : Entry) (a : Sorted) → add t f e a ≡ grown (becomes e (is_dropped e a)) a
  unfolding add becomes is_dropped
  add-grown (move s d v) a = grown-move (record { dest = d; value = v }) (record { source = s; dest = d; value = v }) a (becomes_remat t f s d v) (needs_scratch t f d v) (dropped t f a s d v)
  add-grown (remat d v) a = grown-remat (record { dest = d; value = v }) a (needs_scratch t f d v)

  any-dests : (q : Place → Bool) (a : Sorted)
      → any_in q (destinations a) ≡ or (any_in (λ (m : KeptMove). q m.dest) a.moves) (or (any_in (λ (r : Remat). q r.dest) a.remats) (any_in (λ (r : Remat). q r.dest) a.remats_with_scratch))
  unfolding destinations
  any-dests q a =
      any_append q (map (λ (m : KeptMove). m.dest) a.moves) _
      ∙ rw (
        any_append q (map (λ (r : Remat). r.dest) a.remats) (map (λ (r : Remat). r.dest) a.remats_with_scratch),
        any-map q (λ (m : KeptMove). m.dest) a.moves,
        any-map q (λ (r : Remat). r.dest) a.remats,
        any-map q (λ (r : Remat). r.dest) a.remats_with_scratch,
      ) refl

  -- `Own g e`: e is an entry of the group g; entries that are near are of one group
  module _ (Own : ℕ → Entry → Type 0) (sep : (x y : ℕ) (e e' : Entry) → Own x e → Own y e' → near t e e' ≡ true → x ≡ y) where
    -- b is what of a comes of the group g
    pub record Piece (g : ℕ) (a b : Sorted) : Type 0 where
      pub moves : Sub b.moves a.moves
      pub own : (m : KeptMove) → Memᴰ m b.moves → Own g (as_entry m)
      pub remats : Sub b.remats a.remats
      pub scratched : Sub b.remats_with_scratch a.remats_with_scratch
      pub count : b.count ≤ a.count

    pub record Split (gs : List ℕ) (a : Sorted) (b : ℕ → Sorted) : Type 0 where
      pub piece : (g : ℕ) → Piece g a (b g)
      pub somewhere : (m : KeptMove) → Memᴰ m a.moves → (g : ℕ) × Memᴰ m (b g).moves
      pub bounds : bound a ≡ total (λ g. bound (b g)) gs

    -- an entry of the group
    piece-in : (g : ℕ) (a b : Sorted) (k : Becomes) → Piece g a b → ((m : KeptMove) → k ≡ kept m → Own g (as_entry m)) → Piece g (grown k a) (grown k b)
    piece-in g a b (kept m) p o =
        record {
          moves = sub-end b.moves a.moves m p.moves;
          own = λ x h. ⊎_elim (p.own x) (λ y. subst (λ (z : KeptMove). Own g (as_entry z)) (sym (Memᴰ.eq_of_singleton y)) (o m refl)) (Memᴰ.append_cases b.moves h);
          remats = p.remats;
          scratched = p.scratched;
          count = let c = p.count in omega arith;
        }
    piece-in g a b nothing p o = record { moves = p.moves; own = p.own; remats = p.remats; scratched = p.scratched; count = let c = p.count in omega arith }
    piece-in g a b (plain r) p o =
        record { moves = p.moves; own = p.own; remats = sub-end b.remats a.remats r p.remats; scratched = p.scratched; count = let c = p.count in omega arith }
    piece-in g a b (scratched r) p o =
        record {
          moves = p.moves;
          own = p.own;
          remats = p.remats;
          scratched = sub-end b.remats_with_scratch a.remats_with_scratch r p.scratched;
          count = let c = p.count in omega arith;
        }

    -- an entry of another
    piece-out : (g : ℕ) (a b : Sorted) (k : Becomes) → Piece g a b → Piece g (grown k a) b
    piece-out g a b (kept m) p =
        record { moves = sub_more b.moves a.moves m p.moves; own = p.own; remats = p.remats; scratched = p.scratched; count = let c = p.count in omega arith }
    piece-out g a b nothing p = record { moves = p.moves; own = p.own; remats = p.remats; scratched = p.scratched; count = let c = p.count in omega arith }
    piece-out g a b (plain r) p =
        record { moves = p.moves; own = p.own; remats = sub_more b.remats a.remats r p.remats; scratched = p.scratched; count = let c = p.count in omega arith }
    piece-out g a b (scratched r) p =
        record {
          moves = p.moves;
          own = p.own;
          remats = p.remats;
          scratched = sub_more b.remats_with_scratch a.remats_with_scratch r p.scratched;
          count = let c = p.count in omega arith;
        }

    moves-keep : (k : Becomes) (b : Sorted) → Sub b.moves (grown k b).moves
    moves-keep (kept m) b x h = Memᴰ.append_left (m ∷ []) h
    moves-keep nothing b x h = h
    moves-keep (plain r) b x h = h
    moves-keep (scratched r) b x h = h

    -- a new one comes of both
    moves-new : (k : Becomes) (a b : Sorted) (m : KeptMove) → Memᴰ m (grown k a).moves → Memᴰ m a.moves ⊎ Memᴰ m (grown k b).moves
    moves-new (kept x) a b m h = ⊎_elim (λ y. inl y) (λ y. inr (Memᴰ.append_right b.moves y)) (Memᴰ.append_cases a.moves h)
    moves-new nothing a b m h = inl h
    moves-new (plain r) a b m h = inl h
    moves-new (scratched r) a b m h = inl h

    -- the pieces after an entry of the group x
    abbrev pub after : ℕ → Entry → (ℕ → Sorted) → ℕ → Sorted
    after x e b g = pick (eqb x g) (add t f e (b g)) (b g)

    -- the destination has a unit
    abbrev pub Solid : Entry → Type 0
    Solid (move s d v) = (u : ℕ) × (has u (place_units t d) ≡ true)
    Solid (remat d v) = Unit {0}

    module _ (gs : List ℕ) (once : twice gs ≡ false) (a : Sorted) (b : ℕ → Sorted) (sp : Split gs a b) (x : ℕ) where
      -- a kept move with the destination of an entry of x is of x too
      its_own : (s d : Place) (v u : ℕ) → Own x (move s d v) → has u (place_units t d) ≡ true → (m : KeptMove) → Memᴰ m a.moves → m.dest ≡ d → Memᴰ m (b x).moves
      its_own s d v u o h m mm e =
          let w = sp.somewhere m mm in
          let l : has u (place_units t m.source ++ place_units t m.dest) ≡ true =
          has-append u (place_units t m.source) (place_units t m.dest) ∙ or_right (has u (place_units t m.source)) (has u (place_units t m.dest)) (ap (λ (z : Place). has u (place_units t z)) e ∙ h) in
          let r : has u (place_units t s ++ place_units t d) ≡ true = has-append u (place_units t s) (place_units t d) ∙ or_right (has u (place_units t s)) (has u (place_units t d)) h in
          let q : w.0 ≡ x = sep w.0 x (as_entry m) (move s d v) ((sp.piece w.0).own m w.1) o (meet u (entry_units t (as_entry m)) (entry_units t (move s d v)) l r) in
          subst (λ (z : ℕ). Memᴰ m (b z).moves) q w.1

      same-dropped : (s d : Place) (v : ℕ) → Own x (move s d v) → Solid (move s d v) → dropped t f a s d v ≡ dropped t f (b x) s d v
      same-dropped s d v o so =
          ap (and (no (becomes_remat t f s d v)))
          (same_test (any_in (same_move t f s d v) a.moves) (any_in (same_move t f s d v) (b x).moves)
          (λ h. let w = any-mem (same_move t f s d v) a.moves h in
          let p = and-true (same_place w.0.source s) _ w.2 in
          let q = and-true (same_place w.0.dest d) (eqb w.0.value v) p.1 in
          mem-any (same_move t f s d v) (b x).moves w.0 (its_own s d v so.0 o so.1 w.0 w.1 (same-is w.0.dest d q.0)) w.2)
          (any-sub (same_move t f s d v) (b x).moves a.moves (sp.piece x).moves))

      same-is_dropped : (e : Entry) → Own x e → Solid e → is_dropped e a ≡ is_dropped e (b x)
      unfolding is_dropped
      same-is_dropped (move s d v) o so = same-dropped s d v o so
      same-is_dropped (remat d v) o so = refl

      owned-move : (s d : Place) (v : ℕ) (m : KeptMove) → Own x (move s d v) → (p c r : Bool)
          → pick p (pick c (scratched (record { dest = d; value = v })) (plain (record { dest = d; value = v }))) (pick r nothing (kept (record { source = s; dest = d; value = v }))) ≡ kept m → Own x (as_entry m)
      owned-move s d v m o true true r q = let z : ◌≡◌ {A = ℕ} 0 1 = cc in absurd (omega arith)
      owned-move s d v m o true false r q = let z : ◌≡◌ {A = ℕ} 0 1 = cc in absurd (omega arith)
      owned-move s d v m o false c true q = let z : ◌≡◌ {A = ℕ} 0 1 = cc in absurd (omega arith)
      owned-move s d v m o false c false q = let z : ◌≡◌ {A = KeptMove} (record { source = s; dest = d; value = v }) m = cc in subst (λ (y : KeptMove). Own x (as_entry y)) z o

      owned-remat : (d : Place) (v : ℕ) (m : KeptMove) (c : Bool) → pick c (scratched (record { dest = d; value = v })) (plain (record { dest = d; value = v })) ≡ kept m → ⊥
      owned-remat d v m true q = let z : ◌≡◌ {A = ℕ} 0 1 = cc in omega arith
      owned-remat d v m false q = let z : ◌≡◌ {A = ℕ} 0 1 = cc in omega arith

      -- a move that is kept is the entry's
      owned : (e : Entry) → Own x e → (m : KeptMove) → becomes e (is_dropped e a) ≡ kept m → Own x (as_entry m)
      unfolding becomes is_dropped
      owned (remat d v) o m q = absurd (owned-remat d v m (needs_scratch t f d v) q)
      owned (move s d v) o m q = owned-move s d v m o (becomes_remat t f s d v) (needs_scratch t f d v) (dropped t f a s d v) q

      pub split-add : (e : Entry) → Own x e → Solid e → has x gs ≡ true → Split gs (add t f e a) (after x e b)
      split-add e o so hx =
          let k = becomes e (is_dropped e a) in
          let ga : add t f e a ≡ grown k a = add-grown e a in
          let gb : add t f e (b x) ≡ grown k (b x) = add-grown e (b x) ∙ ap (λ (q : Bool). grown (becomes e q) (b x)) (sym (same-is_dropped e o so)) in
          let bx : after x e b x ≡ grown k (b x) = ap (λ (q : Bool). pick q (add t f e (b x)) (b x)) (eq-eqb x x refl) ∙ gb in
          let other : (g : ℕ) → (g ≡ x → ⊥) → after x e b g ≡ b g = λ g n. ap (λ (q : Bool). pick q (add t f e (b g)) (b g)) (ne_eqb x g (λ y. n (sym y))) in
          subst (λ (z : Sorted). Split gs z (after x e b)) (sym ga)
          (record {
            piece = λ g. branch (Piece g (grown k a)) (eqb x g) (add t f e (b g)) (b g)
                (λ y. let z : x ≡ g = eqb-true x g y in
                subst (Piece g (grown k a)) (sym (ap (λ (w : ℕ). add t f e (b w)) (sym z) ∙ gb ∙ ap (λ (w : ℕ). grown k (b w)) z)) (piece-in g a (b g) k (sp.piece g) (λ m q. subst (λ (w : ℕ). Own w (as_entry m)) z (owned e o m q))))
                (λ y. piece-out g a (b g) k (sp.piece g));
            somewhere = λ m h. ⊎_elim (λ y. let w = sp.somewhere m y in (w.0, stays w.0 e m w.1))
                (λ y. (x, subst (λ (z : Sorted). Memᴰ m z.moves) (sym bx) y)) (moves-new k a (b x) m h);
            bounds = bound-grown k a ∙ ap (λ (z : ℕ). z + dear k) sp.bounds
                ∙ sym (total-grows (λ g. bound (b g)) (λ g. bound (after x e b g)) gs x (dear k) hx once (ap bound bx ∙ bound-grown k (b x)) (λ g n. ap bound (other g n)));
          })
        where
          stays : (g : ℕ) (e : Entry) (m : KeptMove) → Memᴰ m (b g).moves → Memᴰ m (after x e b g).moves
          stays g e m h =
              branch (λ (z : Sorted). Memᴰ m z.moves) (eqb x g) (add t f e (b g)) (b g)
              (λ y. subst (λ (z : Sorted). Memᴰ m z.moves) (sym (add-grown e (b g))) (moves-keep (becomes e (is_dropped e (b g))) (b g) m h)) (λ y. h)

      -- the tests that an entry passes in the whole patch it passes in its group
      pub dests-less : (q : Place → Bool) → any_in q (destinations (b x)) ≡ true → any_in q (destinations a) ≡ true
      dests-less q h =
          any-dests q a
          ∙ or-more (any_in (λ (m : KeptMove). q m.dest) (b x).moves) (or (any_in (λ (r : Remat). q r.dest) (b x).remats) (any_in (λ (r : Remat). q r.dest) (b x).remats_with_scratch)) _ _
          (any-sub (λ (m : KeptMove). q m.dest) (b x).moves a.moves (sp.piece x).moves)
          (or-more (any_in (λ (r : Remat). q r.dest) (b x).remats) (any_in (λ (r : Remat). q r.dest) (b x).remats_with_scratch) _ _
          (any-sub (λ (r : Remat). q r.dest) (b x).remats a.remats (sp.piece x).remats)
          (any-sub (λ (r : Remat). q r.dest) (b x).remats_with_scratch a.remats_with_scratch (sp.piece x).scratched))
          (sym (any-dests q (b x)) ∙ h)

      fewer : leb 128 a.count ≡ false → leb 128 (b x).count ≡ false
      fewer e = let h = leb-false 128 a.count e in let c = (sp.piece x).count in lt-leb 128 (b x).count (omega arith)

      pub entry-passes : (e : Entry) → Own x e → Solid e → first_of (entry_conditions t f a e) ≡ none → first_of (entry_conditions t f (b x) e) ≡ none
      unfolding entry_conditions
      entry-passes (move s d v) o so h =
          let q = same-dropped s d v o so in
          every_first (entry_conditions t f (b x) (move s d v)) (
            fewer (first-none _ h 0 (omega arith)),
            (
              first-none _ h 1 (omega arith),
              (
                first-none _ h 2 (omega arith),
                (
                  first-none _ h 3 (omega arith),
                  (
                    rw (← q) (and-less (overlaps_earlier t f a d) (overlaps_earlier t f (b x) d) (no (dropped t f a s d v)) (dests-less (λ p. overlap t p d)) (first-none _ h 4 (omega arith))),
                    (
                      rw (← q) (and_right (and (no (becomes_remat t f s d v)) (no (dropped t f a s d v))) (overlaps_source t a s) (overlaps_source t (b x) s) (any-sub _ (b x).moves a.moves (sp.piece x).moves) (first-none _ h 5 (omega arith))),
                      tt,
                    ),
                  ),
                ),
              ),
            ),
          )
      entry-passes (remat d v) o so h =
          every_first (entry_conditions t f (b x) (remat d v)) (
            fewer (first-none _ h 0 (omega arith)),
            (
              first-none _ h 1 (omega arith),
              (
                first-none _ h 2 (omega arith),
                (
                  first-none _ h 3 (omega arith),
                  (
                    not-then (overlaps_earlier t f a d) (overlaps_earlier t f (b x) d) (dests-less (λ p. overlap t p d)) (first-none _ h 4 (omega arith)),
                    tt,
                  ),
                ),
              ),
            ),
          )
