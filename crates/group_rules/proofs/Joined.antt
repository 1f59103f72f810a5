-- Demand 3 of a call by groups: while a group runs the machine changes at its destinations, its free units and emergency slots alone. A later
-- group's sources are none of these, nor an earlier group's destinations. So what holds of each group holds of the joined list.
use Prim.Native.Nat.{ℕ, zero, suc, ◌-◌, ◌<◌, ◌≤◌}
use mathlib.Core.Path.{◌≡◌, refl, sym, ap, ◌∙◌, subst}
use mathlib.Core.Bool.{Bool, true, false, false≢true, true≢false}
use mathlib.Core.List.Memᴰ
use mathlib.Core.List.{List, [], ◌∷◌, ◌++◌, map, Memᴰ}
use mathlib.Core.Option.{Option, none, some}
use mathlib.Core.Logic.{◌⊎◌, inl, inr, ⊎_elim}
use native.Mathlib.Omega.{arith}
use lib.Dec.{eqb, ltb}
use lib.ListN.{length, get_or, take, length-append}
use borrow.Author.Tests.{eqb-true, eq-eqb, ne_eqb}
use Rattle.entity.specs.Logic.{pick, or, no, any_in, has, meets, twice}
use Rattle.entity.specs.Place.{Place, reg, slot, same_place}
use Rattle.entity.proofs.Laws.{or-false, no_false, never_true}
use Rattle.reginfo.specs.RegInfo.{RegInfo, place_units}
use Rattle.reginfo.specs.Refused as target
use Rattle.reginfo.specs.Refused.{first_of}
use Rattle.reginfo.proofs.First.{first-none}
use Rattle.function.specs.Function.{Function, num_values}
use Rattle.function.specs.Refused as function
use Rattle.rules.specs.Edit.{Edit}
use Rattle.rules.specs.Scratch.{Cache, units_of_reg}
use Rattle.rules.specs.Order.{KeptMove, no_move}
use Rattle.rules.specs.Patch.{Entry, move, remat, Patch, Sorted, nothing_sorted, bound, Answer, refused, resolved, unless_refused, cache_after, add, sorted, names_place, entry_conditions, patch_conditions, resolve}
use Rattle.rules.specs.Refusals.{entries_conditions}
use Rattle.machine.specs.Machine.{Memory, in_slot, Waiting, Written, Machine, begin, read, steps, seen, counted}
use Rattle.machine.specs.Claim.{entry_dest, entry_value, Contents, kept, num_kept, Holding, OfValue, IsScratch, Saved, Stopped, Finished, RightFrom, Accepted, Answered}
use Rattle.machine.proofs.Entries.{dests-are}
use Rattle.machine.proofs.Cache.{CacheOk}
use Rattle.machine.proofs.Demand.{called}
use Rattle.group_rules.specs.Groups.{entry_units, source_units, chosen, firsts, held_by_another, part, labels_of, parts, behind, followed_by, resolve_parts, whole_conditions, resolve_by_groups}
use Rattle.group_rules.specs.Refusals.{no_entry}
use Rattle.group_rules.proofs.Lists.{not-then, below?, or_left, or_right, mem-any, any-sub, mem-at, at_mem, has-append, meet, filter-has, total, first-both}
use Rattle.group_rules.proofs.Split.{as_entry, Split}
use Rattle.group_rules.proofs.Parts.{lab, Own, sep, covers, once, split}
use Rattle.group_rules.proofs.Running.{extended, take_short, take_long, take_all, steps_then, steps-extended, Clear, unmoved}

-- ---- the entries chosen
pub chosen-from : (q : ℕ → Bool) (ls : List ℕ) (es : List Entry) (e : Entry) → Memᴰ e (chosen q ls es) → (i : ℕ) × (i < length es) × (q (get_or ls i 0) ≡ true) × (get_or es i no_entry ≡ e)
unfolding chosen
chosen-from q [] es e m = absurd (Memᴰ.not-nil m)
chosen-from q (x ∷ ls) [] e m = absurd (Memᴰ.not-nil m)
chosen-from q (x ∷ ls) (y ∷ es) e m = go (q x) refl m (chosen-from q ls es e)
  where
    later : (i : ℕ) × (i < length es) × (q (get_or ls i 0) ≡ true) × (get_or es i no_entry ≡ e)
        → (i : ℕ) × (i < length (y ∷ es)) × (q (get_or (x ∷ ls) i 0) ≡ true) × (get_or (y ∷ es) i no_entry ≡ e)
    later w = (suc w.0, omega (arith, w.1), w.2, w.3)

    go : (b : Bool) → q x ≡ b → Memᴰ e (pick b (y ∷ chosen q ls es) (chosen q ls es)) → (Memᴰ e (chosen q ls es) → (i : ℕ) × (i < length es) × (q (get_or ls i 0) ≡ true) × (get_or es i no_entry ≡ e))
        → (i : ℕ) × (i < length (y ∷ es)) × (q (get_or (x ∷ ls) i 0) ≡ true) × (get_or (y ∷ es) i no_entry ≡ e)
    go true k m on = ⊎_elim (λ h. (0, omega arith, k, sym h)) (λ h. later (on h)) (Memᴰ.cases_cons m)
    go false k m on = later (on m)

in-chosen : (q : ℕ → Bool) (ls : List ℕ) (es : List Entry) (i : ℕ) → length ls ≡ length es → i < length es → q (get_or ls i 0) ≡ true → Memᴰ (get_or es i no_entry) (chosen q ls es)
unfolding chosen
in-chosen q [] [] i n h k = absurd (omega arith)
in-chosen q [] (e ∷ es) i n h k = absurd (omega arith)
in-chosen q (x ∷ ls) [] i n h k = absurd (omega arith)
in-chosen q (x ∷ ls) (e ∷ es) zero n h k = rw k (Memᴰ.head refl)
in-chosen q (x ∷ ls) (e ∷ es) (suc i) n h k = go (q x) (in-chosen q ls es i (omega arith) (omega arith) k)
  where
    go : (b : Bool) → Memᴰ (get_or es i no_entry) (chosen q ls es) → Memᴰ (get_or es i no_entry) (pick b (e ∷ chosen q ls es) (chosen q ls es))
    go true m = Memᴰ.tail m
    go false m = m

-- what an answer joined came from
pub record Joint (r : Answer) (next : Cache → Answer) (es : List Edit) (c : Cache) (m : ℕ) : Type 0 where
  pub front : List Edit
  pub back : List Edit
  pub between : Cache
  pub at : ℕ
  pub at' : ℕ
  pub first : r ≡ resolved front between at
  pub rest : next between ≡ resolved back c at'
  pub edits : es ≡ front ++ back

behind-is : (fs : List Edit) (n : ℕ) (r : Answer) (es : List Edit) (c : Cache) (m : ℕ) → behind fs n r ≡ resolved es c m → (back : List Edit) × (at : ℕ) × (r ≡ resolved back c at) × (es ≡ fs ++ back)
behind-is fs n (refused k) es c m e = let z : ◌≡◌ {A = ℕ} 0 1 = cc in absurd (omega arith)
behind-is fs n (resolved gs d k) es c m e =
    let z : d ≡ c = cc in
    let y : fs ++ gs ≡ es = cc in
    (gs, k, ap (λ (x : Cache). resolved gs x k) z, sym y)

pub joint : (r : Answer) (next : Cache → Answer) (es : List Edit) (c : Cache) (m : ℕ) → followed_by r next ≡ resolved es c m → Joint r next es c m
joint (refused k) next es c m e = let z : ◌≡◌ {A = ℕ} 0 1 = cc in absurd (omega arith)
joint (resolved fs d n) next es c m e =
    let w = behind-is fs n (next d) es c m e in
    record { front = fs; back = w.0; between = d; at = n; at' = w.1; first = refl; rest = w.2; edits = w.3 }

module _ (t : RegInfo) (f : Function) (ta : target.Accepted t) (fa : function.Accepted t f) (p : Patch) (room : ℕ) (passed : first_of (whole_conditions t f p room) ≡ none) where
  abbrev ls : List ℕ
  ls = labels_of t p

  abbrev gs : List ℕ
  gs = firsts (labels_of t p)

  abbrev piece : ℕ → Patch
  piece g = part t p (labels_of t p) g

  entries_none : first_of (entries_conditions t f p.entries nothing_sorted) ≡ none
  entries_none = (first-both (entries_conditions t f p.entries nothing_sorted) (patch_conditions t f p room (sorted t f p)) passed).0

  patch-none : first_of (patch_conditions t f p room (sorted t f p)) ≡ none
  patch-none = (first-both (entries_conditions t f p.entries nothing_sorted) (patch_conditions t f p room (sorted t f p)) passed).1

  sp : Split t f (Own t f ta p) (sep t f ta p) gs (sorted t f p) (λ g. sorted t f (piece g))
  sp = split t f ta p entries_none

  abbrev Of : ℕ → Entry → Type 0
  Of g e = Own t f ta p g e

  -- the entries of a group, and the other way round
  of-piece : (g : ℕ) (e : Entry) → Memᴰ e (piece g).entries → Of g e
  unfolding part
  of-piece g e m = let w = chosen-from (λ x. eqb x g) ls p.entries e m in (w.0, w.1, eqb-true (get_or ls w.0 0) g w.2, w.3)

  in-piece : (g : ℕ) (e : Entry) → Of g e → Memᴰ e (piece g).entries
  unfolding part
  in-piece g e o = Memᴰ.cast (sym o.3) (in-chosen (λ x. eqb x g) ls p.entries o.0 (lab t f ta p).each o.1 (eq-eqb (get_or ls o.0 0) g o.2))

  of-patch : (g : ℕ) (e : Entry) → Of g e → Memᴰ e p.entries
  of-patch g e o = Memᴰ.cast (sym o.3) (at_mem no_entry p.entries o.0 o.1)

  in-patch : (e : Entry) → Memᴰ e p.entries → (g : ℕ) × Of g e
  in-patch e m = let w = mem-at no_entry p.entries e m in (get_or ls w.0 0, (w.0, w.1, refl, w.2))

  piece-sub : (g : ℕ) (e : Entry) → Memᴰ e (piece g).entries → Memᴰ e p.entries
  piece-sub g e m = of-patch g e (of-piece g e m)

  free-sub : (g u : ℕ) → has u (piece g).free ≡ true → (has u p.free ≡ true) × (held_by_another t ls p.entries g u ≡ false)
  unfolding part
  free-sub g u h =
      let w = filter-has (λ u. no (held_by_another t ls p.entries g u)) p.free u h in
      (w.0, never_true (held_by_another t ls p.entries g u) (λ e. false≢true (ap no (sym e) ∙ w.1)))

  -- ---- places that entries name
  abbrev Named : Entry → Type 0
  Named (move s d v) = (names_place t f s ≡ true) × (names_place t f d ≡ true)
  Named (remat d v) = names_place t f d ≡ true

  names : (a : Sorted) (e : Entry) → first_of (entry_conditions t f a e) ≡ none → Named e
  unfolding entry_conditions
  names a (move s d v) h =
      let q = or-false (no (names_place t f s)) (or (no (names_place t f d)) (no (ltb v (num_values f)))) (first-none _ h 1 (omega arith)) in
      (no_false _ q.0, no_false _ (or-false (no (names_place t f d)) (no (ltb v (num_values f))) q.1).0)
  names a (remat d v) h = no_false _ (or-false (no (names_place t f d)) (no (ltb v (num_values f))) (first-none _ h 1 (omega arith))).0

  all_named : (l : List Entry) (a : Sorted) → first_of (entries_conditions t f l a) ≡ none → (e : Entry) → Memᴰ e l → Named e
  unfolding entries_conditions
  all_named [] a h e m = absurd (Memᴰ.not-nil m)
  all_named (x ∷ l) a h e m =
      let q = first-both (entry_conditions t f a x) (entries_conditions t f l (add t f x a)) h in
      ⊎_elim (λ k. subst Named (sym k) (names a x q.0)) (λ k. all_named l (add t f x a) q.1 e k) (Memᴰ.cases_cons m)

  dest-of : (e : Entry) → Named e → names_place t f (entry_dest e) ≡ true
  dest-of (move s d v) n = n.1
  dest-of (remat d v) n = n

  dest-named : (g : ℕ) (e : Entry) → Of g e → names_place t f (entry_dest e) ≡ true
  dest-named g e o = dest-of e (all_named p.entries nothing_sorted entries_none e (of-patch g e o))

  source-named : (g : ℕ) (m : KeptMove) → Of g (as_entry m) → names_place t f m.source ≡ true
  source-named g m o = (all_named p.entries nothing_sorted entries_none (as_entry m) (of-patch g (as_entry m) o)).0

  -- ---- what a group leaves alone
  dest-unit : (u : ℕ) (e : Entry) → has u (place_units t (entry_dest e)) ≡ true → has u (entry_units t e) ≡ true
  dest-unit u (move s d v) h = has-append u (place_units t s) (place_units t d) ∙ or_right (has u (place_units t s)) (has u (place_units t d)) h
  dest-unit u (remat d v) h = h

  source-unit : (u : ℕ) (m : KeptMove) → has u (place_units t m.source) ≡ true → has u (entry_units t (as_entry m)) ≡ true
  source-unit u m h = has-append u (place_units t m.source) (place_units t m.dest) ∙ or_left (has u (place_units t m.source)) (has u (place_units t m.dest)) h

  -- 13 of the whole patch: no destination's unit is free
  not_free : (g u : ℕ) (e : Entry) → Of g e → has u (units_of_reg t f (entry_dest e)) ≡ true → has u p.free ≡ true → ⊥
  unfolding patch_conditions
  not_free g u e o h k =
      true≢false
      (sym (mem-any (λ x. meets (units_of_reg t f (entry_dest x)) p.free) p.entries e (of-patch g e o) (meet u (units_of_reg t f (entry_dest e)) p.free h k))
      ∙ sym (dests-are t f p (λ d. meets (units_of_reg t f d) p.free)) ∙ first-none _ patch-none 0 (omega arith))

  reg-unit : (d : Place) (u : ℕ) → has u (units_of_reg t f d) ≡ true → has u (place_units t d) ≡ true
  unfolding has
  reg-unit (reg r) u h = h
  reg-unit (slot x) u h = absurd (false≢true h)

  -- another group's source
  source_clear : (g x : ℕ) → (x ≡ g → ⊥) → (m : KeptMove) → Of x (as_entry m) → Clear t f ta (piece g) m.source
  source_clear g x n m o =
      record {
        dests = λ e k u h y. n (sep t f ta p x g (as_entry m) e o (of-piece g e k) (meet u (entry_units t (as_entry m)) (entry_units t e) (source-unit u m h) (dest-unit u e y)));
        free = λ u h k. true≢false
            (sym (mem-any (λ e. has u (source_units t e)) (chosen (λ y. no (eqb y g)) ls p.entries) (as_entry m) (other g x n (as_entry m) o) (reg-unit m.source u h)) ∙ (free-sub g u k).1);
      }
    where
      other : (g x : ℕ) → (x ≡ g → ⊥) → (e : Entry) → Of x e → Memᴰ e (chosen (λ y. no (eqb y g)) ls p.entries)
      other g x n e o = Memᴰ.cast (sym o.3) (in-chosen (λ y. no (eqb y g)) ls p.entries o.0 (lab t f ta p).each o.1 (ap no (ne_eqb (get_or ls o.0 0) g (λ q. n (sym o.2 ∙ q)))))

  -- another group's destination
  dest-clear : (g x : ℕ) → (x ≡ g → ⊥) → (e : Entry) → Of x e → Clear t f ta (piece g) (entry_dest e)
  dest-clear g x n e o =
      record {
        dests = λ y k u h z. n (sep t f ta p x g e y o (of-piece g y k) (meet u (entry_units t e) (entry_units t y) (dest-unit u e h) (dest-unit u y z)));
        free = λ u h k. not_free x u e o h (free-sub g u k).0;
      }

  -- ---- one start
  module _ (content : ℕ → List ℕ) (whole : Contents t f content) (start : Memory) where
    -- before the groups `rest`: those that `Done` names have run, and nothing waits
    record Begun (Done : ℕ → Type 0) (rest : List ℕ) (m : Memory) : Type 0 where
      units :
          (u : ℕ) → u < 512 → any_in (λ e. has u (units_of_reg t f (entry_dest e))) p.entries ≡ false → has u p.free ≡ false
          → (m.word u ≡ start.word u) × (m.lists u ≡ start.lists u)
      slots : (x : ℕ) → x < f.slots → any_in (λ e. same_place (slot x) (entry_dest e)) p.entries ≡ false → in_slot m x ≡ in_slot start x
      holds : (g : ℕ) → has g rest ≡ true → Holding t f (piece g) content m
      done : (g : ℕ) → Done g → (e : Entry) → Of g e → read t f m (entry_dest e) ≡ content (entry_value e)
      all : (g : ℕ) → has g gs ≡ true → Done g ⊎ (has g rest ≡ true)
      apart : (g : ℕ) → Done g → has g rest ≡ true → ⊥

    -- a kept move of a group is one of the whole patch
    index : (g j : ℕ) → j < num_kept t f (piece g) content → (i : ℕ) × (i < num_kept t f p content) × (kept t f p content i ≡ kept t f (piece g) content j)
    index g j h = mem-at no_move (sorted t f p).moves (kept t f (piece g) content j) ((sp.piece g).moves (kept t f (piece g) content j) (at_mem no_move (sorted t f (piece g)).moves j h))

    of-value : (g : ℕ) (q : Place) (v : ℕ) → OfValue t f (piece g) content q v → OfValue t f p content q v
    of-value g q v w =
        let z = index g w.0 w.1 in
        (z.0, z.1, ap (λ (m : KeptMove). m.value) z.2 ∙ w.2, ⊎_elim (λ e. inl (e ∙ ap (λ (m : KeptMove). m.source) (sym z.2))) (λ e. inr (e ∙ ap (λ (m : KeptMove). m.dest) (sym z.2))) w.3)

    -- the source of a group that is to come holds its value
    source-holds : (D : ℕ → Type 0) (rest : List ℕ) (m : Memory) → Begun D rest m → (g : ℕ) → has g rest ≡ true → (x : KeptMove) → Memᴰ x (sorted t f (piece g)).moves → read t f m x.source ≡ content x.value
    source-holds D rest m b g h x k =
        let w = mem-at no_move (sorted t f (piece g)).moves x k in
        ap (λ (z : KeptMove). read t f m z.source) (sym w.2) ∙ b.holds g h w.0 w.1 ∙ ap (λ (z : KeptMove). content z.value) w.2

    abbrev Lives : Machine → ℕ → Type 0
    Lives s i = (q : Place) × (read t f (seen t f s) q ≡ content (kept t f p content i).value) × (OfValue t f p content q (kept t f p content i).value ⊎ IsScratch t f p content s q (kept t f p content i).value)

    -- all groups have run
    at_rest : (D : ℕ → Type 0) (m : Memory) (w : List Written) → Begun D [] m → (g : ℕ) → has g gs ≡ true → D g
    unfolding has
    at_rest D m w b g h = ⊎_elim (λ d. d) (λ k. absurd (false≢true k)) (b.all g h)

    stopped-last : (D : ℕ → Type 0) (m : Memory) (w : List Written) → Begun D [] m → Stopped t f p content start (extended w (begin m))
    unfolding counted
    stopped-last D m w b =
        record {
          units = b.units;
          slots = b.slots;
          survives = λ i il.
              let x = kept t f p content i in
              let y = sp.somewhere x (at_mem no_move (sorted t f p).moves i il) in
              let o = (sp.piece y.0).own x y.1 in
              (x.dest, b.done y.0 (at_rest D m w b y.0 (covers t f ta p y.0 (as_entry x) o)) (as_entry x) o, inl (i, il, refl, inr refl));
        }

    finished-last : (D : ℕ → Type 0) (m : Memory) (w : List Written) → Begun D [] m → Finished t f p content (extended w (begin m))
    finished-last D m w b =
        record { entries = λ e k. let o = in-patch e k in b.done o.0 (at_rest D m w b o.0 (covers t f ta p o.0 e o.1)) e o.1; none-waits = refl }

    -- ---- while a group runs
    module _ (D : ℕ → Type 0) (g : ℕ) (rest : List ℕ) (m : Memory) (b : Begun D (g ∷ rest) m) (fresh : has g rest ≡ false) (s : Machine) (st : Stopped t f (piece g) content m s) where
      not-g : (x : ℕ) → D x → x ≡ g → ⊥
      unfolding has
      not-g x d e = b.apart x d (or_left (eqb x g) (has x rest) (eq-eqb x g e))

      rest-not : (x : ℕ) → has x rest ≡ true → x ≡ g → ⊥
      rest-not x h e = true≢false (sym h ∙ ap (λ (z : ℕ). has z rest) e ∙ fresh)

      in_rest : (x : ℕ) → has x rest ≡ true → has x (g ∷ rest) ≡ true
      unfolding has
      in_rest x h = or_right (eqb x g) (has x rest) h

      -- an earlier group's destination, and a later one's source
      dest-stands : (x : ℕ) → D x → (e : Entry) → Of x e → read t f (seen t f s) (entry_dest e) ≡ content (entry_value e)
      dest-stands x d e o = unmoved t f ta (piece g) content m s st (entry_dest e) (dest-named x e o) (dest-clear g x (not-g x d) e o) ∙ b.done x d e o

      source-stands : (x : ℕ) → has x rest ≡ true → (y : KeptMove) → Memᴰ y (sorted t f (piece x)).moves → read t f (seen t f s) y.source ≡ content y.value
      source-stands x h y k =
          let o = (sp.piece x).own y k in
          unmoved t f ta (piece g) content m s st y.source (source-named x y o) (source_clear g x (rest-not x h) y o) ∙ source-holds D (g ∷ rest) m b x (in_rest x h) y k

      -- whose move it is
      abbrev Whose : ℕ → Type 0
      Whose x = (x ≡ g) ⊎ (D x ⊎ (has x rest ≡ true))

      whose : (x : ℕ) → has x gs ≡ true → Whose x
      unfolding has
      whose x h = ⊎_elim (λ d. inr (inl d)) (λ k. go (eqb x g) refl k) (b.all x h)
        where
          go : (c : Bool) → eqb x g ≡ c → or c (has x rest) ≡ true → Whose x
          go true e k = inl (eqb-true x g e)
          go false e k = inr (inr k)

      lives : (w : List Written) (i : ℕ) → i < num_kept t f p content → (x : ℕ) → Memᴰ (kept t f p content i) (sorted t f (piece x)).moves → Whose x → Lives (extended w s) i
      lives w i il x k (inl e) =
          let z = mem-at no_move (sorted t f (piece g)).moves (kept t f p content i) (subst (λ (n : ℕ). Memᴰ (kept t f p content i) (sorted t f (piece n)).moves) e k) in
          let v = st.survives z.0 z.1 in
          let q : (kept t f (piece g) content z.0).value ≡ (kept t f p content i).value = ap (λ (m : KeptMove). m.value) z.2 in (
            v.0,
            v.1 ∙ ap content q,
            ⊎_elim (λ h. inl (subst (OfValue t f p content v.0) q (of-value g v.0 (kept t f (piece g) content z.0).value h)))
                (λ h. inr (Memᴰ.append_left w (subst (λ (n : ℕ). IsScratch t f p content s v.0 n) q h))) v.2,
          )
      lives w i il x k (inr (inl d)) = let y = kept t f p content i in (y.dest, dest-stands x d (as_entry y) ((sp.piece x).own y k), inl (i, il, refl, inr refl))
      lives w i il x k (inr (inr h)) = let y = kept t f p content i in (y.source, source-stands x h y k, inl (i, il, refl, inl refl))

      -- nothing of the group, nothing of the patch
      no-dest : (q : Place → Bool) → any_in (λ e. q (entry_dest e)) p.entries ≡ false → any_in (λ e. q (entry_dest e)) (piece g).entries ≡ false
      no-dest q = not-then (any_in (λ e. q (entry_dest e)) p.entries) (any_in (λ e. q (entry_dest e)) (piece g).entries) (any-sub (λ e. q (entry_dest e)) (piece g).entries p.entries (piece-sub g))

      no-free : (u : ℕ) → has u p.free ≡ false → has u (piece g).free ≡ false
      no-free u = not-then (has u p.free) (has u (piece g).free) (λ h. (free-sub g u h).0)

      frame-units : (u : ℕ) → u < 512 → any_in (λ e. has u (units_of_reg t f (entry_dest e))) p.entries ≡ false → has u p.free ≡ false
          → ((seen t f s).word u ≡ start.word u) × ((seen t f s).lists u ≡ start.lists u)
      frame-units u l nd nf =
          let y = st.units u l (no-dest (λ d. has u (units_of_reg t f d)) nd) (no-free u nf) in
          let z = b.units u l nd nf in
          (y.0 ∙ z.0, y.1 ∙ z.1)

      frame-slots : (x : ℕ) → x < f.slots → any_in (λ e. same_place (slot x) (entry_dest e)) p.entries ≡ false → in_slot (seen t f s) x ≡ in_slot start x
      frame-slots x l nd = st.slots x l (no-dest (same_place (slot x)) nd) ∙ b.slots x l nd

      stopped-in : (w : List Written) → Stopped t f p content start (extended w s)
      stopped-in w =
          record {
            units = frame-units;
            slots = frame-slots;
            survives = λ i il.
                let x = kept t f p content i in
                let y = sp.somewhere x (at_mem no_move (sorted t f p).moves i il) in
                lives w i il y.0 y.1 (whose y.0 (covers t f ta p y.0 (as_entry x) ((sp.piece y.0).own x y.1)));
          }

      -- the group has run
      module _ (fin : Finished t f (piece g) content s) where
        seen-is : seen t f s ≡ s.memory
        unfolding counted
        seen-is = rw fin.none-waits

        next : Begun (λ x. D x ⊎ (x ≡ g)) rest s.memory
        next =
            record {
              units = λ u l nd nf. rw seen-is at (frame-units u l nd nf);
              slots = λ x l nd. rw seen-is at (frame-slots x l nd);
              holds = λ x h j jl. rw seen-is at (source-stands x h (kept t f (piece x) content j) (at_mem no_move (sorted t f (piece x)).moves j jl));
              done = λ x d e o. ⊎_elim (λ y. rw seen-is at (dest-stands x y e o)) (λ y. fin.entries e (in-piece g e (subst (λ (n : ℕ). Of n e) y o))) d;
              all = λ x h. ⊎_elim (λ y. inl (inr y)) (λ y. ⊎_elim (λ z. inl (inl z)) (λ z. inr z) y) (whose x h);
              apart = λ x d h. ⊎_elim (λ y. b.apart x y (in_rest x h)) (λ y. rest-not x h y) d;
            }

    -- ---- the groups one after the other
    record RunsOn (m : Memory) (w : List Written) (es : List Edit) : Type 0 where
      stops : (k : ℕ) → (s : Machine) × (steps t f content (take k es) (extended w (begin m)) ≡ some s) × Stopped t f p content start s × Saved s
      ends : (s : Machine) × (steps t f content es (extended w (begin m)) ≡ some s) × Finished t f p content s

    none_left : (D : ℕ → Type 0) (m : Memory) (w : List Written) → Begun D [] m → RunsOn m w []
    unfolding steps
    none_left D m w b = record { stops = λ k. (extended w (begin m), nothing k, stopped-last D m w b, λ x h. absurd (Memᴰ.not-nil h)); ends = (extended w (begin m), refl, finished-last D m w b) }
      where
        nothing : (k : ℕ) → steps t f content (take k []) (extended w (begin m)) ≡ some (extended w (begin m))
        nothing zero = refl
        nothing (suc k) = refl

    one_more : (D : ℕ → Type 0) (g : ℕ) (rest : List ℕ) (m : Memory) (w : List Written) (b : Begun D (g ∷ rest) m) (fresh : has g rest ≡ false) (es fs : List Edit)
        → RightFrom t f (piece g) content m es → ((k : ℕ) (s : Machine) → steps t f content (take k es) (begin m) ≡ some s → Saved s) → ((m' : Memory) (w' : List Written) → Begun (λ x. D x ⊎ (x ≡ g)) rest m' → RunsOn m' w' fs) → RunsOn m w (es ++ fs)
    one_more D g rest m w b fresh es fs r kp on =
        record {
          stops = λ k. go k (below? (length es) k);
          ends = (onward.ends.0, steps_then t f content es fs (extended w (begin m)) then ran ∙ onward.ends.1, onward.ends.2);
        }
      where
        s : Machine
        s = r.ends.0

        -- nothing waits at the group's end
        then : Machine
        then = extended (s.written ++ w) (begin s.memory)

        ran : steps t f content es (extended w (begin m)) ≡ some then
        ran =
            steps-extended t f content w es (begin m) s r.ends.1
            ∙ ap (λ (l : List Waiting). some (record { memory = s.memory; waiting = l; written = s.written ++ w })) r.ends.2.none-waits

        st : Stopped t f (piece g) content m s
        st =
            let y = r.stops (length es) in
            let z : y.0 ≡ s = let a : steps t f content es (begin m) ≡ some y.0 = ap (λ (l : List Edit). steps t f content l (begin m)) (sym (take_all es)) ∙ y.1 in let c = r.ends.1 in cc in
            subst (Stopped t f (piece g) content m) z y.2

        onward : RunsOn s.memory (s.written ++ w) fs
        onward = on s.memory (s.written ++ w) (next D g rest m b fresh s st r.ends.2)

        go : (k : ℕ) → (length es < k) ⊎ (k ≤ length es) → (x : Machine) × (steps t f content (take k (es ++ fs)) (extended w (begin m)) ≡ some x) × Stopped t f p content start x × Saved x
        go k (inr n) =
            let y = r.stops k in (
              extended w y.0,
              ap (λ (l : List Edit). steps t f content l (extended w (begin m))) (take_short k es fs (omega arith)) ∙ steps-extended t f content w (take k es) (begin m) y.0 y.1,
              stopped-in D g rest m b fresh y.0 y.2 w,
              kp k y.0 y.1,
            )
        go k (inl n) =
            let y = onward.stops (k - length es) in (
              y.0,
              ap (λ (l : List Edit). steps t f content l (extended w (begin m))) (take_long k es fs (omega arith)) ∙ steps_then t f content es (take (k - length es) fs) (extended w (begin m)) then ran ∙ y.1,
              y.2,
              y.3,
            )

    -- whatever the caches, the groups' edits run on
    groups-run : (rest : List ℕ) → twice rest ≡ false → (D : ℕ → Type 0) (c c' : Cache) (es : List Edit) (n : ℕ) → CacheOk t f c → resolve_parts t f (map piece rest) room c ≡ resolved es c' n
        → (m : Memory) (w : List Written) → Begun D rest m → RunsOn m w es
    unfolding resolve_parts twice has
    groups-run [] o D c c' es n co e m w b = let z : [] ≡ es = cc in subst (RunsOn m w) z (none_left D m w b)
    groups-run (g ∷ rest) o D c c' es n co e m w b =
        let q = or-false (has g rest) (twice rest) o in
        let j = joint (resolve t f (piece g) room c) (λ d. resolve_parts t f (map piece rest) room d) es c' n e in
        let k = called t f ta fa (record { patch = piece g; room = room }) c co (resolved j.front j.between j.at) j.first in
        let h = b.holds g (or_left (eqb g g) (has g rest) (eq-eqb g g refl)) in
        subst (RunsOn m w) (sym j.edits)
        (one_more D g rest m w b q.0 j.front j.back (k.0.right content whole m h) (k.0.saved content whole m h)
        (λ m' w' b'. groups-run rest q.1 (λ x. D x ⊎ (x ≡ g)) j.between c' j.back j.at' k.1 j.rest m' w' b'))

    begun : Holding t f p content start → Begun (λ x. ⊥) gs start
    begun hold =
        record {
          units = λ u l nd nf. (refl, refl);
          slots = λ x l nd. refl;
          holds = λ g h j jl.
              let z = index g j jl in
              ap (λ (x : KeptMove). read t f start x.source) (sym z.2) ∙ hold z.0 z.1 ∙ ap (λ (x : KeptMove). content x.value) z.2;
          done = λ g d e o. absurd d;
          all = λ g h. inr h;
          apart = λ g d h. d;
        }

    right-from : (c c' : Cache) (es : List Edit) (n : ℕ) → CacheOk t f c → resolve_parts t f (parts t p) room c ≡ resolved es c' n → Holding t f p content start → RightFrom t f p content start es
    unfolding parts
    right-from c c' es n co e hold =
        let r = groups-run gs (once t f ta p) (λ x. ⊥) c c' es n co e start [] (begun hold) in
        record { stops = λ k. let y = r.stops k in (y.0, y.1, y.2); ends = r.ends }

    keeps-from : (c c' : Cache) (es : List Edit) (n : ℕ) → CacheOk t f c → resolve_parts t f (parts t p) room c ≡ resolved es c' n → Holding t f p content start
        → (k : ℕ) (s : Machine) → steps t f content (take k es) (begin start) ≡ some s → Saved s
    unfolding parts
    keeps-from c c' es n co e hold k s d =
        let r = groups-run gs (once t f ta p) (λ x. ⊥) c c' es n co e start [] (begun hold) in
        let y = r.stops k in
        let z : y.0 ≡ s = let a = y.1 in cc in
        subst Saved z y.3

  -- the cache is one to go on with, and the groups' bounds add up
  groups-few : (rest : List ℕ) (c c' : Cache) (es : List Edit) (n : ℕ) → CacheOk t f c → resolve_parts t f (map piece rest) room c ≡ resolved es c' n
      → CacheOk t f c' × (length es ≤ total (λ g. bound (sorted t f (piece g))) rest)
  unfolding resolve_parts total
  groups-few [] c c' es n co e = let z : c ≡ c' = cc in let y : [] ≡ es = cc in (subst (CacheOk t f) z co, rw (← y) (omega arith))
  groups-few (g ∷ rest) c c' es n co e =
      let j = joint (resolve t f (piece g) room c) (λ d. resolve_parts t f (map piece rest) room d) es c' n e in
      let k = called t f ta fa (record { patch = piece g; room = room }) c co (resolved j.front j.between j.at) j.first in
      let r = groups-few rest j.between c' j.back j.at' k.1 j.rest in
      (r.0, rw j.edits (omega (arith, length-append j.front j.back, k.0.few, r.1)))

  pub parts-right : (c c' : Cache) (es : List Edit) (n : ℕ) → CacheOk t f c → resolve_parts t f (parts t p) room c ≡ resolved es c' n → Accepted t f p es × CacheOk t f c'
  unfolding parts
  parts-right c c' es n co e =
      let y = groups-few gs c c' es n co e in
      (record { right = λ content whole start hold. right-from content whole start c c' es n co e hold; few = rw sp.bounds y.1; saved = λ content whole start hold. keeps-from content whole start c c' es n co e hold }, y.0)

-- a call by groups that is not refused passed the whole patch's tests
pub passed-whole : (t : RegInfo) (f : Function) (p : Patch) (room : ℕ) (c c' : Cache) (es : List Edit) (n : ℕ) → resolve_by_groups t f p room c ≡ resolved es c' n
    → (first_of (whole_conditions t f p room) ≡ none) × (resolve_parts t f (parts t p) room c ≡ resolved es c' n)
unfolding resolve_by_groups
passed-whole t f p room c c' es n e = go (first_of (whole_conditions t f p room)) refl e
  where
    go : (o : Option ℕ) → first_of (whole_conditions t f p room) ≡ o → unless_refused o (resolve_parts t f (parts t p) room c) ≡ resolved es c' n
        → (first_of (whole_conditions t f p room) ≡ none) × (resolve_parts t f (parts t p) room c ≡ resolved es c' n)
    go none q e = (q, e)
    go (some k) q e = let z : ◌≡◌ {A = ℕ} 0 1 = cc in absurd (omega arith)

-- one call by groups: its answer is right, by the whole patch, and the cache that it leaves is one to go on with
pub grouped : (t : RegInfo) (f : Function) → target.Accepted t → function.Accepted t f → (p : Patch) (room : ℕ) (c : Cache) → CacheOk t f c → (r : Answer) → resolve_by_groups t f p room c ≡ r
    → Answered t f p r × CacheOk t f (cache_after c r)
grouped t f ta fa p room c co (refused n) e = (tt, co)
grouped t f ta fa p room c co (resolved es c' n) e = let q = passed-whole t f p room c c' es n e in parts-right t f ta fa p room q.0 c c' es n co q.1
