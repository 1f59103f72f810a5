-- The ordering: what is asked of a patch, what one emitted move does, and the invariant of the kept moves in depth: where each value is read, and which diversions live.
use mathlib.Core.Path.{◌≡◌, refl, sym, ◌∙◌, subst}
use mathlib.Core.Bool.{Bool, true, false, not}
use mathlib.Core.List.{List, [], ◌∷◌, reverse}
use mathlib.Core.Logic.{◌⊎◌, inl, inr, ⊎_elim}
use Prim.Native.Nat.{ℕ, ◌+◌, ◌≤◌, ◌<◌}
use native.Mathlib.Omega.{arith}
use lib.Dec.{T, T_not}
use lib.ListN.{length}
use Rattle.entity.specs.Place.{Place, slot}
use Rattle.reginfo.specs.RegInfo.{RegInfo, includes_spillslots, top_level_class}
use Rattle.function.specs.Function.{Function, num_values, value_bank}
use Rattle.rules.specs.Scratch.{ScratchAllocator, units_of_reg, do_move}
use Rattle.rules.specs.Order.{KeptMove, State, New, Pending, Done, Diverted, ParallelMoves, with_diverted, source, dest, value, writers, cycle_move_sources}
use Rattle.machine.specs.Machine.{fits}
use Rattle.rules.proofs.Steps.{All, Every}
use Rattle.machine.proofs.Tests.{has_in}
use Rattle.machine.proofs.Memory.{TargetOk, covers, Apart}
use Rattle.machine.proofs.Run.{Waits, Job}
use Rattle.machine.proofs.Sound.{Needs, Within, Live}
use Rattle.machine.proofs.Search.{wait, WaitsIn, Empty, Saved, Kept, ClassOk}
use Rattle.machine.proofs.Emit.{Asked, StackOk, do_move-ok}
use Rattle.machine.proofs.Carry.{TabOk}

abbrev pub is_done : State → Bool
is_done New = false
is_done Pending = false
is_done Done = true

-- a diversion lives while something carries its value
abbrev pub Lv : ParallelMoves → ℕ → Type 0
Lv w v = 0 < w.diverted.ref_count v

module _ (t : RegInfo) (F : Function) (tk : TargetOk t) (j : Job) (em : (s : ℕ) → F.slots ≤ s → j.may (512 + s)) (ms : List KeptMove) where
  abbrev num_of : ℕ
  num_of = length ms

  abbrev src_of : ℕ → Place
  src_of i = source t F ms i

  abbrev dst_of : ℕ → Place
  dst_of i = dest t F ms i

  abbrev val_of : ℕ → ℕ
  val_of i = value t F ms i

  abbrev wrs_of : ℕ → List ℕ
  wrs_of i = writers t F ms i

  abbrev vis_of : ℕ → List ℕ
  vis_of i = reverse (writers t F ms i)

  abbrev bar_of : ℕ → Bool
  bar_of u = cycle_move_sources t F ms u

  abbrev top_of : ℕ → ℕ
  top_of v = top_level_class t (value_bank F v)

  pub record PatchOk : Type 0 where
    pub apart : (i k : ℕ) → i < num_of → k < num_of → (i ≡ k → ⊥) → Apart t F tk (dst_of i) (dst_of k)
    pub writes : (i k : ℕ) → i < num_of → k < num_of → (u : ℕ) → T (covers t F tk (src_of i) u) → T (covers t F tk (dst_of k) u) → T (has_in (wrs_of i) k)
    pub written : (i k : ℕ) → T (has_in (wrs_of i) k) → k < num_of
    pub visited : (i k : ℕ) → T (has_in (wrs_of i) k) → T (has_in (vis_of i) k)
    pub visit-low : (i k : ℕ) → T (has_in (vis_of i) k) → k < num_of
    pub valued : (i : ℕ) → i < num_of → val_of i < num_values F
    pub len : (i : ℕ) → i < num_of → T (fits t F (dst_of i) (length (j.content (val_of i))))
    pub inside : (i : ℕ) → i < num_of → Within t F tk j (covers t F tk (dst_of i))
    pub src-real : (i s : ℕ) → i < num_of → F.slots ≤ s → Apart t F tk (src_of i) (slot s)
    pub dst-real : (i s : ℕ) → i < num_of → F.slots ≤ s → Apart t F tk (dst_of i) (slot s)
    pub stack : (v : ℕ) → v < num_values F → StackOk t F tk j em (value_bank F v) (length (j.content v))
    pub top-ok : (v : ℕ) → v < num_values F → ClassOk t F tk j em (top_of v) (length (j.content v))
    pub top-slots : (v : ℕ) → v < num_values F → T (includes_spillslots t (top_of v))
    pub barred : (m u : ℕ) → m < num_of → T (has_in (units_of_reg t F (src_of m)) u) → T (bar_of u)
    pub tracked : (v : ℕ) → j.tracked v → (i : ℕ) × (i < num_of) × (val_of i ≡ v)

  abbrev pub Needed : (ℕ → Place) → Needs
  Needed pl p x = (k : ℕ) × (k < num_of) × (p ≡ pl k) × (x ≡ val_of k)

  module _ (ok : PatchOk) where
    pub live : (pl : ℕ → Place) → Live t F tk j (Needed pl)
    live pl v h = let i = ok.tracked v h in (pl i.0, (i.0, i.1, refl, sym i.2))

    pub empty-above : (needs : Needs) (k : ScratchAllocator) → Kept t F tk j em needs k → (s : ℕ) → Empty t F tk k s → F.slots ≤ s
    empty-above needs k h s (inl e) = ⊎_elim (λ y. h.room.cache-ok.low y.0 s y.1) (λ b. omega arith) e
    empty-above needs k h s (inr e) = go (wait k) h.room.waits.0 e
      where
        go : (ws : Waits) → Every (Saved t F tk j em k.cache) ws → WaitsIn ws s → F.slots ≤ s
        go [] o x = absurd x
        go (y ∷ ws) o x = ⊎_elim (λ q. subst (λ (z : ℕ). F.slots ≤ z) (sym q) o.0.above) (go ws o.1) x

    -- one emitted move: some needs go from `to` to `from`, the others stay and are apart from `to`
    module _ (pl pl' : ℕ → Place) (to from : Place) (v : ℕ) where
      pub record Shift : Type 0 where
        pub who : (i : ℕ) × (i < num_of) × (pl i ≡ to) × (val_of i ≡ v) × (pl' i ≡ from)
        pub each : (k : ℕ) → k < num_of → ((pl k ≡ to) × (val_of k ≡ v) × (pl' k ≡ from)) ⊎ ((pl' k ≡ pl k) × Apart t F tk (pl k) to)

      shift-asked : (k : ScratchAllocator) → Shift → T (fits t F to (length (j.content v))) → Within t F tk j (covers t F tk to) → ((s : ℕ) → Empty t F tk k s → Apart t F tk from (slot s))
          → Asked t F tk j em (Needed pl) (Needed pl') to from v
      shift-asked k sh ft inn re =
          record {
            live = live pl;
            given = (sh.who.0, sh.who.1, sym sh.who.2, sym sh.who.3);
            turns = λ p x n.
                ⊎_elim (λ y. inl (n.2 ∙ y.0, n.3 ∙ y.1))
                (λ y. inr ((n.0, n.1, n.2 ∙ sym y.0, n.3), subst (λ (q : Place). Apart t F tk q to) (sym n.2) y.1)) (sh.each n.0 n.1);
            back = λ p x n.
                ⊎_elim (λ y. inl (n.2 ∙ y.2))
                (λ y. inr ((n.0, n.1, n.2 ∙ y.0, n.3), subst (λ (q : Place). Apart t F tk q to) (sym (n.2 ∙ y.0)) y.1)) (sh.each n.0 n.1);
            len = ft;
            inside = inn;
          }

      pub emit-shift : (k : ScratchAllocator) → Shift → T (fits t F to (length (j.content v))) → Within t F tk j (covers t F tk to) → ((s : ℕ) → Empty t F tk k s → Apart t F tk from (slot s))
          → Kept t F tk j em (Needed pl) k → All (λ k'. Kept t F tk j em (Needed pl') k' × ((s : ℕ) → Empty t F tk k' s → Empty t F tk k s)) (do_move t F (value_bank F v) to from v k)
      emit-shift k sh ft inn re h =
          do_move-ok t F tk j em (Needed pl) (Needed pl') to from v (shift-asked k sh ft inn re) (value_bank F v) (ok.stack v (subst (λ (z : ℕ). z < num_values F) sh.who.3 (ok.valued sh.who.0 sh.who.1))) k
          (sh.who.0, sh.who.1, sym sh.who.4, sym sh.who.3) re h

    -- a live diversion
    pub record LiveDiv (w : ParallelMoves) (st : ℕ → State) (v : ℕ) : Type 0 where
      pub origin : ℕ
      pub origin-in : origin < num_of
      pub origin-at : w.alloc v ≡ src_of origin
      pub origin-val : val_of origin ≡ v
      pub held : (i : ℕ) → T (has_in (wrs_of origin) i) → T (has_in (w.diverted.values i) v) ⊎ T (is_done (st i))
      pub apart_d : (k : ℕ) → k < num_of → T (not (is_done (w.state k))) → Apart t F tk (w.scratch v) (dst_of k)
      pub apart_r : (m : ℕ) → m < num_of → Apart t F tk (w.scratch v) (src_of m)
      pub len : T (fits t F (w.scratch v) (length (j.content v)))
      pub inside : Within t F tk j (covers t F tk (w.scratch v))
      pub above : (s : ℕ) → w.scratch v ≡ slot s → F.slots ≤ s

    -- it stays one where its places stay, its writers still carry it or are done, and no move is done less
    pub live_map : (w w' : ParallelMoves) (st st' : ℕ → State) (v : ℕ) → w'.alloc v ≡ w.alloc v → w'.scratch v ≡ w.scratch v
        → ((i : ℕ) → T (has_in (w.diverted.values i) v) ⊎ T (is_done (st i)) → T (has_in (w'.diverted.values i) v) ⊎ T (is_done (st' i)))
        → ((k : ℕ) → T (not (is_done (w'.state k))) → T (not (is_done (w.state k)))) → LiveDiv w st v → LiveDiv w' st' v
    live_map w w' st st' v a s h n d =
        record {
          origin = d.origin;
          origin-in = d.origin-in;
          origin-at = a ∙ d.origin-at;
          origin-val = d.origin-val;
          held = λ i c. h i (d.held i c);
          apart_d = λ k kl y. rw s (d.apart_d k kl (n k y));
          apart_r = λ m ml. rw s (d.apart_r m ml);
          len = rw s d.len;
          inside = rw s d.inside;
          above = λ x e. d.above x (sym s ∙ e);
        }

    -- where a closed move's value is read: at the source of a kept move of its value that nothing still writes
    pub record Home (w : ParallelMoves) (pl : ℕ → Place) (k : ℕ) : Type 0 where
      pub of : ℕ
      pub of-in : of < num_of
      pub at : pl k ≡ src_of of
      pub val : val_of of ≡ val_of k
      pub over : (i : ℕ) → T (has_in (wrs_of of) i) → T (is_done (w.state i))

    pub record Inv (L R : ℕ → Type 0) (w : ParallelMoves) (st : ℕ → State) (pl : ℕ → Place) (ride : ℕ → Bool) : Type 0 where
      pub kept : Kept t F tk j em (Needed pl) w.allocator
      pub here : (k : ℕ) → k < num_of → T (not (is_done (w.state k))) → (pl k ≡ dst_of k) × T (not (ride k))
      pub gone : (k : ℕ) → k < num_of → T (is_done (w.state k)) → (T (ride k) × L (val_of k) × (pl k ≡ w.scratch (val_of k))) ⊎ (T (not (ride k)) × Home w pl k)
      pub lives : (v : ℕ) → L v → LiveDiv w st v
      pub riders : (v : ℕ) → R v → (k : ℕ) × (k < num_of) × T (is_done (w.state k)) × T (ride k) × (val_of k ≡ v)
      pub apart_s : (v x : ℕ) → L v → L x → (v ≡ x → ⊥) → Apart t F tk (w.scratch v) (w.scratch x)

    -- a live diversion's scratch place is needed
    pub rider-need : (L R : ℕ → Type 0) (w : ParallelMoves) (st : ℕ → State) (pl : ℕ → Place) (ride : ℕ → Bool) → Inv L R w st pl ride → (v : ℕ) → R v → Needed pl (w.scratch v) v
    rider-need L R w st pl ride inv v r =
        let y = inv.riders v r in
        ⊎_elim
        (λ g. (y.0, y.1, subst (λ (z : ℕ). w.scratch z ≡ pl y.0) y.4 (sym g.2), sym y.4))
        (λ g. absurd (T_not (ride y.0) g.0 y.3)) (inv.gone y.0 y.1 y.2)

    -- no need but i's own overlaps the destination of i, which isn't closed
    pub apart-dst : (L R : ℕ → Type 0) (w : ParallelMoves) (st : ℕ → State) (pl : ℕ → Place) (ride : ℕ → Bool) → Inv L R w st pl ride
        → (i : ℕ) → i < num_of → T (not (is_done (w.state i))) → (k : ℕ) → k < num_of → (k ≡ i → ⊥) → Apart t F tk (pl k) (dst_of i)
    apart-dst L R w st pl ride inv i il nd k kl d = go (is_done (w.state k)) (λ h. h) (λ h. h)
      where
        go : (b : Bool) → (T b → T (is_done (w.state k))) → (T (not b) → T (not (is_done (w.state k)))) → Apart t F tk (pl k) (dst_of i)
        go true y n =
            ⊎_elim
            (λ r. subst (λ (q : Place). Apart t F tk q (dst_of i)) (sym r.2) ((inv.lives (val_of k) r.1).apart_d i il nd))
            (λ r. subst (λ (q : Place). Apart t F tk q (dst_of i)) (sym r.1.at)
            (λ u a b. T_not (is_done (w.state i)) nd (r.1.over i (ok.writes r.1.of i r.1.of-in il u a b))))
            (inv.gone k kl (y tt))
        go false y n = subst (λ (q : Place). Apart t F tk q (dst_of i)) (sym (inv.here k kl (n tt)).0) (ok.apart k i kl il d)

    -- more is carried, and more is closed
    pub inv-grow : (L R : ℕ → Type 0) (w : ParallelMoves) (st st' : ℕ → State) (pl : ℕ → Place) (ride : ℕ → Bool) (b : Diverted)
        → ((x : ℕ) → T (is_done (st x)) → T (is_done (st' x))) → ((i x : ℕ) → T (has_in (w.diverted.values i) x) → T (has_in (b.values i) x) ⊎ T (is_done (st' i)))
        → Inv L R w st pl ride → Inv L R (record { allocator = w.allocator; state = w.state; alloc = w.alloc; scratch = w.scratch; diverted = b }) st' pl ride
    inv-grow L R w st st' pl ride b dn more inv =
        record {
          kept = inv.kept;
          here = inv.here;
          gone = λ k kl h. ⊎_elim (λ y. inl y) (λ y. inr (y.0, record { of = y.1.of; of-in = y.1.of-in; at = y.1.at; val = y.1.val; over = y.1.over })) (inv.gone k kl h);
          lives = λ v l. live_map w (with_diverted b w) st st' v refl refl (λ x. ⊎_elim (more x v) (λ c. inr (dn x c))) (λ k n. n) (inv.lives v l);
          riders = inv.riders;
          apart_s = inv.apart_s;
        }

    pub inv-swap : (L R L' R' : ℕ → Type 0) (w : ParallelMoves) (st : ℕ → State) (pl : ℕ → Place) (ride : ℕ → Bool)
        → ((v : ℕ) → L v → L' v) → ((v : ℕ) → L' v → L v) → ((v : ℕ) → R' v → R v) → Inv L R w st pl ride → Inv L' R' w st pl ride
    inv-swap L R L' R' w st pl ride to from rr inv =
        record {
          kept = inv.kept;
          here = inv.here;
          gone = λ k kl h. ⊎_elim (λ y. inl (y.0, to (val_of k) y.1, y.2)) (λ y. inr y) (inv.gone k kl h);
          lives = λ v l. inv.lives v (from v l);
          riders = λ v r. inv.riders v (rr v r);
          apart_s = λ v x a b. inv.apart_s v x (from v a) (from x b);
        }

    -- the invariant between steps; those of X may still carry though they are closed
    pub record Rest (X : ℕ → Type 0) (w : ParallelMoves) : Type 0 where
      pub pl : ℕ → Place
      pub ride : ℕ → Bool
      pub inv : Inv (Lv w) (Lv w) w w.state pl ride
      pub tab : TabOk num_of w.diverted
      pub still : (k v : ℕ) → T (has_in (w.diverted.values k) v) → X k ⊎ T (not (is_done (w.state k)))
