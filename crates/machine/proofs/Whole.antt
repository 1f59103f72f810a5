-- A patch whole: rebuilds, then kept moves.
use mathlib.Core.Path.{◌≡◌, refl, sym, subst}
use mathlib.Core.List.{List, [], ◌∷◌, ◌++◌}
use mathlib.Core.Option.{Option, some, none}
use mathlib.Core.Logic.{◌⊎◌, inl, inr, ⊎_elim}
use Prim.Native.Nat.{ℕ, ◌+◌, ◌≤◌, ◌<◌}
use native.Mathlib.Omega.{arith}
use lib.Dec.{T}
use lib.ListN.{length}
use Rattle.entity.specs.Logic.{has}
use Rattle.entity.specs.Place.{Place, reg, slot}
use Rattle.reginfo.specs.RegInfo.{RegInfo, reg_units, bank_for_class}
use Rattle.function.specs.Function.{Function, remat_class}
use Rattle.rules.specs.Edit.{and_then, each}
use Rattle.rules.specs.Scratch.{Cache, ScratchAllocator}
use Rattle.rules.specs.Order.{KeptMove, Remat, source, dest, value, remats, remat_with_scratch, moves}
use Rattle.machine.specs.Machine.{Memory, read, fits}
use Rattle.rules.proofs.Steps.{All, all_then}
use Rattle.machine.proofs.Tests.{has_in}
use Rattle.machine.proofs.Memory.{TargetOk, covers, Apart}
use Rattle.machine.proofs.Run.{Job, state, Along}
use Rattle.machine.proofs.Sound.{Needs, can, Within, Sound, sound-nil}
use Rattle.machine.proofs.Cache.{Loose, CacheOk}
use Rattle.machine.proofs.Search.{wait_of, ApartW, Kept}
use Rattle.machine.proofs.Emit.{StackOk}
use Rattle.machine.proofs.Order.{PatchOk, live}
use Rattle.machine.proofs.Remats.{AskedR, RematOk, plain_ok, scratched-ok}
use Rattle.machine.proofs.Passes.{Base, moves-right, Right}

-- a rebuild of the list
abbrev pub In : List Remat → Place → ℕ → Type 0
In [] p x = ⊥
In (r ∷ rs) p x = ((p ≡ r.dest) × (x ≡ r.value)) ⊎ In rs p x

module _ (t : RegInfo) (F : Function) (tk : TargetOk t) (j : Job) (em : (s : ℕ) → F.slots ≤ s → j.may (512 + s)) (ms : List KeptMove) (ok : PatchOk t F tk j em ms) where
  abbrev K : Needs → ScratchAllocator → Type 0
  K = Kept t F tk j em

  abbrev B : Needs
  B = Base t F tk j em ms ok

  abbrev pub NeedR : List Remat → Needs
  NeedR rs p x = B p x ⊎ In rs p x

  -- a rebuild, apart from the kept destinations and those after it
  pub record EntryOk (r : Remat) (rest : List Remat) : Type 0 where
    pub kept-apart : (i : ℕ) → i < length ms → Apart t F tk (dest t F ms i) r.dest
    pub rest-apart : (p : Place) (x : ℕ) → In rest p x → Apart t F tk p r.dest
    pub len : T (fits t F r.dest (length (j.content r.value)))
    pub inside : Within t F tk j (covers t F tk r.dest)

  abbrev pub PlainsOk : List Remat → List Remat → Type 0
  PlainsOk [] ss = Unit {0}
  PlainsOk (r ∷ rs) ss = EntryOk r (rs ++ ss) × T (can t F tk r.value r.dest) × PlainsOk rs ss

  abbrev pub ScratchesOk : List Remat → Type 0
  ScratchesOk [] = Unit {0}
  ScratchesOk (r ∷ rs) =
      EntryOk r rs × RematOk t F tk j em r.dest r.value (remat_class F r.value) × StackOk t F tk j em (bank_for_class t (remat_class F r.value)) (length (j.content r.value)) × ScratchesOk rs

  asked : (r : Remat) (rs : List Remat) → EntryOk r rs → AskedR t F tk j em (NeedR (r ∷ rs)) (NeedR rs) r.dest r.value
  asked r rs e =
      record {
        live = λ v h. let q = live t F tk j em ms ok (dest t F ms) v h in (q.0, inl q.1);
        given = inr (inl (refl, refl));
        turns = λ p x. ⊎_elim (λ b. inr (inl b, base b)) (⊎_elim (λ y. inl y) (λ i. inr (inr i, e.rest-apart p x i)));
        back = λ p x. ⊎_elim (λ b. (inl b, base b)) (λ i. (inr (inr i), e.rest-apart p x i));
        len = e.len;
        inside = e.inside;
      }
    where
      base : {p : Place} {x : ℕ} → B p x → Apart t F tk p r.dest
      base b = subst (λ (q : Place). Apart t F tk q r.dest) (sym b.2) (e.kept-apart b.0 b.1)

  -- nothing waits while rebuilds need no scratch place
  plains-ok : (ps ss : List Remat) (k : ScratchAllocator) → PlainsOk ps ss → k.evicted ≡ [] → K (NeedR (ps ++ ss)) k → K (NeedR ss) (remats t F ps k)
  unfolding remats
  plains-ok [] ss k o e h = h
  plains-ok (r ∷ rs) ss k o e h =
      plains-ok rs ss _ o.2 e
      (plain_ok t F tk j em (NeedR (r ∷ (rs ++ ss))) (NeedR (rs ++ ss)) r.dest r.value (asked r (rs ++ ss) o.0) k h (subst (λ x. ApartW t F tk (wait_of x) r.dest) (sym e) tt) o.1)

  scratches-ok : (ss : List Remat) (k : ScratchAllocator) → ScratchesOk ss → K (NeedR ss) k → All (K (NeedR [])) (each (remat_with_scratch t F) ss k)
  unfolding each
  scratches-ok [] k o h = h
  scratches-ok (r ∷ rs) k o h =
      all_then (K (NeedR rs)) (K (NeedR [])) (remat_with_scratch t F r k) _
      (scratched-ok t F tk j em (NeedR (r ∷ rs)) (NeedR rs) r.dest r.value (asked r rs o.0) o.1 o.2 k h)
      (λ k₁ h₁. scratches-ok rs k₁ o.3 h₁)

  -- no rebuild left
  bare : (k : ScratchAllocator) → K (NeedR []) k → K B k
  unfolding Sound
  bare k h =
      record {
        sound = λ w q m l o. h.sound w q m l (record { live = λ v y. let q = o.live v y in (q.0, inl q.1); ready = o.ready; met = λ p x. ⊎_elim (o.met p x) (λ z. absurd z) });
        room =
            record {
              inside = h.room.inside;
              spare = λ r v n. h.room.spare r v (inl n);
              cache-ok = h.room.cache-ok;
              waits = h.room.waits;
              empty = λ p v n. h.room.empty p v (inl n);
            };
      }

  module _ (home : (i : ℕ) → i < length ms → j.home (source t F ms i) (value t F ms i)) (ps ss : List Remat) (free : List ℕ) where
    pub record PatchStart : Type 0 where
      pub free-may : (r u : ℕ) → T (has_in (reg_units t r) u) → T (has_in free u) → j.may u
      pub free-dst : (x r u : ℕ) → NeedR (ps ++ ss) (reg r) x → T (has_in (reg_units t r) u) → T (has_in free u) → ⊥
      pub real : (p : Place) (x s : ℕ) → NeedR (ps ++ ss) p x → F.slots ≤ s → Apart t F tk p (slot s)
      pub final : (p : Place) (v : ℕ) → j.final p v → NeedR (ps ++ ss) p v
      pub plains : PlainsOk ps ss
      pub scratches : ScratchesOk ss

    pub record Done (k : ScratchAllocator) : Type 0 where
      pub every : (m : Memory) → ((i : ℕ) → i < length ms → read t F m (source t F ms i) ≡ j.content (value t F ms i)) → Along t F j k.edits m (state [] m [])
      pub cache-ok : CacheOk t F k.cache

    abbrev begin : Cache → ScratchAllocator
    begin c = record { edits = []; available = λ u. has u free; evicted = []; cache = c; met = 0 }

    pub whole-ok : (c : Cache) → CacheOk t F c → PatchStart → All Done (and_then (each (remat_with_scratch t F) ss (remats t F ps (begin c))) (moves t F ms))
    whole-ok c co st =
        all_then (K (NeedR [])) Done (each (remat_with_scratch t F) ss (remats t F ps (begin c))) _
        (scratches-ok ss (remats t F ps (begin c)) st.scratches (plains-ok ps ss (begin c) st.plains refl begun))
        (λ k h. out k (bare k h) (moves t F ms k) (moves-right t F tk j em ms ok home k (bare k h)))
      where
        above : (s : ℕ) → Loose t F c s → F.slots ≤ s
        above s (inl x) = co.low x.0 s x.1
        above s (inr x) = omega arith

        begun : K (NeedR (ps ++ ss)) (begin c)
        begun =
            record {
              sound = sound-nil t F tk j (NeedR (ps ++ ss)) st.final;
              room =
                  record {
                    inside = st.free-may;
                    spare = λ r v n u h i. st.free-dst v r u n h i;
                    cache-ok = co;
                    waits = (tt, tt);
                    empty = λ p v n s. ⊎_elim (λ e. st.real p v s n (above s e)) (λ x. absurd x);
                  };
            }

        out : (k : ScratchAllocator) (h : K B k) (o : Option ScratchAllocator) → All (Right t F tk j em ms ok home k h) o → All Done o
        out k h none y = tt
        out k h (some k') y = record { every = y.every; cache-ok = y.cache-ok }
