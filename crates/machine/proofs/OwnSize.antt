-- 02 j: each slot is counted with one size, that of the edits that name it, and of no size are more than 127 and one for each kept eviction. So slots are taken, given back and brought back.
use Prim.Native.Nat.{ℕ, pred, ◌+◌, ◌<◌, ◌≤◌}
use mathlib.Core.Path.{◌≡◌, refl, sym, ap, subst, ◌∙◌}
use mathlib.Core.Bool.{Bool, true, false, false≢true, or-true}
use mathlib.Core.List.{List, [], ◌∷◌}
use mathlib.Core.Logic.{◌⊎◌, inl, inr, ⊎_elim}
use native.Mathlib.Omega.{arith}
use lib.Dec.{ltb}
use lib.ListN.{length, take, drop}
use borrow.Author.Tests.{eqb-true}
use Rattle.entity.specs.Logic.{no, any_in, indices}
use Rattle.entity.proofs.Laws.{any_below}
use Rattle.entity.specs.Place.{Place, reg, slot}
use Rattle.reginfo.specs.RegInfo.{RegInfo, bank_for_reg, spillslot_size}
use Rattle.function.specs.Function.{Function}
use Rattle.rules.specs.Edit.{Edit, EmergencySpill, filter}
use Rattle.rules.specs.Scratch.{Cache, Evicted, ScratchAllocator, Acquired, push, with_evicted, unevict, unevict_all, unevict_but, overlaps_evicted, unevict_for_reg, make_room, acquire_from, acquire, release, release_place}
use Rattle.rules.specs.Counts.{sum}
use Rattle.rules.proofs.Parts.{Parts, every-picked, all-parts, filter_parts, drop-parts, parts-length}
use Rattle.rules.proofs.Evictions.{unevict-evicted}
use Rattle.rules.proofs.Steps.{All, branch, same?, Every, every_map, updated-at}
use Rattle.rules.proofs.Sum.{sum-le, sum-zero}
use Rattle.machine.specs.Paid.{occurs}
use Rattle.machine.specs.Enough.{is_size, edit_size, names_slot}
use Rattle.machine.proofs.SlotCounts.{less?, one, one-here, one-other, one-away, one-top, holds, waits, waits-parts, Count, stacked}
use Rattle.machine.proofs.Sums.{sum-plus, sum-once}

parts-every : {A : Type 0} (P : A → Type 0) (es rest l : List A) → Parts es rest l → Every P l → Every P es × Every P rest
parts-every P [] rest l h e = (tt, subst (Every P) h e)
parts-every P (x ∷ es) rest l h e =
    let r = parts-every P es h.0 l h.2 e in
    let q = every-picked P x h.0 rest h.1 r.1 in ((q.0, r.0), q.1)

-- one of each slot at most, whatever the size
one-few : (x z y m : ℕ) → sum (λ s. one x z s y) m ≤ 1
unfolding one
one-few x z y m = sum-once (λ s. one x z s y) x m (⊎_elim (λ e. omega (arith, one-here x z x y refl e)) (λ d. omega (arith, one-away x z x y d)) (same? y z)) (λ s d. one-other x z s y d)

pub holds-few : (p : Place) (z y m : ℕ) → sum (λ s. holds p z s y) m ≤ 1
unfolding holds
holds-few (slot x) z y m = one-few x z y m
holds-few (reg r) z y m = omega (arith, sum-zero (λ s. 0) m (λ s h. refl))

pub waits-few : (l : List Evicted) (y m : ℕ) → sum (λ s. waits l s y) m ≤ length l
unfolding waits
waits-few [] y m = omega (arith, sum-zero (λ s. 0) m (λ s h. refl))
waits-few (e ∷ l) y m = omega (arith, sum-plus (λ s. one e.slot e.size s y) (λ s. waits l s y) m, one-few e.slot e.size y m, waits-few l y m)

-- one of the first n passes the test
pub any-index : (p : ℕ → Bool) (n i : ℕ) → i < n → p i ≡ true → any_in p (indices 0 n) ≡ true
any-index p n i l h = go (any_in p (indices 0 n)) refl
  where
    go : (b : Bool) → any_in p (indices 0 n) ≡ b → b ≡ true
    go true e = refl
    go false e = absurd (false≢true (sym (any_below p n i e l) ∙ h))

-- no slot is excepted
abbrev pub Nothing : ℕ → Type 0
Nothing s = ⊥

module _ (t : RegInfo) (f : Function) where
  -- an edit names no emergency slot but what is counted with its size
  abbrev pub Names : Count → Edit → Type 0
  Names count e = (s : ℕ) → f.slots ≤ s → names_slot t f s e ≡ true → 0 < count s (edit_size t f e)

  pub record Fair (count : Count) (es : List Edit) : Type 0 where
    pub few : (m z : ℕ) → sum (λ s. count s z) m ≤ 127 + f.kept
    pub sized : (s z : ℕ) → 0 < count s z → is_size t f z ≡ true
    pub lies : Every (Names count) es

  pub fair-cong : (a b : Count) (es : List Edit) → ((s z : ℕ) → b s z ≡ a s z) → Fair a es → Fair b es
  fair-cong a b es e g =
      record {
        few = λ m z. omega (arith, g.few m z, sum-le (λ s. b s z) (λ s. a s z) m (λ s h. omega (arith, e s z)));
        sized = λ s z h. g.sized s z (omega (arith, e s z));
        lies = every_map (Names a) (Names b) (λ x h s l q. omega (arith, e s (edit_size t f x), h s l q)) es g.lies;
      }

  -- a slot is made where fewer are counted of its size
  fair-make : (a : Count) (es : List Edit) (x z : ℕ) → is_size t f z ≡ true → ((m : ℕ) → sum (λ s. a s z) m < 127 + f.kept) → Fair a es → Fair (λ s y. one x z s y + a s y) es
  fair-make a es x z i h g =
      record {
        few = λ m y.
            let p = sum-plus (λ s. one x z s y) (λ s. a s y) m in
            ⊎_elim (λ (e : y ≡ z). omega (arith, p, one-few x z y m, h m, ap (λ (j : ℕ). sum (λ s. a s j) m) e))
            (λ d. omega (arith, p, sum-zero (λ s. one x z s y) m (λ s l. one-away x z s y d), g.few m y)) (same? y z);
        sized = λ s y q. ⊎_elim (λ (e : y ≡ z). subst (λ (j : ℕ). is_size t f j ≡ true) (sym e) i) (λ d. g.sized s y (omega (arith, one-away x z s y d))) (same? y z);
        lies = every_map (Names a) (Names (λ s y. one x z s y + a s y)) (λ e n s l q. omega (arith, n s l q)) es g.lies;
      }

  module _ (c₀ : Cache) where
    -- the new slots are named by edits, but for those excepted
    abbrev pub Named : (ℕ → Type 0) → List Edit → ℕ → Type 0
    Named ex es made = (s : ℕ) → f.slots + c₀.made ≤ s → s < f.slots + made → (any_in (names_slot t f s) es ≡ true) ⊎ ex s

    pub named-push : (ex ex' : ℕ → Type 0) (e : Edit) (es : List Edit) (made : ℕ) → ((s : ℕ) → ex s → (names_slot t f s e ≡ true) ⊎ ex' s) → Named ex es made → Named ex' (e ∷ es) made
    unfolding any_in
    named-push ex ex' e es made h g s a b = ⊎_elim (λ q. inl (rw q (or-true (names_slot t f s e)))) (λ q. ⊎_elim (λ r. inl (rw r refl)) (λ r. inr r) (h s q)) (g s a b)

    -- a slot taken, beside what is held elsewhere
    pub record Taken (z : ℕ) (ex : ℕ → Type 0) (extra : Count) (es : List Edit) (a : Acquired) : Type 0 where
      pub fair : Fair (λ s y. stacked a.cache s y + (one a.slot z s y + extra s y)) es
      pub named : Named (λ s. ex s ⊎ (s ≡ a.slot)) es a.cache.made

    pub acquire-fair : (z : ℕ) (c : Cache) (ex : ℕ → Type 0) (extra : Count) (es : List Edit) → is_size t f z ≡ true → ((m : ℕ) → sum (λ s. extra s z) m < 127 + f.kept)
        → Fair (λ s y. stacked c s y + extra s y) es → Named ex es c.made → All (Taken z ex extra es) (acquire t f z c)
    unfolding acquire_from occurs
    acquire-fair z c ex extra es i few g n = go (c.stacks z) refl
      where
        go : (l : List ℕ) → c.stacks z ≡ l → All (Taken z ex extra es) (acquire_from t f l z c)
        go [] e =
            branch (All (Taken z ex extra es)) (ltb c.made f.limit) _ _
            (λ _. record {
              fair =
                  fair-cong (λ s y. one (f.slots + c.made) z s y + (stacked c s y + extra s y)) _ es (λ s y. omega arith)
                  (fair-make _ es (f.slots + c.made) z i
                  (λ m. omega (arith, few m, sum-le (λ s. stacked c s z + extra s z) (λ s. extra s z) m (λ s h. omega (arith, ap (occurs s) e)))) g);
              named = λ s a b. ⊎_elim (λ h. ⊎_elim (λ q. inl q) (λ q. inr (inl q)) (n s a h)) (λ h. inr (inr (omega arith))) (less? s (f.slots + c.made));
            }) (λ _. tt)
        go (x ∷ l) e =
            record {
              fair =
                  fair-cong (λ s y. stacked c s y + extra s y) _ es
                  (λ s y. updated-at (λ k. occurs s k + (one x z s y + extra s y) ≡ stacked c s y + extra s y) z l c.stacks y
                  (λ q. omega (arith, one-top x z s y l q, ap (occurs s) e, ap (λ j. occurs s (c.stacks j)) q))
                  (λ d. omega (arith, one-away x z s y d))) g;
              named = λ s a b. ⊎_elim (λ q. inl q) (λ q. inr (inl q)) (n s a b);
            }

    release-fair : (z x : ℕ) (c : Cache) (extra : Count) (es : List Edit) → Fair (λ s y. stacked c s y + (one x z s y + extra s y)) es → Fair (λ s y. stacked (release t f z x c) s y + extra s y) es
    release-fair z x c extra es g =
        fair-cong (λ s y. stacked c s y + (one x z s y + extra s y)) _ es
        (λ s y. updated-at (λ k. occurs s k + extra s y ≡ stacked c s y + (one x z s y + extra s y)) z (x ∷ c.stacks z) c.stacks y
        (λ q. omega (arith, one-top x z s y (c.stacks z) q, ap (λ j. occurs s (c.stacks j)) q))
        (λ d. omega (arith, one-away x z s y d))) g

    -- an evicted register waits in a slot of its bank's size
    abbrev Own : Evicted → Type 0
    Own e = e.size ≡ spillslot_size t (bank_for_reg t e.reg)

    -- the keeper, beside what is held elsewhere
    pub record Kept (ex : ℕ → Type 0) (extra : Count) (k : ScratchAllocator) : Type 0 where
      pub fair : Fair (λ s z. stacked k.cache s z + (waits k.evicted s z + extra s z)) k.edits
      pub named : Named ex k.edits k.cache.made
      pub held : length k.evicted ≤ f.kept
      pub own : Every Own k.evicted

    pub kept-cong : (ex : ℕ → Type 0) (a b : Count) (k : ScratchAllocator) → ((s z : ℕ) → b s z ≡ a s z) → Kept ex a k → Kept ex b k
    kept-cong ex a b k e g = record { fair = fair-cong _ _ k.edits (λ s z. omega (arith, e s z)) g.fair; named = g.named; held = g.held; own = g.own }

    pub kept-except : (ex ex' : ℕ → Type 0) (extra : Count) (k : ScratchAllocator) → ((s : ℕ) → ex s → ex' s) → Kept ex extra k → Kept ex' extra k
    kept-except ex ex' extra k h g = record { fair = g.fair; named = λ s a b. ⊎_elim (λ q. inl q) (λ q. inr (h s q)) (g.named s a b); held = g.held; own = g.own }

    -- an edit that names what is held elsewhere
    pub kept_push :
        (ex ex' : ℕ → Type 0) (extra : Count) (e : Edit) (k : ScratchAllocator) → Names extra e → ((s : ℕ) → ex s → (names_slot t f s e ≡ true) ⊎ ex' s) → Kept ex extra k
        → Kept ex' extra (push e k)
    kept_push ex ex' extra e k n h g =
        record {
          fair = record { few = g.fair.few; sized = g.fair.sized; lies = ((λ s l q. omega (arith, n s l q)), g.fair.lies) };
          named = named-push ex ex' e k.edits k.cache.made h g.named;
          held = g.held;
          own = g.own;
        }

    -- to bring back names each slot under its register
    abbrev Back : (ℕ → Type 0) → Count → ScratchAllocator → Type 0
    Back ex extra k = Fair (λ s z. stacked k.cache s z + (waits k.evicted s z + extra s z)) k.edits × Named ex k.edits k.cache.made

    unevict-back : (l : List Evicted) (k : ScratchAllocator) (ex : ℕ → Type 0) (extra : Count) → Every Own l
        → Fair (λ s z. stacked k.cache s z + (waits l s z + (waits k.evicted s z + extra s z))) k.edits → Named ex k.edits k.cache.made → Back ex extra (unevict t f l k)
    unfolding unevict waits
    unevict-back [] k ex extra o g n = (fair-cong _ _ k.edits (λ s z. omega arith) g, n)
    unevict-back (e ∷ l) k ex extra o g n =
        let u : ScratchAllocator = unevict t f l k in
        let r : Back ex (λ s z. one e.slot e.size s z + extra s z) u =
        unevict-back l k ex (λ s z. one e.slot e.size s z + extra s z) o.1 (fair-cong _ _ k.edits (λ s z. omega arith) g) n in
        let i : Edit = EmergencySpill e.slot e.reg in
        let h : Names (λ s z. stacked u.cache s z + (waits u.evicted s z + (one e.slot e.size s z + extra s z))) i =
        λ s low q. omega (arith, one-here e.slot e.size s (spillslot_size t (bank_for_reg t e.reg)) (sym (eqb-true e.slot s q)) (sym o.0)) in (
          release-fair e.size e.slot u.cache (λ s z. waits u.evicted s z + extra s z) (i ∷ u.edits)
              (fair-cong (λ s z. stacked u.cache s z + (waits u.evicted s z + (one e.slot e.size s z + extra s z))) _ (i ∷ u.edits) (λ s z. omega arith)
              (record { few = r.0.few; sized = r.0.sized; lies = (h, r.0.lies) })),
          named-push ex ex i u.edits u.cache.made (λ s q. inr q) r.1,
        )

    part-kept : (k : ScratchAllocator) (es rest : List Evicted) (ex : ℕ → Type 0) (extra : Count) → Parts es rest k.evicted → Kept ex extra k → Kept ex extra (unevict t f es (with_evicted rest k))
    part-kept k es rest ex extra h g =
        let o = parts-every Own es rest k.evicted h g.own in
        let q = unevict-evicted t f es (with_evicted rest k) in
        let b = unevict-back es (with_evicted rest k) ex extra o.0
        (fair-cong (λ s z. stacked k.cache s z + (waits k.evicted s z + extra s z)) _ k.edits (λ s z. omega (arith, waits-parts es rest k.evicted h s z)) g.fair) g.named in
        record { fair = b.0; named = b.1; held = omega (arith, g.held, parts-length es rest k.evicted h, ap length q); own = subst (Every Own) (sym q) o.1 }

    all-kept : (k : ScratchAllocator) (ex : ℕ → Type 0) (extra : Count) → Kept ex extra k → Kept ex extra (unevict_all t f k)
    all-kept k ex extra g = part-kept k k.evicted [] ex extra (all-parts k.evicted) g

    pub some-kept : (p : Place) (k : ScratchAllocator) (ex : ℕ → Type 0) (extra : Count) → Kept ex extra k → Kept ex extra (unevict_for_reg t f p k)
    unfolding unevict_for_reg
    some-kept p k ex extra g =
        part-kept k (filter (overlaps_evicted t f p) k.evicted) (filter (λ e. no (overlaps_evicted t f p e)) k.evicted) ex extra (filter_parts (overlaps_evicted t f p) k.evicted) g

    pub room-kept : (r : ℕ) (k : ScratchAllocator) (ex : ℕ → Type 0) (extra : Count) → Kept ex extra k → Kept ex extra (make_room t f r k)
    unfolding make_room unevict_but
    room-kept r k ex extra g =
        let k' = unevict_for_reg t f (reg r) k in
        part-kept k' (drop (pred f.kept) k'.evicted) (take (pred f.kept) k'.evicted) ex extra (drop-parts (pred f.kept) k'.evicted) (some-kept (reg r) k ex extra g)

    pub place_kept : (z : ℕ) (p : Place) (k : ScratchAllocator) (ex : ℕ → Type 0) (extra : Count) → Kept ex (λ s y. holds p z s y + extra s y) k → Kept ex extra (release_place t f z p k)
    unfolding holds
    place_kept z (reg r) k ex extra g = kept-cong ex (λ s y. 0 + extra s y) extra k (λ s y. omega arith) g
    place_kept z (slot x) k ex extra g =
        record {
          fair =
              release-fair z x k.cache (λ s y. waits k.evicted s y + extra s y) k.edits
              (fair-cong (λ s y. stacked k.cache s y + (waits k.evicted s y + (one x z s y + extra s y))) _ k.edits (λ s y. omega arith) g.fair);
          named = g.named;
          held = g.held;
          own = g.own;
        }

    -- what is known of a run that has ended
    pub record Ended (k : ScratchAllocator) : Type 0 where
      pub fair : Fair (stacked k.cache) k.edits
      pub named : Named Nothing k.edits k.cache.made

    pub ended : (k : ScratchAllocator) → Kept Nothing (λ s y. 0) k → Ended (unevict_all t f k)
    unfolding waits
    ended k g =
        let q = all-kept k Nothing (λ s y. 0) g in
        record { fair = fair-cong _ _ (unevict_all t f k).edits (λ s z. omega (arith, ap (λ l. waits l s z) (unevict-evicted t f k.evicted (with_evicted [] k)))) q.fair; named = q.named }
