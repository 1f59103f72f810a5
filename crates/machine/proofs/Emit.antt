-- Emitting a move, and that it keeps the program sound.
use mathlib.Core.Path.{◌≡◌, refl, sym, subst}
use mathlib.Core.Bool.{Bool, true, false, not, ◌&&◌, ◌||◌}
use mathlib.Core.List.{[]}
use mathlib.Core.Option.{some}
use mathlib.Core.Logic.{◌⊎◌, inr, ⊎_elim}
use Prim.Native.Nat.{ℕ, ◌+◌, ◌≤◌}
use lib.Dec.{T, T_not}
use lib.ListN.{length}
use Rattle.entity.specs.Place.{Place, reg, slot}
use Rattle.reginfo.specs.RegInfo.{RegInfo, allocation_order, includes_spillslots, last_in_order, stack_to_stack_class, is_memory_reg, is_memory}
use Rattle.function.specs.Function.{Function}
use Rattle.rules.specs.Edit.{Move, and_then}
use Rattle.rules.specs.Scratch.{ScratchAllocator, Found, push, units_of_reg, make_available, make_unavailable, unevict_for_reg, get_scratch_reg, nothing_barred, move_edits, do_move}
use Rattle.machine.specs.Machine.{fits}
use Rattle.rules.proofs.Steps.{All, all_then}
use Rattle.machine.proofs.Tests.{has_in, or_case, and_split, if}
use Rattle.machine.proofs.Memory.{TargetOk, covers, Apart, memory-apart}
use Rattle.machine.proofs.Run.{Waits, Job}
use Rattle.machine.proofs.View.{under, shown}
use Rattle.machine.proofs.Sound.{Needs, Within, Live, Ok, Pre, Sound, Turns, met-raw}
use Rattle.machine.proofs.Macro.{Goal, Scratch, Standing, move, through}
use Rattle.machine.proofs.Search.{wait, Empty, ApartW, reg-covers, Room, Kept, BackFor, bring_for-ok, ClassOk, Free, FoundOk, search-ok, clear_of, lone-memory, free-covers, kept_free}

pub no-right : (a b : Bool) → T (not b) → T (not (a && b))
no-right true b h = h
no-right false b h = tt

pub no-left : (a b : Bool) → T (not a) → T (not (a && b))
no-left true b h = absurd h
no-left false b h = tt

module _ (t : RegInfo) (F : Function) (tk : TargetOk t) where
  module _ (j : Job) (em : (s : ℕ) → F.slots ≤ s → j.may (512 + s)) where
    abbrev K : Needs → ScratchAllocator → Type 0
    K = Kept t F tk j em

    -- a move asked for: what is needed after it is given is needed before
    pub record Asked (needs needs' : Needs) (to from : Place) (v : ℕ) : Type 0 where
      pub live : Live t F tk j needs
      pub given : needs to v
      pub turns : Turns t F tk j needs needs' [] to v
      pub back : (p : Place) (x : ℕ) → needs' p x → (p ≡ from) ⊎ (needs p x × Apart t F tk p to)
      pub len : T (fits t F to (length (j.content v)))
      pub inside : Within t F tk j (covers t F tk to)

    -- the stack class of a bank whose registers take n words
    pub record StackOk (b n : ℕ) : Type 0 where
      pub ok : ClassOk t F tk j em (stack_to_stack_class t b) n
      pub no-slots : T (not (includes_spillslots t (stack_to_stack_class t b)))
      pub plain : (r : ℕ) → T (has_in (allocation_order t (stack_to_stack_class t b)) r) → T (not (is_memory_reg t r))

    module _ (needs needs' : Needs) (to from : Place) (v : ℕ) (a : Asked needs needs' to from v) where
      pub goal : (k : ScratchAllocator) → Room t F tk j em needs k → ApartW t F tk (wait k) to → Goal t F tk j (wait k) v to needs needs'
      goal k h o =
          record {
            turns = a.turns;
            len = a.len;
            inside = λ u c. a.inside u (and_split (covers t F tk to u) (not (under t F tk (wait k) u)) c).0;
            clear = clear_of t F tk j em (wait k) to o (λ s e. h.empty to v a.given s (inr e));
          }

      -- what the edits of the move leave, with the precondition P in front of them
      pub record Moved (P : Waits → Pre t F tk j) (k k' : ScratchAllocator) : Type 0 where
        pub sound : Sound t F tk j k'.edits (wait k') (P (wait k'))
        pub room : Room t F tk j em needs k'
        pub fewer : (s : ℕ) → Empty t F tk k' s → Empty t F tk k s
        pub avails : (u : ℕ) → T (k.available u) → T (k'.available u)
        pub same : T (not (is_memory t from)) → wait k' ≡ wait k

      module _ (b : ℕ) (sk : StackOk b (length (j.content v))) where
        abbrev c : ℕ
        c = stack_to_stack_class t b

        abbrev pub Through : ScratchAllocator → Found → Type 0
        Through k x = FoundOk t F tk j em needs b c (length (j.content v)) (nothing_barred t F) sk.ok k x

        pub move_edits-ok : (P : Waits → Pre t F tk j) (k : ScratchAllocator) → K needs k → ApartW t F tk (wait k) to
            → Standing t F tk j (wait k) v (P (wait k)) needs' from
            → (T (is_memory t from) → (x : Found) → Through k x → Standing t F tk j (wait x.scratch) v (P (wait x.scratch)) needs' from)
            → All (Moved P k) (move_edits t F b to from v k)
        unfolding move_edits
        move_edits-ok P k h off st st' = if (All (Moved P k)) (is_memory t to && is_memory t from) _ _ mem-mem direct
          where
            direct : T (not (is_memory t to && is_memory t from)) → Moved P k (push (Move to from v) k)
            direct nm =
                record {
                  sound = move t F tk j (wait k) v k.edits needs needs' h.sound a.live to (goal k h.room off) (P (wait k)) from st nm;
                  room = h.room;
                  fewer = λ s e. e;
                  avails = λ u i. i;
                  same = λ _. refl;
                }

            mem-mem : T (is_memory t to && is_memory t from)
                → All (Moved P k) (and_then (get_scratch_reg t F b c (nothing_barred t F) k) (λ x. some (push (Move x.place from v) (push (Move to x.place v) x.scratch))))
            mem-mem mm =
                all_then (Through k) (Moved P k) (get_scratch_reg t F b c (nothing_barred t F) k) _
                (search-ok t F tk j em needs b c (length (j.content v)) (nothing_barred t F) sk.ok k h) next
              where
                tm : T (is_memory t to)
                tm = (and_split (is_memory t to) (is_memory t from) mm).0

                fm : T (is_memory t from)
                fm = (and_split (is_memory t to) (is_memory t from) mm).1

                next : (x : Found) → Through k x → Moved P k (push (Move x.place from v) (push (Move to x.place v) x.scratch))
                next x f =
                    record {
                      sound =
                          through t F tk j (wait k') v k'.edits needs needs' f.kept.sound a.live to
                          (goal k' f.kept.room (f.still to off (λ _. memory-apart t F tk to (last_in_order t c) tm (sk.ok.last-plain sk.no-slots)))) (P (wait k'))
                          x.place from scratch (st' fm x f) (no-right (is_memory t to) (is_memory t x.place) np) (no-left (is_memory t x.place) (is_memory t from) np);
                      room = f.kept.room;
                      fewer = f.fewer;
                      avails = f.avails;
                      same = λ nm. absurd (T_not (is_memory t from) nm fm);
                    }
                  where
                    k' : ScratchAllocator
                    k' = x.scratch

                    np : T (not (is_memory t x.place))
                    np = f.plain sk.no-slots sk.plain

                    free : (u : ℕ) → T (shown t F tk (wait k') (covers t F tk x.place) u) → Free t F tk j em c (nothing_barred t F) k' u
                    free u d =
                        let e = and_split (covers t F tk x.place u) (not (under t F tk (wait k') u)) d in
                        ⊎_elim (⊎_elim (λ r. r) (λ l. absurd (lone-memory t F tk j em needs x.place k' u l np))) (λ z. absurd (T_not (under t F tk (wait k') u) e.1 z.1)) (f.clean u e.0)

                    scratch : Scratch t F tk j (wait k') v x.place needs'
                    scratch =
                        record {
                          unneeded = λ p y n u d sh.
                              ⊎_elim
                              (λ e. memory-apart t F tk from (free u sh).of fm (sk.plain (free u sh).of (free u sh).listed) u (subst (λ (q : Place). T (covers t F tk q u)) e d) (free-covers t F tk j em c (nothing_barred t F) k' u (free u sh)))
                              (λ i. kept_free t F tk j em needs c (nothing_barred t F) k' u f.kept.room (free u sh) p y i.0 d)
                              (a.back p y n);
                          len = f.len;
                          inside = λ u sh. f.kept.room.inside (free u sh).of u (free u sh).its (free u sh).now;
                          aside = f.aside;
                        }

        -- the marks after the move: the destination's units available, then the source's unavailable
        turned-ok : (k₀ k : ScratchAllocator) → ((s : ℕ) → Empty t F tk k₀ s → Apart t F tk from (slot s)) → ((s : ℕ) → Empty t F tk k s → Empty t F tk k₀ s)
            → Room t F tk j em needs k → Sound t F tk j k.edits (wait k) (Ok t F tk j needs' (wait k)) → K needs' (make_unavailable t F from (make_available t F to k))
        turned-ok k₀ k real fw h snd =
            record {
              sound = snd;
              room =
                  record {
                    inside = λ r u y c. ⊎_elim (λ i. a.inside u (reg-covers t F tk to u i)) (h.inside r u y) (turned u c).0;
                    spare = λ r x n u i c.
                        ⊎_elim (λ e. T_not (has_in (units_of_reg t F from) u) (turned u c).1 (subst (λ (y : Place). T (has_in (units_of_reg t F y) u)) e i))
                        (λ b. ⊎_elim (λ y. b.1 u (reg-covers t F tk (reg r) u i) (reg-covers t F tk to u y)) (h.spare r x b.0 u i) (turned u c).0)
                        (a.back (reg r) x n);
                    cache-ok = h.cache-ok;
                    waits = h.waits;
                    empty = λ p x n s e.
                        ⊎_elim (λ i. subst (λ (y : Place). Apart t F tk y (slot s)) (sym i) (real s (fw s e))) (λ b. h.empty p x b.0 s e) (a.back p x n);
                  };
            }
          where
            turned : (u : ℕ) → T ((has_in (units_of_reg t F to) u || k.available u) && not (has_in (units_of_reg t F from) u)) → (T (has_in (units_of_reg t F to) u) ⊎ T (k.available u)) × T (not (has_in (units_of_reg t F from) u))
            turned u c =
                let d = and_split (has_in (units_of_reg t F to) u || k.available u) (not (has_in (units_of_reg t F from) u)) c in
                (or_case (has_in (units_of_reg t F to) u) (k.available u) d.0, d.1)

        abbrev pub Emitted : ScratchAllocator → ScratchAllocator → Type 0
        Emitted k₀ k = K needs' k × ((s : ℕ) → Empty t F tk k s → Empty t F tk k₀ s)

        -- to and from are clear of those that wait once whichever overlap them are brought back
        pub do_move-ok : (k₀ : ScratchAllocator) → needs' from v → ((s : ℕ) → Empty t F tk k₀ s → Apart t F tk from (slot s)) → K needs k₀ → All (Emitted k₀) (do_move t F b to from v k₀)
        unfolding do_move
        do_move-ok k₀ take real h₀ =
            all_then (Moved (λ w. Ok t F tk j needs' w) k) (Emitted k₀) (move_edits t F b to from v k) _
            (move_edits-ok (λ w. Ok t F tk j needs' w) k h b₂.off (standing k (b₂.back.still from b₁.off) (λ s e. e))
            (λ fm x f. standing x.scratch (f.still from (b₂.back.still from b₁.off) (λ _. memory-apart t F tk from (last_in_order t c) fm (sk.ok.last-plain sk.no-slots))) f.fewer))
            (λ k' m. (turned-ok k₀ k' real (λ s e. fewer s (m.fewer s e)) m.room m.sound, λ s e. fewer s (m.fewer s e)))
          where
            b₁ : BackFor t F tk j em needs from k₀ (unevict_for_reg t F from k₀)
            b₁ = bring_for-ok t F tk j em needs from k₀ h₀

            k : ScratchAllocator
            k = unevict_for_reg t F to (unevict_for_reg t F from k₀)

            b₂ : BackFor t F tk j em needs to (unevict_for_reg t F from k₀) k
            b₂ = bring_for-ok t F tk j em needs to (unevict_for_reg t F from k₀) b₁.back.kept

            h : K needs k
            h = b₂.back.kept

            fewer : (s : ℕ) → Empty t F tk k s → Empty t F tk k₀ s
            fewer s e = b₁.back.fewer s (b₂.back.fewer s e)

            standing : (k' : ScratchAllocator) → ApartW t F tk (wait k') from → ((s : ℕ) → Empty t F tk k' s → Empty t F tk k s) → Standing t F tk j (wait k') v (Ok t F tk j needs' (wait k')) needs' from
            standing k' af fw m l ok = (ok, met-raw t F tk j needs' (wait k') m l from v ok take (clear_of t F tk j em (wait k') from af (λ s e. real s (fewer s (fw s (inr e))))))
