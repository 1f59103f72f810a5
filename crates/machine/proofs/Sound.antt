-- A program built backwards: sound from any state that meets a precondition, so that edits come in groups.
use mathlib.Core.Path.{◌≡◌, refl, sym, ◌∙◌, ap}
use mathlib.Core.Bool.{Bool, true, false, not, ◌&&◌}
use mathlib.Core.List.Memᴰ
use mathlib.Core.List.{List, [], ◌∷◌}
use mathlib.Core.Option.{some}
use mathlib.Core.Logic.{◌⊎◌, inl, inr}
use Prim.Native.Nat.{ℕ, ◌+◌}
use lib.Dec.{T, not_T}
use lib.ListN.{length}
use Rattle.entity.specs.Place.{Place, reg, slot}
use Rattle.reginfo.specs.RegInfo.{RegInfo, is_memory_reg, is_memory, in_class}
use Rattle.function.specs.Function.{Function, can_rematerialize, remat_class}
use Rattle.rules.specs.Edit.{Edit, Move, Rematerialize, EmergencySpill, EmergencyReload}
use Rattle.rules.proofs.Parts.{Picked}
use Rattle.machine.specs.Machine.{Memory, in_slot, Machine, Waiting, Written, read, write, fits, step, counted, seen}
use Rattle.machine.proofs.Tests.{or_r, both}
use Rattle.machine.proofs.Memory.{TargetOk, Off, covers, Apart, write-off, read_off, read-write}
use Rattle.machine.proofs.Run.{Wait, Waits, held, held-saved, Orders, orders-every, nobody, more, orders-insert, Log, wr, state, when-yes, Job, view, Frame, Anchored, Holds, Stop, Along}
use Rattle.machine.proofs.View.{Spread, Plain, Ready, under, shown, Clear, Aside, clear-aside, clear-read, same_view, under-lists, view-off, held-off, ready-off, reloaded, reload-view, reload-ready, reload-without, spill-off, spill-ready, spill-without}

abbrev pub Needs : Type 1
Needs = Place → ℕ → Type 0

module _ (t : RegInfo) (F : Function) (tk : TargetOk t) where
  -- the value can be rebuilt into the place
  abbrev pub can : ℕ → Place → Bool
  can v p = can_rematerialize F v && in_class t (remat_class F v) p

  -- ws written at p
  abbrev pub wrote : Place → List ℕ → Waits → Memory → Log → Machine
  wrote p ws w m l = state w (write t F p ws m) (wr p ws ∷ l)

  module _ (j : Job) where
    frame-refl : (a : Memory) → Frame t F j a a
    frame-refl a = record { words = λ u k. refl; lists = λ u k. refl }

    frame-trans : (a b c : Memory) → Frame t F j a b → Frame t F j b c → Frame t F j a c
    frame-trans a b c f g = record { words = λ u k. f.words u k ∙ g.words u k; lists = λ u k. f.lists u k ∙ g.lists u k }

    abbrev pub Within : (ℕ → Bool) → Type 0
    Within c = (u : ℕ) → T (c u) → j.may u

    off-frame : (c : ℕ → Bool) (a b : Memory) → Within c → Off c b a → Frame t F j a b
    off-frame c a b i o =
        record {
          words = λ u k. sym (o.words u (not_T (c u) (λ h. k (i u h))));
          lists = λ u k. sym (o.lists u (not_T (c u) (λ h. k (i u h))));
        }

    along-frame : (es : List Edit) (a b : Memory) (st : Machine) → Frame t F j a b → Along t F j es b st → Along t F j es a st
    along-frame [] a b st f h = (record { frame = frame-trans a b (seen t F st) f h.0.frame; lives = h.0.lives; saved = h.0.saved }, h.1)
    along-frame (e ∷ es) a b st f h = (
      h.0,
      record { frame = frame-trans a b (seen t F st) f h.1.frame; lives = h.1.lives; saved = h.1.saved },
      h.2,
      along-frame es a b h.0 f h.3,
    )

    abbrev pub Met : Needs → Machine → Type 0
    Met needs st = (p : Place) (v : ℕ) → needs p v → Holds t F j st p v

    -- each value of a kept move is needed somewhere
    abbrev pub Live : Needs → Type 0
    Live needs = (v : ℕ) → j.tracked v → (p : Place) × needs p v

    pub record Ok (needs : Needs) (w : Waits) (m : Memory) (l : Log) : Type 0 where
      pub live : Live needs
      pub ready : Ready t F tk w m
      pub met : Met needs (state w m l)

    abbrev pub Pre : Type 1
    Pre = Memory → Log → Type 0

    -- from where those of w wait, in whatever order they were saved
    unfoldable pub Sound : List Edit → Waits → Pre → Type 0
    Sound prog w P = (o : Waits) → Orders o w → (m : Memory) (l : Log) → P m l → Along t F j prog (view t F w m) (state o m l)

    stop-here : (needs : Needs) (o w : Waits) (m : Memory) (l : Log) → Orders o w → Ok needs w m l → Stop t F j (view t F w m) (state o m l)
    stop-here needs o w m l od ok =
        rw (← same_view t F tk o w m od ok.ready.plain ok.ready.spread)
        (record { frame = frame-refl (view t F o m); lives = λ v k. ((ok.live v k).0, holds (ok.live v k).0 v (ok.met (ok.live v k).0 v (ok.live v k).1)); saved = held-saved m o })
      where
        holds : (p : Place) (v : ℕ) → Holds t F j (state w m l) p v → Holds t F j (state o m l) p v
        holds p v h = (h.0, rw (same_view t F tk o w m od ok.ready.plain ok.ready.spread) h.1)

    -- e can be done, and comes to where Q holds, those of w waiting; a is the view before it
    pub record Leads (e : Edit) (a : Memory) (st : Machine) (w : Waits) (Q : Pre) : Type 0 where
      pub order : Waits
      pub ordered : Orders order w
      pub mem : Memory
      pub log : Log
      pub done : step t F j.content e st ≡ some (state order mem log)
      pub pre : Q mem log
      pub frame : Frame t F j a (view t F w mem)

    pub prepend : (e : Edit) (prog : List Edit) (w w' : Waits) (P Q : Pre) (needs : Needs) → Sound prog w Q
        → ((o : Waits) → Orders o w' → (m : Memory) (l : Log) → P m l → Ok needs w' m l × Leads e (view t F w' m) (state o m l) w Q)
        → Sound (e ∷ prog) w' P
    unfolding Sound
    prepend e prog w w' P Q needs snd next o od m l p =
        let n = next o od m l p in
        let d = n.1 in (
          state d.order d.mem d.log,
          stop-here needs o w' m l od n.0,
          d.done,
          along-frame prog (view t F w' m) (view t F w d.mem) (state d.order d.mem d.log) d.frame (snd d.order d.ordered d.mem d.log d.pre),
        )

    -- at the end nothing waits, and what is needed is what is asked
    pub sound-nil : (needs : Needs) → ((p : Place) (v : ℕ) → j.final p v → needs p v) → Sound [] [] (Ok needs [])
    unfolding Sound counted
    sound-nil needs all o od m l ok =
        (stop-here needs o [] m l od ok, record { placed = λ p v k. (ok.met p v (all p v k)).1; none-waits = ap (held m) (none_left o od) })
      where
        none_left : (o : Waits) → Orders o [] → o ≡ []
        none_left _ nobody = refl

    later : (l : Log) (x : Written) (p : Place) (v : ℕ) → Anchored t F j l p v → Anchored t F j (x ∷ l) p v
    later l x p v (inl h) = inl h
    later l x p v (inr h) = inr (Memᴰ.tail h)

    -- the edit can be done, and writes the value's content at p
    pub record Gives (e : Edit) (p : Place) (v : ℕ) (m : Memory) (l : Log) : Type 0 where
      pub ws : List ℕ
      pub whole : ws ≡ j.content v
      pub done : (o : List Waiting) → step t F j.content e (record { memory = m; waiting = o; written = l }) ≡ some (record { memory = write t F p ws m; waiting = o; written = wr p ws ∷ l })

    -- past the slots of those that wait
    done-aside : (e : Edit) (p : Place) (v : ℕ) (m : Memory) (l : Log) (w o : Waits) → Orders o w → Aside t F tk w (covers t F tk p) → (g : Gives e p v m l)
        → step t F j.content e (state o m l) ≡ some (wrote p g.ws o m l)
    done-aside e p v m l w o od asd g =
        g.done (held m o)
        ∙ ap (λ (y : List Waiting). some (record { memory = write t F p g.ws m; waiting = y; written = wr p g.ws ∷ l }))
        (held-off t F tk o (covers t F tk p) (write t F p g.ws m) m (orders-every (λ x. T (not (covers t F tk p (512 + x.slot)))) o w od asd) (write-off t F tk p g.ws m))

    pub move_gives : (to from : Place) (v : ℕ) (m : Memory) (l : Log) → read t F m from ≡ j.content v
        → T (not (is_memory t to && is_memory t from)) → T (fits t F to (length (j.content v))) → Gives (Move to from v) to v m l
    unfolding step
    move_gives to from v m l e nm ft =
        let ft' : T (fits t F to (length (read t F m from))) = rw e ft in
        record {
          ws = read t F m from;
          whole = e;
          done = λ o. when-yes (not (is_memory t to && is_memory t from) && fits t F to (length (read t F m from))) _ (both (not (is_memory t to && is_memory t from)) (fits t F to (length (read t F m from))) nm ft');
        }

    pub remat-gives : (to : Place) (v : ℕ) (m : Memory) (l : Log) → T (can v to) → Gives (Rematerialize to v) to v m l
    unfolding step
    remat-gives to v m l can' = record { ws = j.content v; whole = refl; done = λ o. when-yes (can v to) _ can' }

    -- needs that stay where the units of c change
    kept : (needs : Needs) (w : Waits) (c : ℕ → Bool) (x : Written) (a m : Memory) (l : Log)
        → Off c (view t F w a) (view t F w m) → Met needs (state w m l)
        → (p : Place) (v : ℕ) → needs p v → ((u : ℕ) → T (covers t F tk p u) → T (c u) → ⊥) → Holds t F j (state w a (x ∷ l)) p v
    kept needs w c x a m l o met p v n d = (later l x p v (met p v n).0, read_off t F tk c (view t F w a) (view t F w m) o p d ∙ (met p v n).1)

    -- a write that the view shows
    module _ (needs needs' : Needs) (w : Waits) (to : Place) (v : ℕ) where
      -- what is needed afterwards is the content at the place, or was needed before, elsewhere
      abbrev pub Turns : Type 0
      Turns = (p : Place) (x : ℕ) → needs p x → ((p ≡ to) × (x ≡ v)) ⊎ (needs' p x × Apart t F tk p to)

      shown-apart : (p : Place) → Apart t F tk p to → (u : ℕ) → T (covers t F tk p u) → T (shown t F tk w (covers t F tk to) u) → ⊥
      shown-apart p d u h k = d u h (fst (covers t F tk to u) (not (under t F tk w u)) k)
        where
          fst : (a b : Bool) → T (a && b) → T a
          fst true b x = tt
          fst false b x = x

      met-write : (ws : List ℕ) (m : Memory) (l : Log) → ws ≡ j.content v → T (fits t F to (length (j.content v))) → Clear t F tk w to → Turns
          → Off (shown t F tk w (covers t F tk to)) (view t F w (write t F to ws m)) (view t F w m) → Met needs' (state w m l) → Met needs (wrote to ws w m l)
      met-write ws m l e ft cl turns o met p x n = go (turns p x n)
        where
          here : Holds t F j (wrote to ws w m l) to v
          here = (inr (Memᴰ.head (ap (wr to) (sym e))), clear-read t F tk w (write t F to ws m) to cl ∙ read-write t F tk to ws m (rw e ft) ∙ e)

          go : ((p ≡ to) × (x ≡ v)) ⊎ (needs' p x × Apart t F tk p to) → Holds t F j (wrote to ws w m l) p x
          go (inl k) = rw (k.0, k.1) here
          go (inr k) = kept needs' w (shown t F tk w (covers t F tk to)) (wr to ws) (write t F to ws m) m l o met p x k.0 (shown-apart p k.1)

      pub visible : (e : Edit) (prog : List Edit) (P : Pre) → Sound prog w (Ok needs w) → Live needs
          → ((m : Memory) (l : Log) → P m l → Ok needs' w m l × Gives e to v m l)
          → Turns → T (fits t F to (length (j.content v))) → Within (shown t F tk w (covers t F tk to)) → Clear t F tk w to
          → Sound (e ∷ prog) w P
      visible e prog P snd lv pre turns ft inn ct = prepend e prog w w P (Ok needs w) needs' snd next
        where
          next : (o : Waits) → Orders o w → (m : Memory) (l : Log) → P m l → Ok needs' w m l × Leads e (view t F w m) (state o m l) w (Ok needs w)
          next o od m l p =
              let ok = (pre m l p).0 in
              let g = (pre m l p).1 in
              let a = write t F to g.ws m in
              let f : Off (covers t F tk to) a m = write-off t F tk to g.ws m in
              let asd : Aside t F tk w (covers t F tk to) = clear-aside t F tk w to ct in
              let f' : Off (shown t F tk w (covers t F tk to)) (view t F w a) (view t F w m) = view-off t F tk w (covers t F tk to) a m asd ok.ready (under-lists t F tk w to g.ws m ok.ready.plain) f in (
                ok,
                record {
                  order = o;
                  ordered = od;
                  mem = a;
                  log = wr to g.ws ∷ l;
                  done = done-aside e to v m l w o od asd g;
                  pre = record { live = lv; ready = ready-off t F tk w (covers t F tk to) a m asd f ok.ready; met = met-write g.ws m l g.whole ft ct turns f' ok.met };
                  frame = off-frame (shown t F tk w (covers t F tk to)) (view t F w m) (view t F w a) inn f';
                },
              )

    -- a write under the registers that wait, or of what nobody needs: the view keeps every need
    module _ (needs : Needs) (w : Waits) (sc : Place) (v : ℕ) where
      abbrev pub Unneeded : Type 0
      Unneeded = (p : Place) (x : ℕ) → needs p x → (u : ℕ) → T (covers t F tk p u) → T (shown t F tk w (covers t F tk sc) u) → ⊥

      -- and the content stands there in the machine, whatever the view shows
      pub record Stands (m : Memory) (l : Log) : Type 0 where
        pub ok : Ok needs w m l
        pub raw : read t F m sc ≡ j.content v

      pub hidden : (e : Edit) (prog : List Edit) (P : Pre) → Sound prog w Stands
          → ((m : Memory) (l : Log) → P m l → Ok needs w m l × Gives e sc v m l)
          → Unneeded → T (fits t F sc (length (j.content v))) → Within (shown t F tk w (covers t F tk sc)) → Aside t F tk w (covers t F tk sc)
          → Sound (e ∷ prog) w P
      hidden e prog P snd pre un ft inn asd = prepend e prog w w P Stands needs snd next
        where
          next : (o : Waits) → Orders o w → (m : Memory) (l : Log) → P m l → Ok needs w m l × Leads e (view t F w m) (state o m l) w Stands
          next o od m l p =
              let ok = (pre m l p).0 in
              let g = (pre m l p).1 in
              let a = write t F sc g.ws m in
              let f : Off (covers t F tk sc) a m = write-off t F tk sc g.ws m in
              let f' : Off (shown t F tk w (covers t F tk sc)) (view t F w a) (view t F w m) = view-off t F tk w (covers t F tk sc) a m asd ok.ready (under-lists t F tk w sc g.ws m ok.ready.plain) f in (
                ok,
                record {
                  order = o;
                  ordered = od;
                  mem = a;
                  log = (wr sc g.ws) ∷ l;
                  done = done-aside e sc v m l w o od asd g;
                  pre =
                      record {
                        ok =
                            record {
                              live = ok.live;
                              ready = ready-off t F tk w (covers t F tk sc) a m asd f ok.ready;
                              met = λ p x n. kept needs w (shown t F tk w (covers t F tk sc)) (wr sc g.ws) a m l f' ok.met p x n (un p x n);
                            };
                        raw = read-write t F tk sc g.ws m (rw g.whole ft) ∙ g.whole;
                      };
                  frame = off-frame (shown t F tk w (covers t F tk sc)) (view t F w m) (view t F w a) inn f';
                },
              )

    -- a need that is clear of those that wait is met in the machine too
    pub met-raw : (needs : Needs) (w : Waits) (m : Memory) (l : Log) (p : Place) (v : ℕ) → Ok needs w m l → needs p v → Clear t F tk w p → read t F m p ≡ j.content v
    met-raw needs w m l p v ok n cl = sym (clear-read t F tk w m p cl) ∙ (ok.met p v n).1

    -- brought back later: here it waits, and its units count as holding what was saved
    pub reload : (r s : ℕ) (w : Waits) (prog : List Edit) (needs : Needs) → Sound prog w (Ok needs w) → Sound (EmergencyReload r s ∷ prog) (record { reg = r; slot = s } ∷ w) (Ok needs (record { reg = r; slot = s } ∷ w))
    unfolding step fits
    reload r s w prog needs snd = prepend (EmergencyReload r s) prog w (x ∷ w) (Ok needs (x ∷ w)) (Ok needs w) needs snd next
      where
        x : Wait
        x = record { reg = r; slot = s }

        next : (o : Waits) → Orders o (x ∷ w) → (m : Memory) (l : Log) → Ok needs (x ∷ w) m l → Ok needs (x ∷ w) m l × Leads (EmergencyReload r s) (view t F (x ∷ w) m) (state o m l) w (Ok needs w)
        next o (more {v = v} p od) m l ok =
            let ws = in_slot m s in
            let e : view t F (x ∷ w) m ≡ view t F w (reloaded t F tk x w m ok.ready) = reload-view t F tk x w m ok.ready in (
              ok,
              record {
                order = v;
                ordered = od;
                mem = write t F (reg r) ws m;
                log = (wr (reg r) ws) ∷ l;
                done =
                    when-yes (fits t F (reg r) (length (in_slot m s))) _ (or_r (is_memory_reg t r) _ ok.ready.full.0)
                    ∙ ap (λ (y : List Waiting). some (record { memory = write t F (reg r) ws m; waiting = y; written = wr (reg r) ws ∷ l })) (reload-without t F tk x w m ok.ready o v p od);
                pre = record { live = ok.live; ready = reload-ready t F tk x w m ok.ready; met = λ p v n. (later l (wr (reg r) ws) p v (ok.met p v n).0, rw e at (ok.met p v n).1) };
                frame = rw e (frame-refl (view t F w (write t F (reg r) ws m)));
              },
            )

    -- saved: what is needed later lies outside the slot
    pub spill : (x : Wait) (zs w : Waits) → Picked x zs w → Plain t F tk zs → Spread t F tk zs → (prog : List Edit) (needs : Needs) → Sound prog zs (Ok needs zs)
        → ((p : Place) (v : ℕ) → needs p v → Apart t F tk p (slot x.slot)) → Within (covers t F tk (slot x.slot))
        → Sound (EmergencySpill x.slot x.reg ∷ prog) w (Ok needs w)
    unfolding step
    spill x zs w pk pl sp prog needs snd out inn = prepend (EmergencySpill x.slot x.reg) prog zs w (Ok needs w) (Ok needs zs) needs snd next
      where
        next : (o : Waits) → Orders o w → (m : Memory) (l : Log) → Ok needs w m l → Ok needs w m l × Leads (EmergencySpill x.slot x.reg) (view t F w m) (state o m l) zs (Ok needs zs)
        next o od m l ok =
            let ws = read t F m (reg x.reg) in
            let a = write t F (slot x.slot) ws m in
            let f : Off (covers t F tk (slot x.slot)) (view t F zs a) (view t F w m) = spill-off t F tk x zs w pk pl sp m ok.ready in (
              ok,
              record {
                order = x ∷ o;
                ordered = orders-insert x o zs w pk od;
                mem = a;
                log = (wr (slot x.slot) ws) ∷ l;
                done = ap (λ (y : List Waiting). some (record { memory = a; waiting = y; written = wr (slot x.slot) ws ∷ l })) (spill-without t F tk x zs w pk pl sp m ok.ready o od);
                pre =
                    record {
                      live = ok.live;
                      ready = spill-ready t F tk x zs w pk pl sp m ok.ready;
                      met = λ p v n. (later l (wr (slot x.slot) ws) p v (ok.met p v n).0, read_off t F tk (covers t F tk (slot x.slot)) (view t F zs a) (view t F w m) f p (out p v n) ∙ (ok.met p v n).1);
                    };
                frame = off-frame (covers t F tk (slot x.slot)) (view t F w m) (view t F zs a) inn f;
              },
            )
