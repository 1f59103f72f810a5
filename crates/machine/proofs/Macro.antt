-- The groups of edits that the resolver emits, each put in front of a sound program.
use mathlib.Core.Path.{◌≡◌}
use mathlib.Core.Bool.{not, ◌&&◌}
use mathlib.Core.List.{List, ◌∷◌}
use Prim.Native.Nat.{ℕ}
use lib.Dec.{T}
use lib.ListN.{length}
use Rattle.entity.specs.Place.{Place}
use Rattle.reginfo.specs.RegInfo.{RegInfo, is_memory}
use Rattle.function.specs.Function.{Function}
use Rattle.rules.specs.Edit.{Edit, Move, Rematerialize}
use Rattle.machine.specs.Machine.{Memory, read, fits}
use Rattle.machine.proofs.Memory.{TargetOk, covers}
use Rattle.machine.proofs.Run.{Waits, Log, Job}
use Rattle.machine.proofs.View.{shown, Clear, Aside}
use Rattle.machine.proofs.Sound.{Needs, can, Within, Live, Ok, Pre, Sound, Turns, Unneeded, Stands, move_gives, remat-gives, visible, hidden}

module _ (t : RegInfo) (F : Function) (tk : TargetOk t) (j : Job) (w : Waits) (v : ℕ) where
  abbrev Fits : Place → Type 0
  Fits p = T (fits t F p (length (j.content v)))

  abbrev Pass : Place → Place → Type 0
  Pass to from = T (not (is_memory t to && is_memory t from))

  -- a destination that the program behind turns from needed to given
  pub record Goal (to : Place) (needs needs' : Needs) : Type 0 where
    pub turns : Turns t F tk j needs needs' w to v
    pub len : Fits to
    pub inside : Within t F tk j (shown t F tk w (covers t F tk to))
    pub clear : Clear t F tk w to

  -- a scratch place that nobody needs
  pub record Scratch (sc : Place) (needs : Needs) : Type 0 where
    pub unneeded : Unneeded t F tk j needs w sc v
    pub len : Fits sc
    pub inside : Within t F tk j (shown t F tk w (covers t F tk sc))
    pub aside : Aside t F tk w (covers t F tk sc)

  -- the precondition has the content stand at the place, in the machine itself
  abbrev pub Standing : Pre t F tk j → Needs → Place → Type 0
  Standing P needs from = (m : Memory) (l : Log) → P m l → Ok t F tk j needs w m l × (read t F m from ≡ j.content v)

  module _ (prog : List Edit) (needs needs' : Needs) (snd : Sound t F tk j prog w (Ok t F tk j needs w)) (lv : Live t F tk j needs) (to : Place) (g : Goal to needs needs') where
    pub move : (P : Pre t F tk j) (from : Place) → Standing P needs' from → Pass to from → Sound t F tk j (Move to from v ∷ prog) w P
    move P from st nm =
        visible t F tk j needs needs' w to v (Move to from v) prog P snd lv
        (λ m l h. ((st m l h).0, move_gives t F tk j to from v m l (st m l h).1 nm g.len))
        g.turns g.len g.inside g.clear

    pub remat-edit : T (can t F tk v to) → Sound t F tk j (Rematerialize to v ∷ prog) w (Ok t F tk j needs' w)
    remat-edit c =
        visible t F tk j needs needs' w to v (Rematerialize to v) prog (Ok t F tk j needs' w) snd lv
        (λ m l ok. (ok, remat-gives t F tk j to v m l c)) g.turns g.len g.inside g.clear

    pub through : (P : Pre t F tk j) (sc from : Place) → Scratch sc needs' → Standing P needs' from → Pass to sc → Pass sc from
        → Sound t F tk j (Move sc from v ∷ Move to sc v ∷ prog) w P
    through P sc from s st nm nm' =
        hidden t F tk j needs' w sc v (Move sc from v) (Move to sc v ∷ prog) P
        (move (Stands t F tk j needs' w sc v) sc (λ m l h. (h.ok, h.raw)) nm)
        (λ m l h. ((st m l h).0, move_gives t F tk j sc from v m l (st m l h).1 nm' s.len))
        s.unneeded s.len s.inside s.aside

  -- a rebuild into a scratch place, before a program that finds the content there
  pub remat-into : (prog : List Edit) (needs : Needs) (sc : Place) → Scratch sc needs → T (can t F tk v sc) → Sound t F tk j prog w (Stands t F tk j needs w sc v)
      → Sound t F tk j (Rematerialize sc v ∷ prog) w (Ok t F tk j needs w)
  remat-into prog needs sc s c snd =
      hidden t F tk j needs w sc v (Rematerialize sc v) prog (Ok t F tk j needs w) snd
      (λ m l ok. (ok, remat-gives t F tk j sc v m l c)) s.unneeded s.len s.inside s.aside
