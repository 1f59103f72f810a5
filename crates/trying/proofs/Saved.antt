-- `AsManySaves`: every list of a run has as many S as L.
use Prim.Native.Nat.{ℕ, zero, suc, ◌+◌}
use native.Mathlib.Omega.{arith}
use mathlib.Core.Path.{◌≡◌, refl, sym, ◌∙◌}
use mathlib.Core.Bool.{Bool, true, false}
use mathlib.Core.List.{List, [], ◌∷◌, ◌++◌}
use lib.Dec.{eqb}
use lib.ListN.{length}
use Rattle.entity.specs.Logic.{pick}
use Rattle.reginfo.specs.RegInfo.{RegInfo}
use Rattle.function.specs.Function.{Function, num_values}
use Rattle.rules.specs.Edit.{Edit, Move, Rematerialize, EmergencySpill, EmergencyReload, filter}
use Rattle.rules.specs.Scratch.{Cache, empty_cache}
use Rattle.rules.specs.Patch.{Patch, Answer, refused, resolved, resolve}
use Rattle.rules.specs.Evictions.{is_save, is_reload, saves, reloads}
use Rattle.consequences.proofs.Evicted.{as_many}
use Rattle.trying.specs.Drawing.{Drawn, draw_patch, patch_of}
use Rattle.trying.specs.Tried.{Tries, no_tries, tries, drawings, judged, with_kept}
use Rattle.trying.specs.Report.{edits_in, of_kind}
use Rattle.trying.specs.Claims.{AsManySaves}

-- kind 3 is S, kind 4 L
kind-saves : (es : List Edit) → of_kind 3 es ≡ saves es
unfolding filter
kind-saves [] = refl
kind-saves (Move to from v ∷ es) = kind-saves es
kind-saves (Rematerialize to v ∷ es) = kind-saves es
kind-saves (EmergencySpill s r ∷ es) = omega (arith, kind-saves es)
kind-saves (EmergencyReload r s ∷ es) = kind-saves es

kind-reloads : (es : List Edit) → of_kind 4 es ≡ reloads es
unfolding filter
kind-reloads [] = refl
kind-reloads (Move to from v ∷ es) = kind-reloads es
kind-reloads (Rematerialize to v ∷ es) = kind-reloads es
kind-reloads (EmergencySpill s r ∷ es) = kind-reloads es
kind-reloads (EmergencyReload r s ∷ es) = omega (arith, kind-reloads es)

count-both : (p : Edit → Bool) (es fs : List Edit) → length (filter p (es ++ fs)) ≡ length (filter p es) + length (filter p fs)
unfolding filter
count-both p [] fs = omega arith
count-both p (e ∷ es) fs = go (p e) (count-both p es fs)
  where
    go : (b : Bool) → length (filter p (es ++ fs)) ≡ length (filter p es) + length (filter p fs)
        → length (pick b (e ∷ filter p (es ++ fs)) (filter p (es ++ fs))) ≡ length (pick b (e ∷ filter p es) (filter p es)) + length (filter p fs)
    go true h = omega arith
    go false h = h

-- of one answer, and of all
abbrev Even : Answer → Type 0
Even (refused n) = Unit {0}
Even (resolved es c m) = saves es ≡ reloads es

abbrev AllEven : List Answer → Type 0
AllEven [] = Unit {0}
AllEven (a ∷ l) = Even a × AllEven l

all-edits : (l : List Answer) → AllEven l → saves (edits_in l) ≡ reloads (edits_in l)
unfolding edits_in filter
all-edits [] h = refl
all-edits (refused n ∷ l) h = all-edits l h.1
all-edits (resolved es c m ∷ l) h = omega (arith, h.0, all-edits l h.1, count-both is_save es (edits_in l), count-both is_reload es (edits_in l))

append-even : (l m : List Answer) → AllEven l → AllEven m → AllEven (l ++ m)
append-even [] m h g = g
append-even (a ∷ l) m h g = (h.0, append-even l m h.1 g)

module _ (t : RegInfo) (f : Function) where
  resolve-even : (p : Patch) (room : ℕ) (c : Cache) (r : Answer) → resolve t f p room c ≡ r → Even r
  resolve-even p room c (refused n) e = tt
  resolve-even p room c (resolved es c' n) e = as_many t f p room c c' es n e

  judged-even : (a : Answer) (d : Drawn) (c : Cache) (rest : ℕ → Cache → Tries) → Even a → ((s : ℕ) (c' : Cache) → AllEven (rest s c').answers) → AllEven (judged a d c rest).answers
  judged-even (refused n) d c rest h g = (h, g d.seed c)
  judged-even (resolved es c' m) d c rest h g = (h, tt)

  tries-even : (n s : ℕ) (c : Cache) → AllEven (tries t f n s c).answers
  unfolding tries
  tries-even zero s c = tt
  tries-even (suc n) s c =
      let p = patch_of (draw_patch t f s) in
      judged-even (resolve t f p 1024 c) (draw_patch t f s) c (tries t f n) (resolve-even p 1024 c (resolve t f p 1024 c) refl) (tries-even n)

  drawings-even : (m s : ℕ) (c : Cache) → AllEven (drawings t f m s c).answers
  unfolding drawings
  drawings-even zero s c = tt
  drawings-even (suc m) s c = append-even (tries t f 9 s c).answers _ (tries-even 9 s c) (drawings-even m (tries t f 9 s c).seed (tries t f 9 s c).cache)

pub as-many-saves : AsManySaves
as-many-saves t f kept count seed = go (eqb (num_values f) 0)
  where
    by_kind : (l : List Answer) → AllEven l → of_kind 3 (edits_in l) ≡ of_kind 4 (edits_in l)
    by_kind l h = kind-saves (edits_in l) ∙ all-edits l h ∙ sym (kind-reloads (edits_in l))

    go : (b : Bool) → of_kind 3 (edits_in (pick b (no_tries seed empty_cache) (drawings t (with_kept kept f) count seed empty_cache)).answers)
        ≡ of_kind 4 (edits_in (pick b (no_tries seed empty_cache) (drawings t (with_kept kept f) count seed empty_cache)).answers)
    go true = by_kind [] tt
    go false = by_kind _ (drawings-even t (with_kept kept f) count seed empty_cache)
