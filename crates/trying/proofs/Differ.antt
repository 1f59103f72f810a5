-- `DrawsDiffer`: every draw of a run is the next one from its seed.
use Prim.Native.Nat.{ℕ, zero, suc, ◌+◌, ◌*◌, ◌%◌, ◌^◌, ◌<◌, ◌≤◌}
use native.Mathlib.Omega.{arith}
use native.Mathlib.Nat.{mod-lt}
use mathlib.Core.Path.{◌≡◌, refl, sym, ap, ◌∙◌}
use mathlib.Core.Bool.{Bool, true, false}
use mathlib.Core.List.{List, [], ◌∷◌, ◌++◌}
use borrow.Author.Tests.{ne_eqb}
use lib.Dec.{eqb}
use Rattle.entity.specs.Logic.{pick, has, twice}
use Rattle.reginfo.specs.RegInfo.{RegInfo}
use Rattle.function.specs.Function.{Function, num_values}
use Rattle.rules.specs.Scratch.{Cache, empty_cache}
use Rattle.rules.specs.Patch.{Answer, refused, resolved, resolve}
use Rattle.draws.specs.Draws.{next, after}
use Rattle.draws.proofs.Laws.{no-draw-repeats}
use Rattle.trying.specs.Drawing.{Drawn, draw_moves, draw_patch, patch_of}
use Rattle.trying.specs.Tried.{Tries, no_tries, judged, tries, drawings, with_kept}
use Rattle.trying.specs.Claims.{first_draws, Differ, DrawsDiffer}

after_next : (s k : ℕ) → after s (suc k) ≡ after (next s) k
unfolding after
after_next s zero = refl
after_next s (suc k) = ap next (after_next s k)

after-after : (s i j : ℕ) → after (after s i) j ≡ after s (i + j)
unfolding after
after-after s i zero = let e : i ≡ i + 0 = omega arith in ap (after s) e
after-after s i (suc j) = ap next (after-after s i j) ∙ (let e : suc (i + j) ≡ i + suc j = omega arith in ap (after s) e)

-- the draws from s are so many, one after the other, and lead to the seed left
record Follows (draws : List ℕ) (s left most : ℕ) : Type 0 where
  many : ℕ
  few : many ≤ most
  are : draws ≡ first_draws s many
  left_is : left ≡ after s many

nothing-drawn : (s : ℕ) → Follows [] s s 0
unfolding first_draws after
nothing-drawn s = record { many = 0; few = omega arith; are = refl; left_is = refl }

one-drawn : (draws : List ℕ) (s left most : ℕ) → Follows draws (next s) left most → Follows (next s ∷ draws) s left (suc most)
unfolding first_draws
one-drawn draws s left most h =
    record { many = suc h.many; few = omega (arith, h.few); are = ap (λ (l : List ℕ). next s ∷ l) h.are; left_is = h.left_is ∙ sym (after_next s h.many) }

first-append : (s m n : ℕ) → first_draws s m ++ first_draws (after s m) n ≡ first_draws s (m + n)
unfolding first_draws after
first-append s zero n = let e : n ≡ 0 + n = omega arith in ap (first_draws s) e
first-append s (suc m) n =
    ap (λ (l : List ℕ). next s ∷ l) (ap (λ (x : ℕ). first_draws (next s) m ++ first_draws x n) (after_next s m) ∙ first-append (next s) m n)
    ∙ (let e : suc (m + n) ≡ suc m + n = omega arith in ap (first_draws s) e)

both-drawn : (l m : List ℕ) (s x y a b : ℕ) → Follows l s x a → Follows m x y b → Follows (l ++ m) s y (a + b)
both-drawn l m s x y a b h g =
    record {
      many = h.many + g.many;
      few = omega (arith, h.few, g.few);
      are =
          ap (λ (z : List ℕ). z ++ m) h.are
          ∙ ap (λ (z : List ℕ). first_draws s h.many ++ z) (g.are ∙ ap (λ (z : ℕ). first_draws z g.many) h.left_is)
          ∙ first-append s h.many g.many;
      left_is = g.left_is ∙ ap (λ (z : ℕ). after z g.many) h.left_is ∙ after-after s h.many g.many;
    }

more : {l : List ℕ} {s x : ℕ} (a b : ℕ) → a ≤ b → Follows l s x a → Follows l s x b
more a b q h = record { many = h.many; few = omega (arith, h.few); are = h.are; left_is = h.left_is }

module _ (t : RegInfo) (f : Function) where
  moves-follow : (n s : ℕ) → Follows (draw_moves t f n s).draws s (draw_moves t f n s).seed (3 * n)
  unfolding draw_moves
  moves-follow zero s = nothing-drawn s
  moves-follow (suc n) s =
      more (suc (suc (suc (3 * n)))) (3 * suc n) (omega arith)
      (one-drawn _ s _ _ (one-drawn _ (next s) _ _ (one-drawn _ (next (next s)) _ _ (moves-follow n (next (next (next s)))))))

  patch-follows : (s : ℕ) → Follows (draw_patch t f s).draws s (draw_patch t f s).seed 49
  unfolding draw_patch
  patch-follows s =
      let n = next s % 16 in
      let g : n < 16 = mod-lt (next s) (omega arith) in
      more (suc (3 * (1 + n))) 49 (omega arith) (one-drawn _ s _ _ (moves-follow (1 + n) (next s)))

  judged-follows : (a : Answer) (d : Drawn) (c : Cache) (rest : ℕ → Cache → Tries) (s n : ℕ) → Follows d.draws s d.seed 49
      → ((x : ℕ) (c' : Cache) → Follows (rest x c').draws x (rest x c').seed (n * 49)) → Follows (judged a d c rest).draws s (judged a d c rest).seed (suc n * 49)
  judged-follows (refused j) d c rest s n h g = more (49 + n * 49) (suc n * 49) (omega arith) (both-drawn d.draws _ s d.seed _ 49 (n * 49) h (g d.seed c))
  judged-follows (resolved es c' m) d c rest s n h g = more 49 (suc n * 49) (omega arith) h

  tries-follow : (n s : ℕ) (c : Cache) → Follows (tries t f n s c).draws s (tries t f n s c).seed (n * 49)
  unfolding tries
  tries-follow zero s c = nothing-drawn s
  tries-follow (suc n) s c = judged-follows (resolve t f (patch_of (draw_patch t f s)) 1024 c) (draw_patch t f s) c (tries t f n) s n (patch-follows s) (tries-follow n)

  drawings-follow : (m s : ℕ) (c : Cache) → Follows (drawings t f m s c).draws s (drawings t f m s c).seed (m * 9 * 49)
  unfolding drawings
  drawings-follow zero s c = nothing-drawn s
  drawings-follow (suc m) s c =
      let r = tries t f 9 s c in
      more (9 * 49 + m * 9 * 49) (suc m * 9 * 49) (omega arith)
      (both-drawn r.draws _ s r.seed _ (9 * 49) (m * 9 * 49) (tries-follow 9 s c) (drawings-follow m r.seed r.cache))

-- a draw is none of those that follow it
none-again : (s : ℕ) → s < 2 ^ 32 → (i k n : ℕ) → i ≤ k → k + n < 2 ^ 32 → has (after s i) (first_draws (after s k) n) ≡ false
unfolding has first_draws after
none-again s h i k zero p q = refl
none-again s h i k (suc n) p q =
    rw (ne_eqb (after s i) (after s (suc k)) (no-draw-repeats s i (suc k) h (omega arith) (omega arith)), none-again s h i (suc k) n (omega arith) (omega arith))

never-twice : (s : ℕ) → s < 2 ^ 32 → (k n : ℕ) → k + n < 2 ^ 32 → twice (first_draws (after s k) n) ≡ false
unfolding twice first_draws after
never-twice s h k zero q = refl
never-twice s h k (suc n) q = rw (none-again s h (suc k) (suc k) n (omega arith) (omega arith), never-twice s h (suc k) n (omega arith))

differs : (seed : ℕ) → seed < 2 ^ 32 → (r : Tries) → Follows r.draws seed r.seed (1024 * 9 * 49) → Differ r seed
unfolding after
differs seed g r w = record { many = w.many; few = w.few; are = w.are; once = ap twice w.are ∙ never-twice seed g 0 w.many (omega (arith, w.few)) }

pub draws-differ : DrawsDiffer
draws-differ t f kept count seed h g = go (eqb (num_values f) 0)
  where
    go : (b : Bool) → Differ (pick b (no_tries seed empty_cache) (drawings t (with_kept kept f) count seed empty_cache)) seed
    go true = differs seed g (no_tries seed empty_cache) (more 0 (1024 * 9 * 49) (omega arith) (nothing-drawn seed))
    go false = differs seed g _ (more (count * 9 * 49) (1024 * 9 * 49) (omega arith) (drawings-follow t (with_kept kept f) count seed empty_cache))
