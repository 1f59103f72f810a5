-- Writers noted unit by unit, while none has one.
use Prim.Native.Nat.{ℕ, ◌+◌, ◌<◌, ◌≤◌}
use mathlib.Core.Path.{◌≡◌, refl, sym, ap, ◌∙◌}
use mathlib.Core.Bool.{true, false, true≢false}
use mathlib.Core.List.{List, [], ◌∷◌}
use mathlib.Core.Option.{Option}
use native.Mathlib.Omega.{arith}
use lib.ListN.{get_or, length, drop, length-append, drop_of_length-le}
use Rattle.entity.specs.Logic.{any_in, twice}
use Rattle.sparse.specs.Map.{map_of, keys_of, known, Linked, Begins, Inserted, Same, Shortened}
use Rattle.sparse.proofs.Laws.{length-keys, begins-all, begins-on}
use Rattle.entries.specs.Known.{is_written, noted, Noted}
use Rattle.entries.specs.Answers.{NotedNew}
use Rattle.entries.proofs.Lists.{any_step}
use Rattle.entries.proofs.Writers.{noted_step, new-step}

-- before unit j: of those so far none had a writer, and x is noted of each
pub record Noting (us w₀ : List ℕ) (x : ℕ) (w : List ℕ) (j : ℕ) : Type 0 where
  pub within : j ≤ length us
  pub rest : any_in (is_written w₀) us ≡ any_in (is_written w) (drop j us)
  pub map : noted (map_of w₀) us x ≡ noted (map_of w) (drop j us) x
  pub few : length (keys_of w) ≤ length (keys_of w₀) + j
  pub linked : Linked w
  pub begins : Begins w₀ w

pub noting-start : (us w : List ℕ) (x : ℕ) → Linked w → Noting us w x w 0
noting-start us w x l = record { within = omega arith; rest = refl; map = refl; few = omega arith; linked = l; begins = begins-all w }

module _ (us w₀ : List ℕ) (x : ℕ) (w : List ℕ) (j : ℕ) (i : Noting us w₀ x w j) where
  pub noting-next : (w' : List ℕ) (u : ℕ) → u ≡ get_or us j 0 → twice us ≡ false → j < length us → is_written w u ≡ false → Inserted w w' u x → Noting us w₀ x w' (j + 1)
  noting-next w' u e once h o n =
      let map : map_of w' ≡ _ = rw e at n.map in
      record {
        within = omega arith;
        rest = i.rest ∙ new-step (map_of w) us x j once h (rw e at o) ∙ ap (λ (g : ℕ → Option ℕ). any_in (λ v. known (g v)) (drop (j + 1) us)) (sym map);
        map = i.map ∙ noted_step (map_of w) us x j h ∙ ap (λ (g : ℕ → Option ℕ). noted g (drop (j + 1) us) x) (sym map);
        few = omega (arith, i.few, ap length n.keys, length-append (keys_of w) (u ∷ []));
        linked = n.linked;
        begins = begins-on w₀ w w' i.begins n.begins;
      }

  -- a unit has a writer
  pub noting-hit : (w' : List ℕ) (u : ℕ) → u ≡ get_or us j 0 → j < length us → is_written w u ≡ true → Same w₀ w' → NotedNew w₀ w' us x false
  noting-hit w' u e h o s =
      let hit : is_written w (get_or us j 0) ≡ true = rw e at o in
      let some : any_in (is_written w₀) us ≡ true = i.rest ∙ any_step (is_written w) us j 0 h ∙ rw hit in
      record { is = rw some; yes = λ q. absurd (true≢false (sym q)); no = λ _. s }

  pub noting-end : length us ≤ j → NotedNew w₀ w us x true
  unfolding any_in noted
  noting-end h =
      let end : drop j us ≡ [] = drop_of_length-le us {i = j} h in
      let none : any_in (is_written w₀) us ≡ false = i.rest ∙ ap (any_in (is_written w)) end in
      record {
        is = rw none;
        yes = λ _. record { map = sym (i.map ∙ ap (λ (l : List ℕ). noted (map_of w) l x) end); few = omega (arith, i.few, i.within); linked = i.linked; begins = i.begins };
        no = λ q. absurd (true≢false q);
      }

-- what was noted is undone
module _ (w w' us : List ℕ) (x n : ℕ) (d : Noted w w' us x) (e : n ≡ length (keys_of w)) where
  pub noted-count : n ≤ length (keys_of w')
  noted-count = omega (arith, e, length-keys w, length-keys w', d.begins.count)

  pub noted-undone : (w'' : List ℕ) → Shortened w' w'' n → Same w w''
  noted-undone w'' s = s w (sym (e ∙ length-keys w)) d.begins
