-- A formula's cache beside one that the formula would have alone, with its slots renamed.
use Prim.Native.Nat.{ℕ, ◌+◌, ◌-◌, ◌<◌, ◌≤◌}
use mathlib.Core.Path.{◌≡◌, refl, sym, ap, ◌∙◌, fun_ext}
use mathlib.Core.Bool.{true, or-true}
use mathlib.Core.List.{List, [], ◌∷◌, map}
use mathlib.Core.Option.{Option}
use mathlib.Core.Logic.{⊎_elim}
use native.Mathlib.Omega.{arith}
use lib.Dec.{eqb, ltb}
use borrow.Author.Tests.{eq-eqb, lt-ltb, le-ltb}
use Rattle.entity.specs.Logic.{pick, has}
use Rattle.reginfo.specs.RegInfo.{RegInfo}
use Rattle.reginfo.specs.Refused as target
use Rattle.function.specs.Function.{Function}
use Rattle.rules.specs.Scratch.{Cache}
use Rattle.rules.specs.Patch.{Patch, resolve}
use Rattle.rules.specs.Refusals.{with_limit}
use Rattle.rules.specs.Take.{Counted}
use Rattle.machine.proofs.SlotCounts.{less?}
use Rattle.frame_rules.specs.Frame.{Asked, Formula, Frame, reach, cache_in, resolve_in, with_cache}
use Rattle.frame_rules.specs.Renamed.{Renaming}
use Rattle.frame_rules.proofs.Calls.{reach_far, at_own, at_other}
use Rattle.frame_rules.proofs.Lifted.{ren_cache, ren_answer, resolve-like}

-- ---- a renaming with numbers for the slots to come
module _ (n m d : ℕ) (ρ : ℕ → ℕ) where
  unfoldable pub ext : ℕ → ℕ
  ext y = pick (ltb y (n + m)) (ρ y) (y + d)

  pub ext-old : (y : ℕ) → y < n + m → ext y ≡ ρ y
  unfolding ext
  ext-old y h = rw (lt-ltb y (n + m) h) refl

  pub ext-new : (y : ℕ) → n + m ≤ y → ext y ≡ y + d
  unfolding ext
  ext-new y h = rw (le-ltb y (n + m) h) refl

  pub ext-later : (k : ℕ) → m ≤ k → ext (n + k) ≡ n + (k + d)
  ext-later k h = omega (arith, ext-new (n + k) (omega arith))

  module _ (r : Renaming n ρ) (b : (y : ℕ) → y < n + m → ρ y < n + (m + d)) where
    pub ext-renaming : Renaming n ext
    ext-renaming =
        record {
          stays = λ y h. ext-old y (omega arith) ∙ r.stays y h;
          rises = λ y x h.
              ⊎_elim
              (λ p. ⊎_elim (λ q. omega (arith, ext-old y p, ext-old x q, r.rises y x h)) (λ q. omega (arith, ext-old y p, ext-new x q, b y p)) (less? x (n + m)))
              (λ p. omega (arith, ext-new y p, ext-new x (omega arith), h)) (less? y (n + m));
        }

    pub ext-bounded : (k : ℕ) → m ≤ k → (y : ℕ) → y < n + k → ext y < n + (k + d)
    ext-bounded k h y l = ⊎_elim (λ p. omega (arith, ext-old y p, b y p, h)) (λ p. omega (arith, ext-new y p, l)) (less? y (n + m))

-- two renamings that agree on what is listed
pub map_same : (ρ σ : ℕ → ℕ) (l : List ℕ) → ((x : ℕ) → has x l ≡ true → ρ x ≡ σ x) → map ρ l ≡ map σ l
unfolding has
map_same ρ σ [] h = refl
map_same ρ σ (x ∷ l) h =
    let e : ρ x ≡ σ x = h x (rw (eq-eqb x x refl) refl) in
    let r : map ρ l ≡ map σ l = map_same ρ σ l (λ y k. h y (rw k (or-true (eqb y x)))) in
    rw (e, r) refl

same-cache : (st st' : ℕ → List ℕ) (m m' : ℕ) → st ≡ st' → m ≡ m' → ◌≡◌ {A = Cache} (record { stacks = st; made = m }) (record { stacks = st'; made = m' })
same-cache st st' m m' e h = rw (e, h) refl

module _ (t : RegInfo) (f : Function) where
  pub record Beside (s : Frame) (i : ℕ) (c : Cache) (ρ : ℕ → ℕ) : Type 0 where
    pub target_is : (s.formulas i).target ≡ t
    pub function-is : (s.formulas i).function ≡ f
    pub made-is : (s.formulas i).made ≡ c.made
    pub stacks-are : (s.formulas i).stacks ≡ (λ z. map ρ (c.stacks z))
    pub few : c.made ≤ s.counter
    pub renaming : Renaming f.slots ρ
    pub bounded : (y : ℕ) → y < f.slots + c.made → ρ y < f.slots + s.counter

  -- nothing else than slots made
  abbrev pub Low : Cache → Type 0
  Low c = (x z : ℕ) → has x (c.stacks z) ≡ true → x < f.slots + c.made

  -- by how much the counter is ahead
  abbrev pub ahead : Frame → Cache → ℕ
  ahead s c = s.counter - c.made

  -- the renaming of a call
  abbrev pub now : Frame → Cache → (ℕ → ℕ) → ℕ → ℕ
  now s c ρ = ext f.slots c.made (ahead s c) ρ

  module _ (s : Frame) (i : ℕ) (c : Cache) (ρ : ℕ → ℕ) (b : Beside s i c ρ) (low : Low c) where
    bounded-now : (y : ℕ) → y < f.slots + c.made → ρ y < f.slots + (c.made + ahead s c)
    bounded-now y h = omega (arith, b.bounded y h, b.few)

    pub now-renaming : Renaming f.slots (now s c ρ)
    now-renaming = ext-renaming f.slots c.made (ahead s c) ρ b.renaming bounded-now

    pub stacks-now : (s.formulas i).stacks ≡ (λ z. map (now s c ρ) (c.stacks z))
    stacks-now = b.stacks-are ∙ fun_ext (λ z. map_same ρ (now s c ρ) (c.stacks z) (λ x h. sym (ext-old f.slots c.made (ahead s c) ρ x (low x z h))))

    pub cache-now : cache_in s i ≡ ren_cache (now s c ρ) (ahead s c) c
    cache-now = same-cache _ _ s.counter (c.made + ahead s c) stacks-now (omega (arith, b.few))

    -- a call is answered as alone, renamed, with as many slots to make
    pub answers-beside : target.Accepted t → (p : Patch) (room : ℕ)
        → resolve_in s i p room ≡ ren_answer (now s c ρ) (ahead s c) (resolve t (with_limit t f (reach s i - ahead s c)) p room c)
    unfolding resolve_in
    answers-beside at p room =
        let r : reach s i ≡ reach s i - ahead s c + ahead s c = omega (arith, reach_far s i, b.few) in
        ap (λ (k : ℕ). resolve (s.formulas i).target (with_limit (s.formulas i).target (s.formulas i).function k) p room (cache_in s i)) r
        ∙ at_base (reach s i - ahead s c + ahead s c)
        ∙ resolve-like t f at (now s c ρ) (ahead s c) (reach s i - ahead s c) c now-renaming.stays (ext-later f.slots c.made (ahead s c) ρ) p room
      where
        at_base : (k : ℕ) → resolve (s.formulas i).target (with_limit (s.formulas i).target (s.formulas i).function k) p room (cache_in s i) ≡ resolve t (with_limit t f k) p room (ren_cache (now s c ρ) (ahead s c) c)
        at_base k = rw (b.target_is, b.function-is) (ap (resolve t (with_limit t f k) p room) cache-now)

    -- a call of its own
    pub own-beside : (v : Counted) (l : List (Option Asked)) (c' : Cache) → v.cache.stacks ≡ (λ z. map (now s c ρ) (c'.stacks z)) → v.cache.made ≡ c'.made + ahead s c → c.made ≤ c'.made
        → Beside (with_cache s i v l) i c' (now s c ρ)
    own-beside v l c' st e up =
        let o = at_own s i v l in
        record {
          target_is = ap (λ (y : Formula). y.target) o ∙ b.target_is;
          function-is = ap (λ (y : Formula). y.function) o ∙ b.function-is;
          made-is = omega (arith, ap (λ (y : Formula). y.made) o, b.made-is, e, up, b.few);
          stacks-are = ap (λ (y : Formula). y.stacks) o ∙ st;
          few = omega (arith, e);
          renaming = now-renaming;
          bounded = λ y h. omega (arith, ext-bounded f.slots c.made (ahead s c) ρ b.renaming bounded-now c'.made up y h, e);
        }

  -- a call of another
  pub other-beside : (s : Frame) (i : ℕ) (c : Cache) (ρ : ℕ → ℕ) → Beside s i c ρ → (j : ℕ) (v : Counted) (l : List (Option Asked)) → (i ≡ j → ⊥) → s.counter ≤ v.cache.made → Beside (with_cache s j v l) i c ρ
  other-beside s i c ρ b j v l d up =
      let o = at_other s j v l i d in
      record {
        target_is = ap (λ (y : Formula). y.target) o ∙ b.target_is;
        function-is = ap (λ (y : Formula). y.function) o ∙ b.function-is;
        made-is = ap (λ (y : Formula). y.made) o ∙ b.made-is;
        stacks-are = ap (λ (y : Formula). y.stacks) o ∙ b.stacks-are;
        few = omega (arith, b.few, up);
        renaming = b.renaming;
        bounded = λ y h. omega (arith, b.bounded y h, up);
      }
