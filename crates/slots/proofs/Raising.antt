-- The stamp of a cache, raised cell by cell.
use Prim.Native.Nat.{ℕ, ◌+◌, ◌*◌, ◌<◌, ◌≤◌}
use mathlib.Core.Path.{◌≡◌, refl, ap, ◌∙◌, fun_ext}
use mathlib.Core.Bool.{Bool, true, false}
use mathlib.Core.List.{List, []}
use native.Mathlib.Omega.{arith}
use native.Mathlib.Nat.{mod-eq_of_lt}
use lib.ListN.{set, get_or, length, length-set}
use lib.Seq.{get_or-set_same, get_or-set_other}
use lib.Dec.{ltb}
use borrow.Author.Tests.{ltb-true}
use Rattle.entity.specs.Logic.{pick}
use Rattle.slots.specs.Stacks.{top_first, depth_of, cache_of, stamp_of, raised, CacheFits}
use Rattle.slots.specs.Steps.{Raised}
use Rattle.slots.proofs.Laws.{top-same, stamp-set}

raised_below : (n : ℕ) → n + 1 < 18446744073709551616 → raised n ≡ n + 1
unfolding raised
raised_below n h = mod-eq_of_lt h

raised-last : (n : ℕ) → n ≡ 18446744073709551615 → raised n ≡ 0
unfolding raised
raised-last n e = rw e

-- tables whose cells differ in the stamp alone, and in how many slots are made
module _ (cache exit : List ℕ) (rest : (i : ℕ) → (32 ≤ i → i ≤ 36 → ⊥) → get_or exit i 0 ≡ get_or cache i 0) where
  stamp-fits : CacheFits cache → CacheFits exit
  stamp-fits f = record { deep = λ y l. rw (rest y (λ a b. omega arith)) (f.deep y l) }

  stamp-stacks : cache_of exit ≡ record { stacks = (cache_of cache).stacks; made = get_or exit 32 0 }
  unfolding cache_of
  stamp-stacks = ap (λ (f : ℕ → List ℕ). record { stacks = f; made = get_or exit 32 0 }) (fun_ext (λ y. go y (ltb y 32) refl))
    where
      go : (y : ℕ) (b : Bool) → ltb y 32 ≡ b → pick b (top_first exit (64 + y * 2048) (depth_of exit y)) [] ≡ pick b (top_first cache (64 + y * 2048) (depth_of cache y)) []
      go y true e =
          let h : y < 32 = ltb-true y 32 e in
          rw (rest y (λ a b. omega arith)) (top-same exit cache (64 + y * 2048) (depth_of cache y) (λ j l. rest (64 + y * 2048 + j) (λ a b. omega arith)))
      go y false e = refl

  pub raised-to : (made : ℕ) → get_or exit 32 0 ≡ made → stamp_of exit ≡ raised (stamp_of cache) → Raised cache exit made
  raised-to made m s = record { is = rw (← m) stamp-stacks; fits = stamp-fits; stamp = s }

-- where n is the stamp
module _ (cache : List ℕ) (n : ℕ) (long : length cache ≡ 65600) (is : n ≡ stamp_of cache) (below : n < 18446744073709551616) where
  -- the first cell
  pub first-raised : (made x : ℕ) → x ≡ get_or (set cache 32 made) 33 0 → x < 65535 → Raised cache (set (set cache 32 made) 33 (x + 1)) made
  unfolding stamp_of
  first-raised made x p h =
      let q : get_or cache 33 0 ≡ x = omega (arith, get_or-set_other cache 32 33 made 0 (λ e. omega arith)) in
      raised-to cache exit (λ i k. get_or-set_other u 33 i v 0 (λ e. k (omega arith) (omega arith)) ∙ get_or-set_other cache 32 i made 0 (λ e. k (omega arith) (omega arith))) made
      (get_or-set_other u 33 32 v 0 (λ e. omega arith) ∙ get_or-set_same cache 32 made 0 (omega arith))
      (rw (get_or-set_same u 33 v 0 (omega (arith, length-set cache 32 made)), other 34 (omega arith), other 35 (omega arith), other 36 (omega arith))
      (omega (arith, raised_below (stamp_of cache) (omega arith))))
    where
      v : ℕ
      v = x + 1

      u : List ℕ
      u = set cache 32 made

      exit : List ℕ
      exit = set u 33 v

      other : (i : ℕ) → 33 < i → get_or exit i 0 ≡ get_or cache i 0
      other i l = get_or-set_other u 33 i v 0 (λ e. omega arith) ∙ get_or-set_other cache 32 i made 0 (λ e. omega arith)

  -- the cells behind it, where it has come to its end
  module _ (first : get_or cache 33 0 ≡ 65535) where
    high : get_or cache 35 0 + 65536 * get_or cache 36 0 < 4294967296
    unfolding stamp_of
    high = let k : 4294967296 * get_or cache 35 0 + 281474976710656 * get_or cache 36 0 < 18446744073709551616 = omega arith in omega arith

    top : get_or cache 36 0 < 65536
    unfolding stamp_of
    top = let k : 281474976710656 * get_or cache 36 0 < 18446744073709551616 = omega arith in omega arith

    abbrev made : ℕ
    made = get_or cache 32 0

    abbrev u : List ℕ
    u = set cache 33 0

    abbrev v : List ℕ
    v = set u 34 0

    abbrev w : List ℕ
    w = set v 35 0

    u-first : get_or u 33 0 ≡ 0
    u-first = get_or-set_same cache 33 0 0 (omega arith)

    u-rest : (i : ℕ) → (i ≡ 33 → ⊥) → get_or u i 0 ≡ get_or cache i 0
    u-rest i k = get_or-set_other cache 33 i 0 0 k

    v-second : get_or v 34 0 ≡ 0
    v-second = get_or-set_same u 34 0 0 (omega (arith, length-set cache 33 0))

    v-rest : (i : ℕ) → (i ≡ 34 → ⊥) → get_or v i 0 ≡ get_or u i 0
    v-rest i k = get_or-set_other u 34 i 0 0 k

    w-third : get_or w 35 0 ≡ 0
    w-third = get_or-set_same v 35 0 0 (omega (arith, length-set cache 33 0, length-set u 34 0))

    w-rest : (i : ℕ) → (i ≡ 35 → ⊥) → get_or w i 0 ≡ get_or v i 0
    w-rest i k = get_or-set_other v 35 i 0 0 k

    w-long : length w ≡ 65600
    w-long = omega (arith, length-set cache 33 0, length-set u 34 0, length-set v 35 0)

    pub second-raised : (x : ℕ) → x ≡ get_or u 34 0 → x < 65535 → Raised cache (set u 34 (x + 1)) made
    unfolding stamp_of
    second-raised x e h =
        let o : (i : ℕ) → (i ≡ 34 → ⊥) → get_or (set u 34 (x + 1)) i 0 ≡ get_or u i 0 = λ i k. get_or-set_other u 34 i (x + 1) 0 k in
        raised-to cache (set u 34 (x + 1)) (λ i k. o i (λ e. k (omega arith) (omega arith)) ∙ u-rest i (λ e. k (omega arith) (omega arith))) made
        (o 32 (λ e. omega arith) ∙ u-rest 32 (λ e. omega arith))
        (rw (get_or-set_same u 34 (x + 1) 0 (omega (arith, length-set cache 33 0)), o 33 (λ e. omega arith), o 35 (λ e. omega arith), o 36 (λ e. omega arith), u-first, u-rest 35 (λ e. omega arith), u-rest 36 (λ e. omega arith))
        (omega (arith, u-rest 34 (λ e. omega arith), raised_below (stamp_of cache) (omega (arith, high, u-rest 34 (λ e. omega arith))))))

    module _ (x : ℕ) (second : x ≡ get_or u 34 0) (full : 65535 ≤ x) (wide : x < 65536) where
      pub third-raised : (y : ℕ) → y ≡ get_or v 35 0 → y < 65535 → Raised cache (set v 35 (y + 1)) made
      unfolding stamp_of
      third-raised y e h =
          let o : (i : ℕ) → (i ≡ 35 → ⊥) → get_or (set v 35 (y + 1)) i 0 ≡ get_or v i 0 = λ i k. get_or-set_other v 35 i (y + 1) 0 k in
          let p : get_or cache 34 0 ≡ 65535 = omega (arith, u-rest 34 (λ e. omega arith)) in
          let q : get_or cache 35 0 ≡ y = omega (arith, u-rest 35 (λ e. omega arith), v-rest 35 (λ e. omega arith)) in
          raised-to cache (set v 35 (y + 1)) (λ i k. o i (λ e. k (omega arith) (omega arith)) ∙ v-rest i (λ e. k (omega arith) (omega arith)) ∙ u-rest i (λ e. k (omega arith) (omega arith))) made
          (o 32 (λ e. omega arith) ∙ v-rest 32 (λ e. omega arith) ∙ u-rest 32 (λ e. omega arith))
          (rw (get_or-set_same v 35 (y + 1) 0 (omega (arith, length-set cache 33 0, length-set u 34 0)), o 33 (λ e. omega arith), o 34 (λ e. omega arith), o 36 (λ e. omega arith), v-second, v-rest 33 (λ e. omega arith), v-rest 36 (λ e. omega arith), u-first, u-rest 36 (λ e. omega arith))
          (omega (arith, raised_below (stamp_of cache) (omega (arith, top)))))

      module _ (y : ℕ) (third : y ≡ get_or v 35 0) (most : 65535 ≤ y) (fits : y < 65536) where
        fourth-to : (z : ℕ) → stamp_of (set w 36 z) ≡ 281474976710656 * z
        unfolding stamp_of
        fourth-to z =
            let o : (i : ℕ) → (i ≡ 36 → ⊥) → get_or (set w 36 z) i 0 ≡ get_or w i 0 = λ i k. get_or-set_other w 36 i z 0 k in
            rw (get_or-set_same w 36 z 0 (omega (arith, w-long)), o 33 (λ e. omega arith), o 34 (λ e. omega arith), o 35 (λ e. omega arith), w-third, w-rest 33 (λ e. omega arith), w-rest 34 (λ e. omega arith), v-second, v-rest 33 (λ e. omega arith), u-first)
            (omega arith)

        fourth-by : (z : ℕ) → stamp_of (set w 36 z) ≡ raised (stamp_of cache) → Raised cache (set w 36 z) made
        fourth-by z s =
            let o : (i : ℕ) → (i ≡ 36 → ⊥) → get_or (set w 36 z) i 0 ≡ get_or w i 0 = λ i k. get_or-set_other w 36 i z 0 k in
            raised-to cache (set w 36 z)
            (λ i k. o i (λ e. k (omega arith) (omega arith)) ∙ w-rest i (λ e. k (omega arith) (omega arith)) ∙ v-rest i (λ e. k (omega arith) (omega arith)) ∙ u-rest i (λ e. k (omega arith) (omega arith))) made
            (o 32 (λ e. omega arith) ∙ w-rest 32 (λ e. omega arith) ∙ v-rest 32 (λ e. omega arith) ∙ u-rest 32 (λ e. omega arith)) s

        stamp-is : (z : ℕ) → z ≡ get_or w 36 0 → stamp_of cache ≡ 281474976710655 + 281474976710656 * z
        unfolding stamp_of
        stamp-is z e =
            omega (
              arith,
              u-rest 34 (λ e. omega arith),
              u-rest 35 (λ e. omega arith),
              v-rest 35 (λ e. omega arith),
              u-rest 36 (λ e. omega arith),
              v-rest 36 (λ e. omega arith),
              w-rest 36 (λ e. omega arith),
            )

        pub fourth-raised : (z : ℕ) → z ≡ get_or w 36 0 → z < 65535 → Raised cache (set w 36 (z + 1)) made
        fourth-raised z e h = let s = stamp-is z e in fourth-by (z + 1) (omega (arith, fourth-to (z + 1), raised_below (stamp_of cache) (omega arith)))

        -- after 2^64 of them the stamp is 0 again
        pub all-round : (z : ℕ) → z ≡ get_or w 36 0 → 65535 ≤ z → z < 65536 → Raised cache (set w 36 0) made
        all-round z e h l = let s = stamp-is z e in fourth-by 0 (omega (arith, fourth-to 0, raised-last (stamp_of cache) (omega arith)))

-- the slots made are stored first
pub carried : (cache : List ℕ) (made : ℕ) → length cache ≡ 65600 → (exit : List ℕ) → Raised (set cache 32 made) exit (get_or (set cache 32 made) 32 0) → Raised cache exit made
carried cache made long exit r =
    let u = set cache 32 made in
    let o : (i : ℕ) → (32 ≤ i → i ≤ 36 → ⊥) → get_or u i 0 ≡ get_or cache i 0 = λ i k. get_or-set_other cache 32 i made 0 (λ e. k (omega arith) (omega arith)) in
    let m : get_or u 32 0 ≡ made = get_or-set_same cache 32 made 0 (omega arith) in
    record {
      is = r.is ∙ rw (m, stamp-stacks cache u o);
      fits = λ f. r.fits (stamp-fits cache u o f);
      stamp = r.stamp ∙ ap raised (stamp-set cache 32 made (λ a b. omega arith));
    }
