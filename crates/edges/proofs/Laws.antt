-- One patch after another.
use Prim.Native.Nat.{ℕ, zero, suc, ◌+◌, ◌-◌, ◌<◌, ◌≤◌}
use mathlib.Core.Path.{◌≡◌, refl, sym, ap, ◌∙◌}
use mathlib.Core.Bool.{Bool, true, false}
use mathlib.Core.List.{List, [], ◌∷◌}
use mathlib.Core.Option.{Option, none, some}
use native.Mathlib.Omega.{arith}
use lib.Dec.{leb}
use lib.ListN.{length, take, drop, get_or, length-take, length-drop}
use lib.Seq.{drop-cons, drop-drop, take_all, length-take-le}
use borrow.Author.Tests.{leb-true, le-leb, lt-leb}
use Rattle.entity.specs.Logic.{pick, and}
use Rattle.entity.proofs.Laws.{and-true}
use Rattle.answer_text.specs.Heads.{is_head, count_in}
use Rattle.std.specs.Prelude.{Some, None}
use Rattle.edges.specs.Patches.{headed, with_head, patch_behind, patch_numbered, counted, FoundIn, then_patches, patches_within, patches_of, nth, Numbered}

-- no word is left
pub no_word : (l : List ℕ) (at : ℕ) → length l ≤ at → headed (drop at l) ≡ none
unfolding headed
no_word [] zero h = refl
no_word [] (suc at) h = refl
no_word (x ∷ l) zero h = absurd (omega arith)
no_word (x ∷ l) (suc at) h = no_word l at (omega arith)

-- the word at an offset, with so many behind it
abbrev test : ℕ → ℕ → Bool
test w n = and (is_head w) (and (leb (count_in w) 1024) (leb (count_in w) n))

pub headed-at : (l : List ℕ) (at : ℕ) → at < length l → headed (drop at l) ≡ pick (test (get_or l at 0) (length (drop (suc at) l))) (some (count_in (get_or l at 0))) none
unfolding headed
headed-at l at h = rw (drop-cons l at 0 h)

behind : (l : List ℕ) (at : ℕ) → length (drop (suc at) l) ≡ length l - (at + 1)
behind l at = length-drop (suc at) l ∙ omega arith

module _ (l : List ℕ) (at : ℕ) (there : at < length l) where
  abbrev word : ℕ
  word = get_or l at 0

  pub no-head : (is_head word ≡ false) → headed (drop at l) ≡ none
  no-head h = headed-at l at there ∙ rw h

  pub too_many : is_head word ≡ true → 1024 < count_in word → headed (drop at l) ≡ none
  too_many h m = headed-at l at there ∙ rw (h, lt-leb (count_in word) 1024 m)

  pub too_far : is_head word ≡ true → count_in word ≤ 1024 → length l - at ≤ count_in word → headed (drop at l) ≡ none
  too_far h m b =
      let n : length (drop (suc at) l) < count_in word = omega (arith, behind l at) in
      headed-at l at there ∙ rw (h, le-leb (count_in word) 1024 m, lt-leb (count_in word) (length (drop (suc at) l)) n)

  pub is-headed : is_head word ≡ true → count_in word ≤ 1024 → count_in word < length l - at → headed (drop at l) ≡ some (count_in word)
  is-headed h m b =
      let n : count_in word ≤ length (drop (suc at) l) = omega (arith, behind l at) in
      headed-at l at there ∙ rw (h, le-leb (count_in word) 1024 m, le-leb (count_in word) (length (drop (suc at) l)) n)

-- so many words are there
fits : (m : List ℕ) (c : ℕ) → headed m ≡ some c → (c ≤ 1024) × (1 + c ≤ length m)
unfolding headed
fits [] c h = absurd (let z : ◌≡◌ {A = ℕ} 0 1 = cc in omega arith)
fits (w ∷ l) c h = go (test w (length l)) refl h
  where
    go : (b : Bool) → test w (length l) ≡ b → pick b (some (count_in w)) none ≡ some c → (c ≤ 1024) × (1 + c ≤ suc (length l))
    go true e h =
        let q : count_in w ≡ c = cc in
        let a = and-true (is_head w) _ e in
        let b = and-true (leb (count_in w) 1024) _ a.1 in
        (rw q at (leb-true (count_in w) 1024 b.0), let m : c ≤ length l = rw q at (leb-true (count_in w) (length l) b.1) in omega arith)
    go false e h = absurd (let z : ◌≡◌ {A = ℕ} 0 1 = cc in omega arith)

pub head-fits : (l : List ℕ) (at c : ℕ) → headed (drop at l) ≡ some c → (c ≤ 1024) × (at + 1 + c ≤ length l)
head-fits l at c h = let w = fits (drop at l) c h in (w.0, omega (arith, w.1, length-drop at l))

-- one patch, and the patches behind it
pub none-there : (n : ℕ) (l : List ℕ) → headed l ≡ none → patch_numbered n l ≡ none
unfolding patch_behind
none-there zero l h = refl
none-there (suc zero) l h = rw h
none-there (suc (suc n)) l h = rw h

pub here : (n : ℕ) (l : List ℕ) (at c : ℕ) → n ≡ 1 → headed (drop at l) ≡ some c → patch_numbered n (drop at l) ≡ some (take c (drop (at + 1) l))
unfolding patch_behind
here n l at c e h = rw (e, h, drop-drop 1 at l)

pub onward : (n : ℕ) (l : List ℕ) (at c : ℕ) → 0 < n → (n ≡ 1 → ⊥) → headed (drop at l) ≡ some c → patch_numbered n (drop at l) ≡ patch_numbered (n - 1) (drop (at + (1 + c)) l)
unfolding patch_behind
onward zero l at c p q h = absurd (omega arith)
onward (suc zero) l at c p q h = absurd (q refl)
onward (suc (suc n)) l at c p q h = let m : suc (suc n) - 1 ≡ suc n = omega arith in rw (m, h, drop-drop (1 + c) at l)

-- what is found
pub found_none : (l : List ℕ) (o : Option (List ℕ)) → o ≡ none → FoundIn l o None
found_none l o e = rw e refl

pub found_at : (l : List ℕ) (o : Option (List ℕ)) (at c : ℕ) → headed (drop at l) ≡ some c → o ≡ some (take c (drop (at + 1) l)) → FoundIn l o (Some (at + 1, c))
found_at l o at c h e = let w = head-fits l at c h in rw e (at + 1, c, refl, refl, w.1, w.0)

pub no_more : (n : ℕ) (l : List ℕ) → (0 < n → ⊥) → patch_numbered n l ≡ none
no_more zero l h = refl
no_more (suc n) l h = absurd (h (omega arith))

-- what a count tells
pub is-count : (o : Option ℕ) (c : ℕ) → counted o ≡ Some c → o ≡ some c
is-count none c e = absurd (let z : ◌≡◌ {A = ℕ} 0 1 = cc in omega arith)
is-count (some d) c e = let z : d ≡ c = cc in ap some z

pub no-count : (o : Option ℕ) → counted o ≡ None → o ≡ none
no-count none e = refl
no-count (some d) e = absurd (let z : ◌≡◌ {A = ℕ} 0 1 = cc in omega arith)

-- what was found tells
pub nothing-found : (l : List ℕ) (o : Option (List ℕ)) → FoundIn l o None → o ≡ none
nothing-found l none h = refl
nothing-found l (some es) h = absurd (let z : ◌≡◌ {A = ℕ} 0 1 = cc in omega arith)

pub found : (l : List ℕ) (o : Option (List ℕ)) (from count : ℕ) → FoundIn l o (Some (from, count))
    → (o ≡ some (take count (drop from l))) × (from + count ≤ length l) × (count ≤ 1024)
found l none from count h = absurd (let z : ◌≡◌ {A = ℕ} 0 1 = cc in omega arith)
found l (some es) from count h =
    let p : (from, count) ≡ (h.0, h.1) = cc in
    let a : from ≡ h.0 = ap (λ (p : ℕ × ℕ). p.0) p in
    let b : count ≡ h.1 = ap (λ (p : ℕ × ℕ). p.1) p in
    rw (a, b) (ap some h.3, h.4, h.5)

-- ---- all patches
no-patch : (n : ℕ) (l : List ℕ) → headed l ≡ none → patches_within n l ≡ []
unfolding patches_within
no-patch zero l h = refl
no-patch (suc n) l h = rw h

pub none-begins : (l : List ℕ) → headed l ≡ none → patches_of l ≡ []
none-begins l h = no-patch (length l) l h

empty : (l : List ℕ) → length l ≤ 0 → headed l ≡ none
unfolding headed
empty [] h = refl
empty (x ∷ l) h = absurd (omega arith)

-- as many as there are words are enough
enough : (n m : ℕ) (l : List ℕ) → length l ≤ n → length l ≤ m → patches_within n l ≡ patches_within m l
unfolding patches_within
enough zero m l a b = sym (no-patch m l (empty l a))
enough (suc n) zero l a b = no-patch (suc n) l (empty l b)
enough (suc n) (suc m) l a b = go (headed l) refl (λ r p q. enough n m r p q)
  where
    go : (o : Option ℕ) → headed l ≡ o → ((r : List ℕ) → length r ≤ n → length r ≤ m → patches_within n r ≡ patches_within m r)
        → then_patches o (λ c. take c (drop 1 l) ∷ patches_within n (drop (1 + c) l)) ≡ then_patches o (λ c. take c (drop 1 l) ∷ patches_within m (drop (1 + c) l))
    go none e on = refl
    go (some c) e on =
        let f = fits l c e in
        ap (λ (x : List (List ℕ)). take c (drop 1 l) ∷ x) (on (drop (1 + c) l) (omega (arith, length-drop (1 + c) l, f.1)) (omega (arith, length-drop (1 + c) l, f.1)))

stepped : (n : ℕ) (l : List ℕ) (c : ℕ) → headed l ≡ some c → patches_within (suc n) l ≡ take c (drop 1 l) ∷ patches_within n (drop (1 + c) l)
unfolding patches_within
stepped n l c h = rw h

-- one patch, and the patches behind it
one-first : (l : List ℕ) (c : ℕ) → headed l ≡ some c → patches_of l ≡ take c (drop 1 l) ∷ patches_of (drop (1 + c) l)
one-first l c h =
    let f = fits l c h in
    let n : length l ≡ suc (length l - 1) = omega (arith, f.1) in
    ap (λ (k : ℕ). patches_within k l) n ∙ stepped (length l - 1) l c h
    ∙ ap (λ (x : List (List ℕ)). take c (drop 1 l) ∷ x) (enough (length l - 1) (length (drop (1 + c) l)) (drop (1 + c) l) (omega (arith, length-drop (1 + c) l)) (omega arith))

pub one_more : (l : List ℕ) (at c : ℕ) → headed (drop at l) ≡ some c → patches_of (drop at l) ≡ take c (drop (at + 1) l) ∷ patches_of (drop (at + (1 + c)) l)
one_more l at c h = one-first (drop at l) c h ∙ rw (drop-drop 1 at l, drop-drop (1 + c) at l)

-- the words at an offset, so many of them
pub part-is : (l : List ℕ) (from count : ℕ) → take count (take (length l - from) (drop from l)) ≡ take count (drop from l)
part-is l from count = ap (take count) (take_all (length l - from) (drop from l) (omega (arith, length-drop from l)))

pub part-long : (l : List ℕ) (from count : ℕ) → from + count ≤ length l → count ≡ length (take count (take (length l - from) (drop from l)))
part-long l from count h = sym (rw (part-is l from count) (length-take-le count (drop from l) (omega (arith, length-drop from l))))

pub part-few : (l : List ℕ) (from count : ℕ) → count ≤ 1024 → length (take count (take (length l - from) (drop from l))) ≤ 1024
part-few l from count h = omega (arith, length-take count (take (length l - from) (drop from l)))

pub numbered : Numbered
unfolding patch_behind
numbered zero l = go (headed l) refl
  where
    go : (o : Option ℕ) → headed l ≡ o → with_head o (λ c. some (take c (drop 1 l))) ≡ nth 0 (patches_of l)
    go none e = rw (none-begins l e)
    go (some c) e = rw (one-first l c e)
numbered (suc n) l = go (headed l) refl (λ r. numbered n r)
  where
    go : (o : Option ℕ) → headed l ≡ o → ((r : List ℕ) → patch_numbered (suc n) r ≡ nth n (patches_of r))
        → with_head o (λ c. patch_behind n (drop (1 + c) l)) ≡ nth (suc n) (patches_of l)
    go none e on = rw (none-begins l e)
    go (some c) e on = rw (one-first l c e) (on (drop (1 + c) l))
