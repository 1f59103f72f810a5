-- A call by groups with other slot numbers, and with more slots.
use Prim.Native.Nat.{ℕ, ◌+◌, ◌<◌, ◌≤◌}
use mathlib.Core.Path.{◌≡◌, refl, sym, ap, subst, ◌∙◌}
use mathlib.Core.List.{List, [], ◌∷◌, ◌++◌, map}
use mathlib.Core.Option.{Option, none, some}
use mathlib.Core.Logic.{◌⊎◌, inl, inr, ⊎_elim}
use native.Mathlib.Omega.{arith}
use Rattle.reginfo.specs.RegInfo.{RegInfo}
use Rattle.reginfo.specs.Refused.{first_of}
use Rattle.reginfo.specs.Refused as target
use Rattle.function.specs.Function.{Function, value_bank, remat_cost, remat_class}
use Rattle.rules.specs.Edit.{Edit}
use Rattle.rules.specs.Scratch.{Cache}
use Rattle.rules.specs.Patch.{Entry, move, remat, Patch, Sorted, nothing_sorted, Answer, refused, resolved, unless_refused, add, sorted, entry_conditions, patch_conditions, resolve}
use Rattle.rules.specs.Refusals.{entries_conditions, with_limit}
use Rattle.rules.proofs.Accepted.{accepted}
use Rattle.rules.proofs.Limit.{made-within}
use Rattle.frame_rules.specs.Renamed.{ren_edit}
use Rattle.frame_rules.proofs.Unread.{add_same, sorted-same}
use Rattle.frame_rules.proofs.Lifted.{ren_cache, ren_answer, resolve-more, resolve-like}
use Rattle.group_rules.proofs.Joined.{joint}
use Rattle.group_rules.specs.Groups.{greater, behind, followed_by, parts, resolve_parts, whole_conditions, resolve_by_groups}

map-append : {A B : Type 0} (g : A → B) (l m : List A) → map g (l ++ m) ≡ map g l ++ map g m
map-append g [] m = refl
map-append g (x ∷ l) m = ap (g x ∷◌) (map-append g l m)

module _ (t : RegInfo) (f : Function) where
  abbrev W : ℕ → Function
  W l = with_limit t f l

  -- the tests of a patch read no L
  entry-same : (l : ℕ) (a : Sorted) (e : Entry) → entry_conditions t (W l) a e ≡ entry_conditions t f a e
  unfolding entry_conditions value_bank remat_cost remat_class
  entry-same l a (move s d v) = refl
  entry-same l a (remat d v) = refl

  entries-same : (l : ℕ) (es : List Entry) (a : Sorted) → entries_conditions t (W l) es a ≡ entries_conditions t f es a
  unfolding entries_conditions
  entries-same l [] a = refl
  entries-same l (e ∷ es) a = rw (entry-same l a e, ← add_same t f l e a) (ap (entry_conditions t f a e ++◌) (entries-same l es (add t f e a)))

  patch-same : (l : ℕ) (p : Patch) (room : ℕ) (a : Sorted) → patch_conditions t (W l) p room a ≡ patch_conditions t f p room a
  unfolding patch_conditions remat_class
  patch-same l p room a = refl

  pub whole_same : (l : ℕ) (p : Patch) (room : ℕ) → whole_conditions t (W l) p room ≡ whole_conditions t f p room
  whole_same l p room = rw (entries-same l p.entries nothing_sorted, ← sorted-same t f l p.entries nothing_sorted, patch-same l p room (sorted t f p)) refl

  -- slots made by one call
  makes : (l : ℕ) (q : Patch) (room : ℕ) (c d : Cache) (es : List Edit) (n : ℕ) → c.made ≤ l → resolve t (W l) q room c ≡ resolved es d n → (c.made ≤ d.made) × (d.made ≤ l)
  makes l q room c d es n h e =
      let r = accepted t (W l) q room c d es n e in
      subst (λ (y : Cache). (c.made ≤ y.made) × (y.made ≤ l)) (sym r.cache) (made-within t (W l) q _ c r.allocator h r.ran)

  pub parts-make : (l : ℕ) (qs : List Patch) (room : ℕ) (c d : Cache) (es : List Edit) (n : ℕ) → c.made ≤ l → resolve_parts t (W l) qs room c ≡ resolved es d n → c.made ≤ d.made
  unfolding resolve_parts
  parts-make l [] room c d es n h e = let z : c ≡ d = cc in rw z (omega arith)
  parts-make l (q ∷ qs) room c d es n h e =
      let j = joint (resolve t (W l) q room c) (λ c'. resolve_parts t (W l) qs room c') es d n e in
      let m = makes l q room c j.between j.front j.at h j.first in
      omega (arith, m.0, parts-make l qs room j.between d j.back j.at' m.1 j.rest)

  -- ---- with more slots
  parts_more : (qs : List Patch) (room : ℕ) (c : Cache) (l m : ℕ) → c.made ≤ l → l ≤ m → (resolve_parts t (W l) qs room c ≡ refused 17) ⊎ (resolve_parts t (W m) qs room c ≡ resolve_parts t (W l) qs room c)
  unfolding resolve_parts
  parts_more [] room c l m lo hi = inr refl
  parts_more (q ∷ qs) room c l m lo hi =
      ⊎_elim (λ e. inl (rw e refl)) (λ e. go (resolve t (W l) q room c) refl e (λ d h. parts_more qs room d l m h hi)) (resolve-more t f q room c l m lo hi)
    where
      go : (r : Answer) → resolve t (W l) q room c ≡ r → resolve t (W m) q room c ≡ resolve t (W l) q room c
          → ((d : Cache) → d.made ≤ l → (resolve_parts t (W l) qs room d ≡ refused 17) ⊎ (resolve_parts t (W m) qs room d ≡ resolve_parts t (W l) qs room d))
          → (followed_by (resolve t (W l) q room c) (λ d. resolve_parts t (W l) qs room d) ≡ refused 17)
          ⊎ (followed_by (resolve t (W m) q room c) (λ d. resolve_parts t (W m) qs room d) ≡ followed_by (resolve t (W l) q room c) (λ d. resolve_parts t (W l) qs room d))
      go (refused n) h e on = inr (rw (e, h) refl)
      go (resolved es d n) h e on =
          ⊎_elim (λ k. inl (rw h (ap (behind es n) k))) (λ k. inr (rw (e, h) (ap (behind es n) k))) (on d (makes l q room c d es n lo h).1)

  pub groups-more : (p : Patch) (room : ℕ) (c : Cache) (l m : ℕ) → c.made ≤ l → l ≤ m → (resolve_by_groups t (W l) p room c ≡ refused 17) ⊎ (resolve_by_groups t (W m) p room c ≡ resolve_by_groups t (W l) p room c)
  unfolding resolve_by_groups
  groups-more p room c l m lo hi = rw (whole_same l p room, whole_same m p room) (go (first_of (whole_conditions t f p room)))
    where
      go : (o : Option ℕ) → (unless_refused o (resolve_parts t (W l) (parts t p) room c) ≡ refused 17) ⊎ (unless_refused o (resolve_parts t (W m) (parts t p) room c) ≡ unless_refused o (resolve_parts t (W l) (parts t p) room c))
      go (some n) = inr refl
      go none = parts_more (parts t p) room c l m lo hi

  -- ---- with other numbers
  module _ (at : target.Accepted t) (ρ : ℕ → ℕ) (d l : ℕ) (stays : (s : ℕ) → s < f.slots → ρ s ≡ s) (room : ℕ) where
    behind-like : (es : List Edit) (n : ℕ) (r : Answer) → behind (map (ren_edit ρ) es) n (ren_answer ρ d r) ≡ ren_answer ρ d (behind es n r)
    behind-like es n (refused k) = refl
    behind-like es n (resolved fs c k) = ap (λ (x : List Edit). resolved x (ren_cache ρ d c) (greater n k)) (sym (map-append (ren_edit ρ) es fs))

    parts-like : (qs : List Patch) (c : Cache) → c.made ≤ l → ((k : ℕ) → c.made ≤ k → ρ (f.slots + k) ≡ f.slots + (k + d))
        → resolve_parts t (W (l + d)) qs room (ren_cache ρ d c) ≡ ren_answer ρ d (resolve_parts t (W l) qs room c)
    unfolding resolve_parts
    parts-like [] c h later = refl
    parts-like (q ∷ qs) c h later =
        rw (resolve-like t f at ρ d l c stays later q room) (go (resolve t (W l) q room c) refl (λ c' h' later'. parts-like qs c' h' later'))
      where
        go : (r : Answer) → resolve t (W l) q room c ≡ r
            → ((c' : Cache) → c'.made ≤ l → ((k : ℕ) → c'.made ≤ k → ρ (f.slots + k) ≡ f.slots + (k + d)) → resolve_parts t (W (l + d)) qs room (ren_cache ρ d c') ≡ ren_answer ρ d (resolve_parts t (W l) qs room c'))
            → followed_by (ren_answer ρ d r) (λ c'. resolve_parts t (W (l + d)) qs room c') ≡ ren_answer ρ d (followed_by r (λ c'. resolve_parts t (W l) qs room c'))
        go (refused n) e on = refl
        go (resolved es c' n) e on =
            let m = makes l q room c c' es n h e in
            ap (behind (map (ren_edit ρ) es) n) (on c' m.1 (λ k g. later k (omega (arith, m.0, g)))) ∙ behind-like es n (resolve_parts t (W l) qs room c')

    pub groups-like : (p : Patch) (c : Cache) → c.made ≤ l → ((k : ℕ) → c.made ≤ k → ρ (f.slots + k) ≡ f.slots + (k + d))
        → resolve_by_groups t (W (l + d)) p room (ren_cache ρ d c) ≡ ren_answer ρ d (resolve_by_groups t (W l) p room c)
    unfolding resolve_by_groups
    groups-like p c h later = rw (whole_same (l + d) p room, whole_same l p room) (go (first_of (whole_conditions t f p room)))
      where
        go : (o : Option ℕ) → unless_refused o (resolve_parts t (W (l + d)) (parts t p) room (ren_cache ρ d c)) ≡ ren_answer ρ d (unless_refused o (resolve_parts t (W l) (parts t p) room c))
        go (some n) = refl
        go none = parts-like (parts t p) c h later
