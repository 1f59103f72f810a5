-- Demand 3, the stacks and 02 j over lists in which patches are resolved by groups too.
use Prim.Native.Nat.{ℕ, ◌+◌, ◌*◌, ◌≤◌}
use mathlib.Core.Path.{◌≡◌, refl, sym, ap, subst, ◌∙◌}
use mathlib.Core.List.Memᴰ
use mathlib.Core.List.{List, [], ◌∷◌, ◌++◌, append-nil}
use mathlib.Core.Option.{Option, none, some}
use mathlib.Core.Logic.{⊎_elim}
use native.Mathlib.Omega.{arith}
use Rattle.entity.specs.Logic.{any_in}
use Rattle.reginfo.specs.RegInfo.{RegInfo}
use Rattle.reginfo.specs.Refused as target
use Rattle.reginfo.specs.Refused.{first_of}
use Rattle.function.specs.Function.{Function, value_bank}
use Rattle.function.specs.Refused as function
use Rattle.rules.specs.Edit.{Edit}
use Rattle.rules.specs.Scratch.{Cache}
use Rattle.rules.specs.Patch.{Patch, Answer, refused, resolved, unless_refused, cache_after, resolve}
use Rattle.rules.specs.Take as take
use Rattle.rules.specs.Take.{Served, fresh, Standing, stamped_by}
use Rattle.rules.proofs.Accepted.{accepted}
use Rattle.rules.proofs.Take.{Previews, previews-fresh, stands, answers}
use Rattle.machine.specs.Claim.{Owed}
use Rattle.machine.specs.Slots.{InStacks, Stays}
use Rattle.machine.specs.Enough.{num_sizes, enough_slots, planned, edit_size, names_slot, OfItsSize, Sized, SizedIn, edits_of, edits_in, Between}
use Rattle.machine.proofs.Cache.{CacheOk}
use Rattle.machine.proofs.Demand.{cache-fresh, requested}
use Rattle.machine.proofs.Slots.{slots-empty, slots-ok}
use Rattle.machine.proofs.EnoughSlots as machine
use Rattle.machine.proofs.EnoughSlots.{Quiet, never-out, quiet-after, quiet-fresh}
use Rattle.group_rules.specs.Groups.{followed_by, behind, parts, resolve_parts, whole_conditions, resolve_by_groups}
use Rattle.group_rules.specs.Requests.{Request, single, grouping, standing, answered, after}
use Rattle.group_rules.specs.Claim.{RequestsClaim, SlotsClaim, RequestsNeverOut, RequestsSizes, Demand3, SlotsLie, EachOfItsSize, Enough, FewerEnough, Plan}
use Rattle.group_rules.proofs.Lists.{below?, or_left, or_right, any_append}
use Rattle.group_rules.proofs.Refusals.{by_number}
use Rattle.group_rules.proofs.Joined.{joint, passed-whole, grouped}
use Rattle.group_rules.proofs.Requests.{previews-after}

-- what holds of each group's call, from its cache to the next, holds of them all
module _ (t : RegInfo) (f : Function) (room : ℕ) (R : Cache → List Edit → Cache → Type 0) (nil : (c : Cache) → R c [] c)
    (cons : (q : Patch) (c d c' : Cache) (es fs : List Edit) (n : ℕ) → resolve t f q room c ≡ resolved es d n → R d fs c' → R c (es ++ fs) c') where
  pub parts-each : (l : List Patch) (c c' : Cache) (es : List Edit) (n : ℕ) → resolve_parts t f l room c ≡ resolved es c' n → R c es c'
  unfolding resolve_parts
  parts-each [] c c' es n e = let z : c ≡ c' = cc in let y : [] ≡ es = cc in subst (λ (d : Cache). R c es d) z (subst (λ (l : List Edit). R c l c) y (nil c))
  parts-each (q ∷ l) c c' es n e =
      let j = joint (resolve t f q room c) (λ d. resolve_parts t f l room d) es c' n e in
      subst (λ (x : List Edit). R c x c') (sym j.edits) (cons q c j.between c' j.front j.back j.at j.first (parts-each l j.between c' j.back j.at' j.rest))

module _ (t : RegInfo) (f : Function) (ta : target.Accepted t) (fa : function.Accepted t f) where
  -- ---- demand 3
  owed : (x : Request) (s : Served) → Previews t f s → CacheOk t f s.now.cache → Owed t f (standing t f x s) × CacheOk t f (stamped_by s.now (standing t f x s)).cache
  unfolding standing
  owed (single x) s k co = requested t f ta fa x s k co (take.standing t f x s) refl
  owed (grouping p room) s k co = grouped t f ta fa p room s.now.cache co (resolve_by_groups t f p room s.now.cache) refl

  claim : (requests : List Request) (s : Served) → Previews t f s → CacheOk t f s.now.cache → RequestsClaim t f requests s
  claim [] s k co = tt
  claim (x ∷ l) s k co = let y = owed x s k co in (y.0, claim l (after t f x s) (previews-after t f x s k) y.1)

  -- ---- the stacks
  abbrev Lie : Cache → Cache → Type 0
  Lie c c' = InStacks f c → InStacks f c' × Stays c c'

  lie-call : (p : Patch) (room : ℕ) (c : Cache) (r : Answer) → resolve t f p room c ≡ r → Lie c (cache_after c r)
  lie-call p room c (refused n) e ins = (ins, λ s z h. h)
  lie-call p room c (resolved es c' n) e ins = slots-ok t f ta fa p room c c' es (accepted t f p room c c' es n e) ins

  lie-then : (c d c' : Cache) → Lie c d → Lie d c' → Lie c c'
  lie-then c d c' a b ins = let x = a ins in let y = b x.0 in (y.0, λ s z h. y.1 s z (x.1 s z h))

  lie-groups : (p : Patch) (room : ℕ) (c : Cache) (r : Answer) → resolve_by_groups t f p room c ≡ r → Lie c (cache_after c r)
  lie-groups p room c (refused n) e ins = (ins, λ s z h. h)
  lie-groups p room c (resolved es c' n) e ins =
      parts-each t f room (λ c es c'. Lie c c') (λ c ins. (ins, λ s z h. h)) (λ q c d c' es fs n e r. lie-then c d c' (lie-call q room c (resolved es d n) e) r) (parts t p) c c' es n
      (passed-whole t f p room c c' es n e).1 ins

  lie-single : (x : take.Request) (s : Served) → Previews t f s → (o : Option Standing) → take.standing t f x s ≡ o → Lie s.now.cache (stamped_by s.now o).cache
  lie-single x s k none e ins = (ins, λ s z h. h)
  lie-single x s k (some y) e ins = ⊎_elim (λ h. rw h (ins, λ s z h. h)) (λ h. lie-call y.patch h.0 s.now.cache y.answer h.1 ins) (stands t f x s k y e)

  lie : (x : Request) (s : Served) → Previews t f s → Lie s.now.cache (after t f x s).now.cache
  unfolding standing
  lie (single x) s k = lie-single x s k (take.standing t f x s) refl
  lie (grouping p room) s k = lie-groups p room s.now.cache (resolve_by_groups t f p room s.now.cache) refl

  lies : (requests : List Request) (s : Served) → Previews t f s → InStacks f s.now.cache → SlotsClaim t f requests s
  lies [] s k ins = ins
  lies (x ∷ l) s k ins = let y = lie x s k ins in (ins, y.1, lies l (after t f x s) (previews-after t f x s k) y.0)

  -- ---- 02 j
  abbrev pub Still : Cache → Type 0
  Still c = Quiet t f ta fa c

  -- each emergency slot that the edits name lies in the stack of its size, and they name all that were made
  abbrev pub Sizes : Cache → List Edit → Cache → Type 0
  Sizes c es c' = Still c → Still c' × OfItsSize t f c es c' × Stays c c'

  sizes-none : (c : Cache) → Sizes c [] c
  sizes-none c g = (g, record { lies = λ e m. absurd (Memᴰ.not-nil m); named = λ s lo hi. absurd (omega arith) }, λ s z h. h)

  joined-sizes : (c d c' : Cache) (es fs : List Edit) → OfItsSize t f c es d → OfItsSize t f d fs c' → Stays d c' → OfItsSize t f c (es ++ fs) c'
  joined-sizes c d c' es fs a b st =
      record {
        lies = λ x m s low h. ⊎_elim (λ q. st s (edit_size t f x) (a.lies x q s low h)) (λ q. b.lies x q s low h) (Memᴰ.append_cases es m);
        named = λ s lo hi.
            any_append (names_slot t f s) es fs
            ∙ ⊎_elim (λ q. or_left (any_in (names_slot t f s) es) (any_in (names_slot t f s) fs) (a.named s lo q)) (λ q. or_right (any_in (names_slot t f s) es) (any_in (names_slot t f s) fs) (b.named s q hi))
            (below? s (f.slots + d.made));
      }

  sizes-call : (q : Patch) (room : ℕ) (c d : Cache) (es : List Edit) (n : ℕ) → resolve t f q room c ≡ resolved es d n → Sizes c es d
  sizes-call q room c d es n e g =
      let y = quiet-after t f ta fa q room c g (resolved es d n) e in
      (y.0, y.1, (lie-call q room c (resolved es d n) e g.ins).1)

  pub sizes-groups : (p : Patch) (room : ℕ) (c c' : Cache) (es : List Edit) (n : ℕ) → resolve_by_groups t f p room c ≡ resolved es c' n → Sizes c es c'
  sizes-groups p room c c' es n e =
      parts-each t f room Sizes sizes-none
      (λ q c d c' es fs n e r g. let y = sizes-call q room c d es n e g in let z = r y.0 in (z.0, joined-sizes c d c' es fs y.1 z.1 z.2, λ s x h. z.2 s x (y.2 s x h)))
      (parts t p) c c' es n (passed-whole t f p room c c' es n e).1

  -- of an answer, whatever it came of
  abbrev SizesOf : Cache → Answer → Type 0
  SizesOf c r = Still c → Still (cache_after c r) × Sized t f c r × Stays c (cache_after c r)

  sizes-answer : (p : Patch) (room : ℕ) (c : Cache) (r : Answer) → resolve t f p room c ≡ r → SizesOf c r
  sizes-answer p room c (refused n) e g = (g, tt, λ s z h. h)
  sizes-answer p room c (resolved es d n) e g = sizes-call p room c d es n e g

  sizes-by-groups : (p : Patch) (room : ℕ) (c : Cache) (r : Answer) → resolve_by_groups t f p room c ≡ r → SizesOf c r
  sizes-by-groups p room c (refused n) e g = (g, tt, λ s z h. h)
  sizes-by-groups p room c (resolved es d n) e g = sizes-groups p room c d es n e g

  -- of a request: what it is answered, and what stands in the list
  told-sized : (x : Request) (s : Served) → Previews t f s → Still s.now.cache → (o : Option Answer) → answered t f x s ≡ o → SizedIn t f s.now.cache o
  unfolding answered standing
  told-sized x s k g none e = tt
  told-sized (single x) s k g (some r) e = ⊎_elim (λ h. rw h tt) (λ h. (sizes-answer h.0 h.1 s.now.cache r h.2 g).1) (answers t f x s k r e)
  told-sized (grouping p room) s k g (some r) e = let z : resolve_by_groups t f p room s.now.cache ≡ r = cc in (sizes-by-groups p room s.now.cache r z g).1

  stands-sized : (x : Request) (s : Served) → Previews t f s → (y : Standing) → standing t f x s ≡ some y → SizesOf s.now.cache y.answer
  unfolding standing
  stands-sized (single x) s k y e g = ⊎_elim (λ h. rw h (g, tt, λ s z h. h)) (λ h. sizes-answer y.patch h.0 s.now.cache y.answer h.1 g) (stands t f x s k y e)
  stands-sized (grouping p room) s k y e g =
      let z : record { patch = p; answer = resolve_by_groups t f p room s.now.cache } ≡ y = cc in
      subst (λ (y : Standing). Still (cache_after s.now.cache y.answer) × Sized t f s.now.cache y.answer × Stays s.now.cache (cache_after s.now.cache y.answer)) z
      (sizes-by-groups p room s.now.cache (resolve_by_groups t f p room s.now.cache) refl g)

  still-then : (x : Request) (s : Served) → Previews t f s → Still s.now.cache → (o : Option Standing) → standing t f x s ≡ o → Still (stamped_by s.now o).cache
  still-then x s k g none e = g
  still-then x s k g (some y) e = (stands-sized x s k y e g).0

  beside : (es : List Edit) (c : Cache) (r : Answer) → Between t f es c → Still (cache_after c r) → Sized t f c r → Stays c (cache_after c r) → Between t f (es ++ edits_of t f r) (cache_after c r)
  beside es c (refused n) b g o st = rw (append-nil es) b
  beside es c (resolved fs d n) b g o st =
      record {
        once = g.ins;
        lies = λ x m s low h. ⊎_elim (λ q. st s (edit_size t f x) (b.lies x q s low h)) (λ q. o.lies x q s low h) (Memᴰ.append_cases es m);
        named = λ s lo hi.
            any_append (names_slot t f s) es fs
            ∙ ⊎_elim (λ q. or_left (any_in (names_slot t f s) es) (any_in (names_slot t f s) fs) (b.named s lo q)) (λ q. or_right (any_in (names_slot t f s) es) (any_in (names_slot t f s) fs) (o.named s q hi))
            (below? s (f.slots + c.made));
      }

  beside-then : (es : List Edit) (x : Request) (s : Served) → Previews t f s → Still s.now.cache → Between t f es s.now.cache → (o : Option Standing) → standing t f x s ≡ o
      → Between t f (es ++ edits_in t f o) (stamped_by s.now o).cache
  beside-then es x s k g b none e = rw (append-nil es) b
  beside-then es x s k g b (some y) e = let z = stands-sized x s k y e g in beside es s.now.cache y.answer b z.0 z.1 z.2

  sizes : (requests : List Request) (es : List Edit) (s : Served) → Previews t f s → Still s.now.cache → Between t f es s.now.cache → RequestsSizes t f requests es s
  sizes [] es s k g b = b
  sizes (x ∷ l) es s k g b =
      let o : Option Standing = standing t f x s in (
        b,
        told-sized x s k g (answered t f x s) refl,
        sizes l (es ++ edits_in t f o) (after t f x s) (previews-after t f x s k) (still-then x s k g o refl) (beside-then es x s k g b o refl),
      )

  -- ---- no 17
  module _ (enough : (127 + f.kept) * num_sizes t f ≤ f.limit) where
    parts_in : (l : List Patch) (room : ℕ) (c : Cache) → Still c → resolve_parts t f l room c ≡ refused 17 → ⊥
    unfolding resolve_parts
    parts_in [] room c g e = let z : ◌≡◌ {A = ℕ} 0 1 = cc in omega arith
    parts_in (q ∷ l) room c g e = go (resolve t f q room c) refl e (λ d. parts_in l room d)
      where
        later : (es : List Edit) (n : ℕ) (r : Answer) → behind es n r ≡ refused 17 → r ≡ refused 17
        later es n (refused k) e = e
        later es n (resolved fs d k) e = let z : ◌≡◌ {A = ℕ} 0 1 = cc in absurd (omega arith)

        go : (r : Answer) → resolve t f q room c ≡ r → followed_by r (λ d. resolve_parts t f l room d) ≡ refused 17 → ((d : Cache) → Still d → resolve_parts t f l room d ≡ refused 17 → ⊥) → ⊥
        go (refused n) h e on = never-out t f ta fa enough q room c g (h ∙ e)
        go (resolved es d n) h e on = on d (quiet-after t f ta fa q room c g (resolved es d n) h).0 (later es n (resolve_parts t f l room d) e)

    groups-in : (p : Patch) (room : ℕ) (c : Cache) → Still c → resolve_by_groups t f p room c ≡ refused 17 → ⊥
    unfolding resolve_by_groups
    groups-in p room c g e = go (first_of (whole_conditions t f p room)) refl e
      where
        go : (o : Option ℕ) → first_of (whole_conditions t f p room) ≡ o → unless_refused o (resolve_parts t f (parts t p) room c) ≡ refused 17 → ⊥
        go (some n) h e = let z : n ≡ 17 = cc in never-out t f ta fa enough p room c g (by_number t f p room c n h ∙ ap refused z)
        go none h e = parts_in (parts t p) room c g e

    not-17 : (x : Request) (s : Served) → Previews t f s → Still s.now.cache → answered t f x s ≡ some (refused 17) → ⊥
    unfolding answered standing
    not-17 (single x) s k g e =
        ⊎_elim (λ h. let z : ◌≡◌ {A = ℕ} 17 20 = cc in omega arith) (λ h. never-out t f ta fa enough h.0 h.1 s.now.cache g h.2) (answers t f x s k (refused 17) e)
    not-17 (grouping p room) s k g e = groups-in p room s.now.cache g cc

    never : (requests : List Request) (s : Served) → Previews t f s → Still s.now.cache → RequestsNeverOut t f requests s
    never [] s k g = tt
    never (x ∷ l) s k g = (not-17 x s k g, never l (after t f x s) (previews-after t f x s k) (still-then x s k g (standing t f x s) refl))

pub demand-3 : Demand3
demand-3 t f ta fa requests = claim t f ta fa requests fresh (previews-fresh t f) (cache-fresh t f ta fa)

pub slots-lie : SlotsLie
slots-lie t f ta fa requests = lies t f ta fa requests fresh (previews-fresh t f) (slots-empty f)

pub each-of-its-size : EachOfItsSize
each-of-its-size t f ta fa requests =
    sizes t f ta fa requests [] fresh (previews-fresh t f) (quiet-fresh t f ta fa)
    (record { once = slots-empty f; lies = λ e m. absurd (Memᴰ.not-nil m); named = λ s lo hi. absurd (omega arith) })

pub fewer-enough : FewerEnough
fewer-enough t f ta fa enough requests = never t f ta fa enough requests fresh (previews-fresh t f) (quiet-fresh t f ta fa)

pub enough : Enough
enough t f ta fa h requests = fewer-enough t f ta fa (omega arith) requests

pub plan : Plan
unfolding value_bank
plan t f ta fa =
    let y = machine.plan t f ta fa in
    (y.0, y.1, enough t (planned t f) ta y.1 (omega (arith, ap (λ (n : ℕ). (128 + f.kept) * n) (machine.same-sizes t f (enough_slots t f)))))
