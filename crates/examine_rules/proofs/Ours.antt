-- 02 m: every list of ours gets a yes.
use Prim.Native.Nat.{ℕ, ◌+◌, ◌<◌, ◌≤◌}
use mathlib.Core.Path.{◌≡◌, refl, sym, ap, subst, ◌∙◌}
use mathlib.Core.Bool.{true}
use mathlib.Core.List.Memᴰ
use mathlib.Core.List.{List, [], ◌∷◌, ◌++◌, map, Memᴰ}
use mathlib.Core.Option.{Option, none, some}
use mathlib.Core.Logic.{◌⊎◌, inl, inr, ⊎_elim}
use native.Mathlib.Omega.{arith}
use lib.Dec.{ltb}
use lib.ListN.{length, get_or, take}
use borrow.Author.Tests.{ltb-true, lt-ltb}
use Rattle.entity.specs.Logic.{has}
use Rattle.entity.specs.Place.{Place, reg, slot, names}
use Rattle.entity.proofs.Laws.{and-true}
use Rattle.reginfo.specs.RegInfo.{RegInfo, num_regs, num_banks, num_classes}
use Rattle.reginfo.specs.Refused as target
use Rattle.function.specs.Function.{Function, num_values, value_bank, remat_class}
use Rattle.function.specs.Refused as function
use Rattle.function.proofs.Laws.{bank-there, class-there, low-limit}
use Rattle.rules.specs.Edit.{Edit, Move, Rematerialize, EmergencySpill, EmergencyReload}
use Rattle.rules.specs.Scratch.{Cache, ScratchAllocator}
use Rattle.rules.specs.Order.{no_move, no_remat}
use Rattle.rules.specs.Patch.{Patch, Sorted, sorted, Answer, refused, resolved, run, resolve, cache_after}
use Rattle.rules.specs.Refusals.{with_limit}
use Rattle.rules.specs.Sorted.{SortedOk}
use Rattle.rules.specs.Take as take
use Rattle.rules.specs.Take.{resolving, asking, taking, Preview, Served, fresh, Standing, taken_of, take_answer, stamped_by}
use Rattle.rules.proofs.Accepted.{accepted}
use Rattle.rules.proofs.Limit.{by-limit, made-within}
use Rattle.rules.proofs.Steps.{All, Every, every-get_d, every_map}
use Rattle.rules.proofs.Take.{Previews, previews-fresh, is_call, stands}
use Rattle.machine.specs.Machine.{Machine, begin, steps, counted, seen}
use Rattle.machine.specs.Claim.{Stopped, Accepted}
use Rattle.machine.proofs.Cache.{CacheOk}
use Rattle.machine.proofs.Demand.{called, cache-fresh}
use Rattle.machine.proofs.Tests.{yes_of}
use Rattle.group_rules.specs.Groups.{parts, resolve_by_groups}
use Rattle.group_rules.specs.Requests.{Request, single, grouping, standing, after, after_all, reached}
use Rattle.group_rules.proofs.Claim.{parts-each}
use Rattle.group_rules.proofs.Joined.{passed-whole, grouped}
use Rattle.group_rules.proofs.Requests.{previews-after, previews-all}
use Rattle.edit.specs.Word.{word_of}
use Rattle.examine_rules.specs.Examine.{Yes, Does, named, patch_refusal}
use Rattle.examine_rules.specs.Examined.{AllNamed}
use Rattle.examine_rules.specs.Words.{examine_patch}
use Rattle.examine_rules.specs.Ours.{EditsNamed, Passes, AllPass, handed, Ours}
use Rattle.examine_rules.proofs.Given.{accepted-whole, accepted-of}
use Rattle.examine_rules.proofs.Naming.{Low, RematThere, ScratchThere, run-named}
use Rattle.examine_rules.proofs.Simulation.{has-head, has-tail}
use Rattle.examine_rules.proofs.Words.{words-examined}

has-every : (P : ℕ → Type 0) (l : List ℕ) → ((s : ℕ) → has s l ≡ true → P s) → Every P l
has-every P [] h = tt
has-every P (x ∷ l) h = (h x (has-head x l), has-every P l (λ s k. h s (has-tail s x l k)))

every-mem : {A : Type 0} (P : A → Type 0) (l : List A) → Every P l → (x : A) → Memᴰ x l → P x
every-mem {A = A} P [] h x x4 = elim x4 [ ]
every-mem P (y ∷ l) h x (Memᴰ.head e) = rw e h.0
every-mem P (y ∷ l) h x (Memᴰ.tail m) = every-mem P l h.1 x m

mem-either : {A : Type 0} (l m : List A) (x : A) → Memᴰ x (l ++ m) → Memᴰ x l ⊎ Memᴰ x m
mem-either [] m x h = inr h
mem-either (y ∷ l) m x (Memᴰ.head e) = inl (Memᴰ.head e)
mem-either (y ∷ l) m x (Memᴰ.tail h) = ⊎_elim (λ k. inl (Memᴰ.tail k)) inr (mem-either l m x h)

-- a place below one bound is below a higher one
names_more : (r n m : ℕ) (p : Place) → n ≤ m → names r n p ≡ true → names r m p ≡ true
names_more r n m (reg x) h e = e
names_more r n m (slot s) h e = let l : s < n = ltb-true s n e in lt-ltb s m (omega arith)

take_all : {A : Type 0} (l : List A) → take (length l) l ≡ l
take_all [] = refl
take_all (x ∷ l) = ap (x ∷◌) (take_all l)

module _ (t : RegInfo) (f : Function) where
  pub named_more : (m n : ℕ) → m ≤ n → (e : Edit) → named t f m e ≡ true → named t f n e ≡ true
  unfolding named
  named_more m n h (Move to from v) e =
      let q = and-true (names (num_regs t) (f.slots + m) to) _ e in
      let r = and-true (names (num_regs t) (f.slots + m) from) _ q.1 in
      rw (names_more (num_regs t) (f.slots + m) (f.slots + n) to (omega arith) q.0, names_more (num_regs t) (f.slots + m) (f.slots + n) from (omega arith) r.0, r.1) refl
  named_more m n h (Rematerialize to v) e =
      let q = and-true (names (num_regs t) (f.slots + m) to) _ e in
      rw (names_more (num_regs t) (f.slots + m) (f.slots + n) to (omega arith) q.0, q.1) refl
  named_more m n h (EmergencySpill x r) e =
      let q = and-true (ltb x (f.slots + m)) (ltb r (num_regs t)) e in
      rw (names_more (num_regs t) (f.slots + m) (f.slots + n) (slot x) (omega arith) q.0, q.1) refl
  named_more m n h (EmergencyReload r x) e =
      let q = and-true (ltb x (f.slots + m)) (ltb r (num_regs t)) e in
      rw (names_more (num_regs t) (f.slots + m) (f.slots + n) (slot x) (omega arith) q.0, q.1) refl

  pub named-same : (l m : ℕ) (e : Edit) → named t (with_limit t f l) m e ≡ true → named t f m e ≡ true
  unfolding named
  named-same l m (Move to from v) h = h
  named-same l m (Rematerialize to v) h = h
  named-same l m (EmergencySpill x r) h = h
  named-same l m (EmergencyReload r x) h = h

  -- a run with another L, of at least the slots that it made
  lifted : (l : ℕ) (p : Patch) (a : Sorted) (c : Cache) (k : ScratchAllocator) → run t f p a c ≡ some k → k.cache.made ≤ l → run t (with_limit t f l) p a c ≡ some k
  lifted l p a c k e h = (by-limit t (with_limit t f l) f.limit p a c k e).same (inl h)

  grows : (p : Patch) (a : Sorted) (c : Cache) (k : ScratchAllocator) → run t f p a c ≡ some k → c.made ≤ k.cache.made
  grows p a c k e = (made-within t (with_limit t f (c.made + k.cache.made)) p a c k (omega arith) (lifted (c.made + k.cache.made) p a c k e (omega arith))).0

  module _ (ta : target.Accepted t) (fa : function.Accepted t f) where
    -- ---- what a run names
    banks : (l v : ℕ) → v < num_values f → value_bank (with_limit t f l) v < num_banks t
    unfolding value_bank
    banks l v hv = bank-there t f fa v hv

    class_same : (l v : ℕ) → remat_class f v < num_classes t → remat_class (with_limit t f l) v < num_classes t
    unfolding remat_class
    class_same l v h = h

    run-names : (p : Patch) (a : Sorted) (c : Cache) (k : ScratchAllocator) → SortedOk t f a → ((z s : ℕ) → has s (c.stacks z) ≡ true → s < f.slots + c.made) → run t f p a c ≡ some k
        → Every (λ e. named t f k.cache.made e ≡ true) k.edits
    run-names p a c k ok low e =
        let n : ℕ = k.cache.made in
        let F : Function = with_limit t f n in
        let up : (q : Place) → names (num_regs t) f.slots q ≡ true → names (num_regs t) (f.slots + n) q ≡ true = λ q. names_more (num_regs t) f.slots (f.slots + n) q (omega arith) in
        let all = run-named t F ta (banks n) n (omega arith) p a c
        (λ i h. let m = ok.moves i h in (up (get_or a.moves i no_move).source m.source-named, up (get_or a.moves i no_move).dest m.dest-named, m.value-named))
        (every-get_d (RematThere t F ta (banks n) n (omega arith)) no_remat a.remats (λ i h. let r = ok.remats i h in (up (get_or a.remats i no_remat).dest r.dest-named, r.value-named)))
        (every-get_d (ScratchThere t F ta (banks n) n (omega arith)) no_remat a.remats_with_scratch
        (λ i h. let r = ok.remats_with_scratch i h in let v : ℕ = (get_or a.remats_with_scratch i no_remat).value in (up (get_or a.remats_with_scratch i no_remat).dest r.dest-named, r.value-named, class_same n v (class-there t f fa v r.value-named r.can))))
        (λ z. has-every (λ s. s < f.slots + n) (c.stacks z) (λ s h. omega (arith, grows p a c k e, low z s h))) in
        every_map (λ x. named t F n x ≡ true) (λ x. named t f n x ≡ true) (λ x. named-same n n x) k.edits (subst (All (λ k. Every (λ x. named t F n x ≡ true) k.edits × Low t F ta (banks n) n (omega arith) k.cache.stacks)) (lifted n p a c k e (omega arith)) all).0

    pub edits-there : (p : Patch) (room : ℕ) (c c' : Cache) (es : List Edit) (m : ℕ) → ((z s : ℕ) → has s (c.stacks z) ≡ true → s < f.slots + c.made)
        → resolve t f p room c ≡ resolved es c' m → AllNamed t f c'.made es
    edits-there p room c c' es m low e =
        let r = accepted t f p room c c' es m e in
        let k : ScratchAllocator = r.allocator in
        subst (λ (y : Cache). AllNamed t f y.made es) (sym r.cache) (subst (AllNamed t f k.cache.made) (sym r.edits) (every-mem (λ x. named t f r.allocator.cache.made x ≡ true) r.allocator.edits (run-names p (sorted t f p) c r.allocator r.ok low r.ran)))

    -- ---- what is right at every stop is right at the end
    same-machine : (o : Option Machine) (s s' : Machine) → o ≡ some s → o ≡ some s' → s ≡ s'
    same-machine o s s' e h = cc

    nothing-waits : (s : Machine) → s.waiting ≡ [] → seen t f s ≡ s.memory
    unfolding counted
    nothing-waits s e = rw e

    pub right-does : (p : Patch) (es : List Edit) → Accepted t f p es → Does t f p es
    right-does p es acc content whole start hold =
        let r = acc.right content whole start hold in
        let x = r.ends in
        let y = r.stops (length es) in
        let q : y.0 ≡ x.0 = same-machine (steps t f content es (begin start)) y.0 x.0 (ap (λ (l : List Edit). steps t f content l (begin start)) (sym (take_all es)) ∙ y.1) x.1 in
        let st : Stopped t f p content start x.0 = subst (Stopped t f p content start) q y.2 in
        let w : seen t f x.0 ≡ x.0.memory = nothing-waits x.0 x.2.none-waits in
        (x.0, x.1, record { entries = x.2.entries; units = rw (← w) st.units; slots = rw (← w) st.slots })

    -- ---- a call
    pub passes : (p : Patch) → patch_refusal t f p ≡ none → (most : ℕ) → most ≤ 2048 → (es : List Edit) → AllNamed t f most es → Accepted t f p es → examine_patch t f p most (map word_of es) ≡ Yes
    passes p acc most few es n a = (words-examined t f ta fa p acc most few (map word_of es)).yes-if.1 (es, refl, n, right-does p es a)

    -- between calls
    abbrev pub Held : Cache → Type 0
    Held c = CacheOk t f c × (c.made ≤ f.limit)

    -- a call names slots below N + L, and leaves such a cache
    abbrev pub Names : Cache → List Edit → Cache → Type 0
    Names c es c' = Held c → AllNamed t f f.limit es × Held c'

    pub call-names : (p : Patch) (room : ℕ) (c c' : Cache) (es : List Edit) (m : ℕ) → resolve t f p room c ≡ resolved es c' m → Names c es c'
    call-names p room c c' es m e h =
        let r = accepted t f p room c c' es m e in
        let b : c'.made ≤ f.limit = subst (λ (y : Cache). y.made ≤ f.limit) (sym r.cache) (made-within t f p (sorted t f p) c r.allocator h.1 r.ran).1 in (
          λ x k. named_more c'.made f.limit b x (edits-there p room c c' es m (λ z s q. h.0.made z s (yes_of _ q)) e x k),
          ((called t f ta fa (record { patch = p; room = room }) c h.0 (resolved es c' m) e).1, b),
        )

    none_named : (c : Cache) → Names c [] c
    none_named c h = (λ e m. absurd (Memᴰ.not-nil m), h)

    then-named : (c d c' : Cache) (es fs : List Edit) → Names c es d → Names d fs c' → Names c (es ++ fs) c'
    then-named c d c' es fs a b h =
        let x = a h in
        let y = b x.1 in
        (λ e m. ⊎_elim (x.0 e) (y.0 e) (mem-either es fs e m), y.1)

    pub groups-name : (p : Patch) (room : ℕ) (c c' : Cache) (es : List Edit) (m : ℕ) → resolve_by_groups t f p room c ≡ resolved es c' m → Names c es c'
    groups-name p room c c' es m e =
        parts-each t f room Names none_named (λ q c d c' es fs n e r. then-named c d c' es fs (call-names q room c d es n e) r) (parts t p) c c' es m
        (passed-whole t f p room c c' es m e).1

    call_passes : (p : Patch) (room : ℕ) (c : Cache) → Held c → (r : Answer) → resolve t f p room c ≡ r → Passes t f f.limit p r × Held (cache_after c r)
    call_passes p room c h (refused n) e = (tt, h)
    call_passes p room c h (resolved es c' m) e =
        let y = call-names p room c c' es m e h in
        (passes p (accepted-of t f p room c c' es m e) f.limit (low-limit t f fa) es y.0 (called t f ta fa (record { patch = p; room = room }) c h.0 (resolved es c' m) e).0, y.1)

    groups-pass : (p : Patch) (room : ℕ) (c : Cache) → Held c → (r : Answer) → resolve_by_groups t f p room c ≡ r → Passes t f f.limit p r × Held (cache_after c r)
    groups-pass p room c h (refused n) e = (tt, h)
    groups-pass p room c h (resolved es c' m) e =
        let y = groups-name p room c c' es m e h in
        (passes p (accepted-whole t f p room (passed-whole t f p room c c' es m e).0) f.limit (low-limit t f fa) es y.0 (grouped t f ta fa p room c h.0 (resolved es c' m) e).0, y.1)

    -- ---- every request
    held-single : (x : take.Request) (s : Served) → Previews t f s → Held s.now.cache → (o : Option Standing) → take.standing t f x s ≡ o → Held (stamped_by s.now o).cache
    held-single x s k h none e = h
    held-single x s k h (some y) e = ⊎_elim (λ q. rw q h) (λ q. (call_passes y.patch q.0 s.now.cache h y.answer q.1).1) (stands t f x s k y e)

    held_after : (x : Request) (s : Served) → Previews t f s → Held s.now.cache → Held (after t f x s).now.cache
    unfolding standing
    held_after (single x) s k h = held-single x s k h (take.standing t f x s) refl
    held_after (grouping p room) s k h = (groups-pass p room s.now.cache h (resolve_by_groups t f p room s.now.cache) refl).1

    held_all : (l : List Request) (s : Served) → Previews t f s → Held s.now.cache → Held (after_all t f l s).now.cache
    unfolding after_all
    held_all [] s k h = h
    held_all (x ∷ l) s k h = held_all l (after t f x s) (previews-after t f x s k) (held_after x s k h)

    requests-pass : (s : Served) → Previews t f s → Held s.now.cache → (x : Request) → AllPass t f f.limit (handed t f x s)
    unfolding handed
    requests-pass s k h (single (resolving p room)) = (call_passes p room s.now.cache h (resolve t f p room s.now.cache) refl).0
    requests-pass s k h (single (asking p room)) = (call_passes p room s.now.cache h (resolve t f p room s.now.cache) refl).0
    requests-pass s k h (grouping p room) = (groups-pass p room s.now.cache h (resolve_by_groups t f p room s.now.cache) refl).0
    requests-pass s k h (single (taking n)) = go (get_or s.asked n none) refl
      where
        go : (o : Option Preview) → get_or s.asked n none ≡ o → AllPass t f f.limit (taken_of o s.now)
        go none e = tt
        go (some a) e = ⊎_elim (λ q. rw q tt) (λ q. (call_passes a.patch a.room s.now.cache h (take_answer a s.now) q).0) (is_call t f s k n a e)

pub edits-named : EditsNamed
edits-named t f ta fa = edits-there t f ta fa

pub ours : Ours
ours t f ta fa l x =
    requests-pass t f ta fa (reached t f l) (previews-all t f l fresh (previews-fresh t f)) (held_all t f ta fa l fresh (previews-fresh t f) (cache-fresh t f ta fa, omega arith)) x
