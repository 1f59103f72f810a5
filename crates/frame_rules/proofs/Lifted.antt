-- A call with other slot numbers, and a call with more slots.
use Prim.Native.Nat.{ℕ, ◌+◌, ◌<◌, ◌≤◌}
use mathlib.Core.Path.{◌≡◌, refl, sym, ap, ◌∙◌}
use mathlib.Core.Bool.{true, false}
use mathlib.Core.List.{List, [], ◌∷◌, map}
use mathlib.Core.Option.{Option, none, some}
use mathlib.Core.Logic.{◌⊎◌, inl, inr, ⊎_elim}
use native.Mathlib.Omega.{arith}
use borrow.Author.Tests.{ltb-true}
use Rattle.entity.specs.Logic.{meets}
use Rattle.entity.specs.Place.{Place, reg, slot}
use Rattle.reginfo.specs.RegInfo.{RegInfo, overlap}
use Rattle.reginfo.specs.Refused.{first_of}
use Rattle.reginfo.specs.Refused as target
use Rattle.function.specs.Function.{Function, value_bank, remat_cost, remat_class}
use Rattle.rules.specs.Scratch.{Cache, ScratchAllocator}
use Rattle.rules.specs.Patch.{Entry, move, remat, Patch, Sorted, nothing_sorted, Answer, refused, resolved, answer_of, names_place, add, sorted_from, sorted, destinations, entry_conditions, patch_conditions, run, resolve_sorted, resolve_from, resolve}
use Rattle.rules.specs.Refusals.{with_limit}
use Rattle.rules.specs.Order.{no_remat}
use Rattle.rules.specs.Sorted.{SortedOk}
use Rattle.rules.proofs.Accepted.{sorted-add}
use Rattle.rules.proofs.Limit.{by-limit, made-within}
use Rattle.rules.proofs.Steps.{every-get_d}
use Rattle.machine.proofs.Premises.{reg-low}
use Rattle.frame_rules.specs.Renamed.{ren_place, ren_edit}
use Rattle.frame_rules.proofs.Unread.{add_same}
use Rattle.frame_rules.proofs.Rename as rename
use Rattle.frame_rules.proofs.Rename.{map_o, Stays, run-like}

-- renamed, with a counter higher by d
abbrev pub ren_cache : (ℕ → ℕ) → ℕ → Cache → Cache
ren_cache ρ d c = record { stacks = λ z. map ρ (c.stacks z); made = c.made + d }

abbrev pub ren_answer : (ℕ → ℕ) → ℕ → Answer → Answer
ren_answer ρ d (refused n) = refused n
ren_answer ρ d (resolved es c n) = resolved (map (ren_edit ρ) es) (ren_cache ρ d c) n

module _ (t : RegInfo) (f : Function) where
  abbrev W : ℕ → Function
  W l = with_limit t f l

  -- the tests of a patch read no L and no cache: either one of them refuses, or the run answers
  abbrev Refuses : Patch → ℕ → List Entry → Sorted → Type 0
  Refuses p room es a = (n : ℕ) × ((l : ℕ) (c : Cache) → resolve_from t (W l) p room c es a ≡ refused n)

  abbrev Runs : Patch → ℕ → List Entry → Sorted → Type 0
  Runs p room es a = SortedOk t f (sorted_from t f es a) × ((l : ℕ) (c : Cache) → resolve_from t (W l) p room c es a ≡ answer_of (run t (W l) p (sorted_from t f es a) c))

  entry-same : (l : ℕ) (a : Sorted) (e : Entry) → entry_conditions t (W l) a e ≡ entry_conditions t f a e
  unfolding entry_conditions value_bank remat_cost remat_class
  entry-same l a (move s d v) = refl
  entry-same l a (remat d v) = refl

  patch-same : (l : ℕ) (p : Patch) (room : ℕ) (a : Sorted) → patch_conditions t (W l) p room a ≡ patch_conditions t f p room a
  unfolding patch_conditions remat_class
  patch-same l p room a = refl

  decided : (p : Patch) (room : ℕ) (es : List Entry) (a : Sorted) → SortedOk t f a → Refuses p room es a ⊎ Runs p room es a
  unfolding resolve_from resolve_sorted sorted_from
  decided p room [] a ok = go (first_of (patch_conditions t f p room a)) refl
    where
      go : (o : Option ℕ) → first_of (patch_conditions t f p room a) ≡ o → Refuses p room [] a ⊎ Runs p room [] a
      go (some n) e = inl (n, λ l c. rw (patch-same l p room a, e) refl)
      go none e = inr (ok, λ l c. rw (patch-same l p room a, e) refl)
  decided p room (x ∷ es) a ok = go (first_of (entry_conditions t f a x)) refl (λ k. decided p room es (add t f x a) k)
    where
      go : (o : Option ℕ) → first_of (entry_conditions t f a x) ≡ o → (SortedOk t f (add t f x a) → Refuses p room es (add t f x a) ⊎ Runs p room es (add t f x a))
          → Refuses p room (x ∷ es) a ⊎ Runs p room (x ∷ es) a
      go (some n) e on = inl (n, λ l c. rw (entry-same l a x, e) refl)
      go none e on =
          ⊎_elim (λ h. inl (h.0, λ l c. rw (entry-same l a x, e, ← add_same t f l x a) (h.1 l c))) (λ h. inr (h.0, λ l c. rw (entry-same l a x, e, ← add_same t f l x a) (h.1 l c)))
          (on (sorted-add t f x a ok e))

  pub decide : (p : Patch) (room : ℕ)
      → ((n : ℕ) × ((l : ℕ) (c : Cache) → resolve t (W l) p room c ≡ refused n)) ⊎ (SortedOk t f (sorted t f p) × ((l : ℕ) (c : Cache) → resolve t (W l) p room c ≡ answer_of (run t (W l) p (sorted t f p) c)))
  unfolding resolve destinations
  decide p room =
      decided p room p.entries nothing_sorted
      (record { moves = λ i l. absurd (omega arith); remats = λ i l. absurd (omega arith); remats_with_scratch = λ i l. absurd (omega arith); apart = λ i k l. absurd (omega arith); sources = λ i k l. absurd (omega arith) })

  -- ---- with more slots
  more-run : (p : Patch) (a : Sorted) (c : Cache) (l m : ℕ) → c.made ≤ l → l ≤ m → (o : Option ScratchAllocator) → run t (W l) p a c ≡ o → (o ≡ none) ⊎ (run t (W m) p a c ≡ o)
  more-run p a c l m lo hi none e = inl refl
  more-run p a c l m lo hi (some k) e = let w = made-within t (W l) p a c k lo e in inr ((by-limit t (W m) l p a c k e).same (inl (omega (arith, w.1, hi))))

  -- unless it is out of slots, a call with more is answered the same
  pub resolve-more : (p : Patch) (room : ℕ) (c : Cache) (l m : ℕ) → c.made ≤ l → l ≤ m → (resolve t (W l) p room c ≡ refused 17) ⊎ (resolve t (W m) p room c ≡ resolve t (W l) p room c)
  resolve-more p room c l m lo hi =
      ⊎_elim (λ h. inr (h.1 m c ∙ sym (h.1 l c)))
      (λ h. ⊎_elim (λ q. inl (h.1 l c ∙ ap answer_of q)) (λ q. inr (h.1 m c ∙ ap answer_of q ∙ sym (h.1 l c))) (more-run p (sorted t f p) c l m lo hi (run t (W l) p (sorted t f p) c) refl))
      (decide p room)

  -- ---- with other numbers
  module _ (at : target.Accepted t) (ρ : ℕ → ℕ) (d l : ℕ) (c : Cache)
      (stays : (s : ℕ) → s < f.slots → ρ s ≡ s) (later : (k : ℕ) → c.made ≤ k → ρ (f.slots + k) ≡ f.slots + (k + d))
    where
      apart : (s r : ℕ) → overlap t (slot s) (reg r) ≡ false
      unfolding meets
      apart s r = rw (reg-low t f at r s) refl

      named-stays : (p : Place) → names_place t f p ≡ true → ren_place ρ p ≡ p
      named-stays (reg r) e = refl
      named-stays (slot s) e = ap slot (stays s (ltb-true s f.slots e))

      answer-like : (o : Option ScratchAllocator) → answer_of (map_o (rename.ren t (W l) ρ c.made d) o) ≡ ren_answer ρ d (answer_of o)
      unfolding map_o
      answer-like none = refl
      answer-like (some k) = refl

      pub resolve-like : (p : Patch) (room : ℕ) → resolve t (W (l + d)) p room (ren_cache ρ d c) ≡ ren_answer ρ d (resolve t (W l) p room c)
      unfolding Stays
      resolve-like p room =
          ⊎_elim (λ h. h.1 (l + d) (ren_cache ρ d c) ∙ ap (ren_answer ρ d) (sym (h.1 l c)))
          (λ h. h.1 (l + d) (ren_cache ρ d c)
          ∙ ap answer_of (like h.0).is
          ∙ answer-like (run t (W l) p (sorted t f p) c) ∙ ap (ren_answer ρ d) (sym (h.1 l c))) (decide p room)
        where
          like : SortedOk t f (sorted t f p) → rename.Like t (W l) ρ c.made d (rename.ren t (W l) ρ c.made d) (rename.of_keeper t (W l) ρ c.made d later apart) (run t (W l) p (sorted t f p) c) (run t (W (l + d)) p (sorted t f p) (ren_cache ρ d c))
          like ok =
              run-like t (W l) ρ c.made d later apart p (sorted t f p) (λ i h. named-stays _ (ok.moves i h).source-named) (λ i h. named-stays _ (ok.moves i h).dest-named)
              (every-get_d _ no_remat (sorted t f p).remats (λ i h. named-stays _ (ok.remats i h).dest-named))
              (every-get_d _ no_remat (sorted t f p).remats_with_scratch (λ i h. named-stays _ (ok.remats_with_scratch i h).dest-named)) c (omega arith)
