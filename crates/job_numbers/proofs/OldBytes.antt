-- "any accepted job read and written again has its old bytes": part by part.
use Prim.Native.Nat.{ℕ, zero, suc, ◌+◌}
use mathlib.Core.Path.{◌≡◌, refl, sym, ap, ◌∙◌}
use mathlib.Core.Bool.{Bool, true, false}
use mathlib.Core.List.{List, [], ◌∷◌, ◌++◌, append_assoc, append-nil}
use native.Mathlib.Omega.{arith}
use lib.Dec.{eqb, ltb, leb}
use lib.ListN.{length}
use borrow.Author.Tests.{eqb-true, eqb-false, ltb-true}
use Rattle.entity.specs.Logic.{pick}
use Rattle.entity.specs.Place.{Place, code_of, place_at}
use Rattle.entity.proofs.Laws.{code-there}
use Rattle.reginfo.specs.RegInfo.{Bank, Reg, Class, RegInfo, bank_for_class}
use Rattle.reginfo.specs.Refused.{first_of, target_refusal}
use Rattle.function.specs.Function.{ValueData, Function, num_values}
use Rattle.rules.specs.Patch.{Entry, move, remat, Patch, Sorted, nothing_sorted, names_place, entry_conditions, add, sorted, patch_conditions}
use Rattle.number.specs.Read.{Read, got, then}
use Rattle.number.specs.Number.{Bytes}
use Rattle.reading.specs.Reading.{below}
use Rattle.job_target.specs.Target.{Counted, bank, reg, class, classes, target}
use Rattle.job_function.specs.Reads.{remat_value, value, valued, function}
use Rattle.job_function.proofs.Accepted.{tested-got}
use Rattle.job_patch.specs.Patches.{rising, place, entry, entries, patch}
use Rattle.job_rules.specs.Job.{Header, after_target, header, opening}
use Rattle.job_rules.proofs.WasRead.{early-got, given-got}
use Rattle.job_numbers.specs.Numbers.{Job, each_of, bank_numbers, reg_numbers, class_numbers, target_numbers, value_numbers, function_numbers, entry_numbers, patch_numbers, patches_numbers, job_numbers, bytes_of, read_patches, read_job}
use Rattle.job_numbers.specs.Claim.{OldBytes}
use Rattle.job_numbers.proofs.Stands.{Stands, join, nothing, made, where-read, unless-read, tested-stands, after, number-then, tested-then, distinct-then, times-then}

-- ---- the target
bank-stands : (l : List ℕ) (b : Bank) (r : List ℕ) → Bytes l → bank l ≡ got b r → Stands (bank_numbers b) l r
unfolding bank
bank-stands l b r h e =
    tested-then _ l _ h e
    (λ size q a e. number-then q _ a.rest e
    (λ top p c e. number-then p _ c.rest e
    (λ stack o d e. made (λ b r. Stands (bank_numbers b) l r) e (join a (join c d)))))

reg-stands : (units banks : ℕ) (l : List ℕ) (x : Reg) (r : List ℕ) → Bytes l → reg units banks l ≡ got x r → Stands (reg_numbers x) l r
unfolding reg
reg-stands units banks l x r h e =
    tested-then _ l _ h e
    (λ memory q a e. tested-then _ q _ a.rest e
    (λ b p c e. tested-then _ p _ c.rest e
    (λ n o d e. distinct-then n units o _ d.rest e
    (λ us k m f e. made (λ x r. Stands (reg_numbers x) l r) e (rw m (join a (join c (join d f))))))))

class-stands : (banks regs total : ℕ) (l : List ℕ) (x : Counted) (r : List ℕ) → Bytes l → class banks regs total l ≡ got x r
    → Stands (class_numbers x.class) l r
unfolding class
class-stands banks regs total l x r h e =
    tested-then _ l _ h e
    (λ b q a₁ e. tested-then _ q _ a₁.rest e
    (λ slots p a₂ e. number-then p _ a₂.rest e
    (λ n o a₃ e. distinct-then n regs o _ a₃.rest e
    (λ members k ms a₄ e. tested-then _ k _ a₄.rest e
    (λ m j a₅ e. distinct-then m regs j _ a₅.rest e
    (λ order i os a₆ e. made (λ x r. Stands (class_numbers x.class) l r) e (rw (ms, os) (join a₁ (join a₂ (join (join a₃ a₄) (join a₅ a₆)))))))))))

classes-stands : (n banks regs total : ℕ) (l : List ℕ) (cs : List Class) (r : List ℕ) → Bytes l → classes n banks regs total l ≡ got cs r
    → (length cs ≡ n) × Stands (each_of class_numbers cs) l r
unfolding classes each_of
classes-stands zero banks regs total l cs r h e = made (λ cs r. (length cs ≡ 0) × Stands (each_of class_numbers cs) l r) e (refl, nothing l h)
classes-stands (suc n) banks regs total l cs r h e =
    after (class banks regs total l) _ e
    (λ c q is e. after (classes n banks regs c.total q) _ e
    (λ xs p on e. let a = class-stands banks regs total l c q h is in
    let b = classes-stands n banks regs c.total q xs p a.rest on in
    made (λ cs r. (length cs ≡ suc n) × Stands (each_of class_numbers cs) l r) e (ap suc b.0, join a b.1)))

target-stands : (l : List ℕ) (t : RegInfo) (r : List ℕ) → Bytes l → target l ≡ got t r → Stands (target_numbers t) l r
unfolding target target_numbers
target-stands l t r h e =
    tested-then _ l _ h e
    (λ units q a₁ e. tested-then _ q _ a₁.rest e
    (λ n p a₂ e. times-then bank bank_numbers bank-stands n p _ a₂.rest e
    (λ banks o bs a₃ e. tested-then _ o _ a₃.rest e
    (λ m k a₄ e. times-then (reg units n) reg_numbers (reg-stands units n) m k _ a₄.rest e
    (λ regs j rs a₅ e. tested-then _ j _ a₅.rest e
    (λ c i a₆ e. after (classes c n m 0 i) _ e
    (λ xs o is e. let a₇ = classes-stands c n m 0 i xs o a₆.rest is in
    made (λ t r. Stands (target_numbers t) l r) e (rw (bs, rs, a₇.0) (join a₁ (join a₂ (join a₃ (join a₄ (join a₅ (join a₆ a₇.1))))))))))))))

-- ---- the function
value-stands : (t : RegInfo) (l : List ℕ) (v : ValueData) (r : List ℕ) → Bytes l → value t l ≡ got v r → Stands (value_numbers v) l r
unfolding value remat_value
value-stands t l v r h e = tested-then _ l _ h e (λ b q a e. tested-then _ q _ a.rest e (λ cost p c e. go b q a cost p c (eqb cost 0) refl e))
  where
    go : (b : ℕ) (q : List ℕ) → Stands (b ∷ []) l q → (cost : ℕ) (p : List ℕ) → Stands (cost ∷ []) q p → (z : Bool) → eqb cost 0 ≡ z
        → pick z (got (record { bank = b; cost = 0; class = 0 }) p) (remat_value t b cost p) ≡ got v r → Stands (value_numbers v) l r
    go b q a cost p c true z e = made (λ v r. Stands (value_numbers v) l r) e (rw (eqb-true cost 0 z) at (join a c))
    go b q a cost p c false z e =
        tested-then _ p _ c.rest e
        (λ k o d e. made (λ v r. Stands (value_numbers v) l r) (where-read (eqb (bank_for_class t k) b) 9 _ v r e) (rw z (join a (join c d))))

function-stands : (t : RegInfo) (kept : ℕ) (l : List ℕ) (f : Function) (r : List ℕ) → Bytes l → function t kept l ≡ got f r
    → Stands (function_numbers f) l r
unfolding function valued function_numbers
function-stands t kept l f r h e =
    tested-then _ l _ h e
    (λ n q a₁ e. tested-then _ q _ a₁.rest e
    (λ slots p a₂ e. tested-then _ p _ a₂.rest e
    (λ limit o a₃ e. times-then (value t) value_numbers (value-stands t) n o _ a₃.rest e
    (λ vs k m a₄ e. made (λ f r. Stands (function_numbers f) l r) e (rw m (join a₁ (join a₂ (join a₃ a₄))))))))

-- ---- a patch
rising-stands : (n limit least : ℕ) (l xs r : List ℕ) → Bytes l → rising n limit least l ≡ got xs r → (length xs ≡ n) × Stands xs l r
unfolding rising
rising-stands zero limit least l xs r h e = made (λ xs r. (length xs ≡ 0) × Stands xs l r) e (refl, nothing l h)
rising-stands (suc n) limit least l xs r h e =
    tested-then _ l _ h e
    (λ u q a e. after (rising n limit (u + 1) q) _ (unless-read (ltb u least) 3 _ xs r e)
    (λ us p on e. let b = rising-stands n limit (u + 1) q us p a.rest on in
    made (λ xs r. (length xs ≡ suc n) × Stands xs l r) e (ap suc b.0, join a b.1)))

module _ (t : RegInfo) (f : Function) where
  place-stands : (l : List ℕ) (p : Place) (r : List ℕ) → Bytes l → place t f l ≡ got p r → Stands (code_of p ∷ []) l r
  unfolding place
  place-stands l p r h e =
      number-then l _ h e
      (λ c q a e. made (λ p r. Stands (code_of p ∷ []) l r) (where-read (names_place t f (place_at c)) 2 _ p r e) (rw (code-there c) a))

  place-then : {B C : Type 0} {y : B} {r : List ℕ} (l : List ℕ) (next : Place → List ℕ → Read B) → Bytes l → then (place t f l) next ≡ got y r
      → ((p : Place) (q : List ℕ) → Stands (code_of p ∷ []) l q → next p q ≡ got y r → C) → C
  place-then l next h e on = after (place t f l) next e (λ p q is more. on p q (place-stands l p q h is) more)

  entry-stands : (l : List ℕ) (x : Entry) (r : List ℕ) → Bytes l → entry t f l ≡ got x r → Stands (entry_numbers x) l r
  unfolding entry
  entry-stands l x r h e =
      after (below 2 l) _ e
      (λ kind q is e. go kind q (tested-stands _ l kind q h is) (tested-got (λ n. ltb n 2) l kind q is) (eqb kind 0) refl e)
    where
      go : (kind : ℕ) (q : List ℕ) → Stands (kind ∷ []) l q → ltb kind 2 ≡ true → (z : Bool) → eqb kind 0 ≡ z
          → pick z (then (place t f q) (λ s q. then (place t f q) (λ d p. then (below (num_values f) p) (λ v o. got (move s d v) o))))
          (then (place t f q) (λ d q. then (below (num_values f) q) (λ v p. got (remat d v) p))) ≡ got x r
          → Stands (entry_numbers x) l r
      go kind q a b true z e =
          let k : kind ≡ 0 = eqb-true kind 0 z in
          place-then q _ a.rest e
          (λ s p c e. place-then p _ c.rest e
          (λ d o g e. tested-then _ o _ g.rest e
          (λ v m i e. made (λ x r. Stands (entry_numbers x) l r) e (rw k at (join a (join c (join g i)))))))
      go kind q a b false z e =
          let k : kind ≡ 1 = omega (arith, ltb-true kind 2 b, eqb-false kind 0 z) in
          place-then q _ a.rest e
          (λ d o g e. tested-then _ o _ g.rest e
          (λ v m i e. made (λ x r. Stands (entry_numbers x) l r) e (rw k at (join a (join g i)))))

  entries-stands : (n : ℕ) (s : Sorted) (l : List ℕ) (es : List Entry) (r : List ℕ) → Bytes l → entries t f n s l ≡ got es r
      → (length es ≡ n) × Stands (each_of entry_numbers es) l r
  unfolding entries each_of
  entries-stands zero s l es r h e = made (λ es r. (length es ≡ 0) × Stands (each_of entry_numbers es) l r) e (refl, nothing l h)
  entries-stands (suc n) s l es r h e =
      after (entry t f l) _ (unless-read (leb 128 s.count) 15 _ es r e)
      (λ x q is e. after (entries t f n (add t f x s) q) _ (given-got (first_of (entry_conditions t f s x)) _ es r e).1
      (λ xs p on e. let a = entry-stands l x q h is in
      let b = entries-stands n (add t f x s) q xs p a.rest on in
      made (λ es r. (length es ≡ suc n) × Stands (each_of entry_numbers es) l r) e (ap suc b.0, join a b.1)))

  patch-stands : (l : List ℕ) (x : Patch) (r : List ℕ) → Bytes l → patch t f l ≡ got x r → Stands (patch_numbers x) l r
  unfolding patch
  patch-stands l x r h e =
      number-then l _ h e
      (λ k q a₁ e. after (rising k t.units 0 q) _ e
      (λ free p is e. let a₂ = rising-stands k t.units 0 q free p a₁.rest is in
      number-then p _ a₂.1.rest e
      (λ n o a₃ e. after (entries t f n nothing_sorted o) _ e
      (λ es m on e. let a₄ = entries-stands n nothing_sorted o es m a₃.rest on in
      made (λ x r. Stands (patch_numbers x) l r) e (rw (a₂.0, a₄.0) (join (join a₁ a₂.1) (join a₃ a₄.1)))))))

  -- the patches are the last
  patches-stand : (n : ℕ) (l : List ℕ) (ps : List Patch) (r : List ℕ) → Bytes l → read_patches t f n l ≡ got ps r
      → (length ps ≡ n) × (r ≡ []) × Stands (each_of patch_numbers ps) l r
  unfolding read_patches each_of
  patches-stand zero [] ps r h e = made (λ ps r. (length ps ≡ 0) × (r ≡ []) × Stands (each_of patch_numbers ps) [] r) e (refl, refl, nothing [] h)
  patches-stand zero (b ∷ l) ps r h e = absurd (let z : ◌≡◌ {A = ℕ} 0 1 = cc in omega arith)
  patches-stand (suc n) l ps r h e =
      after (patch t f l) _ e
      (λ p q is e. after (read_patches t f n q) _ (given-got (first_of (patch_conditions t f p 1024 (sorted t f p))) _ ps r e).1
      (λ xs o on e. let a = patch-stands l p q h is in
      let b = patches-stand n q xs o a.rest on in
      made (λ ps r. (length ps ≡ suc n) × (r ≡ []) × Stands (each_of patch_numbers ps) l r) e (ap suc b.0, b.1, join a b.2)))

-- ---- the job
abbrev header_numbers : Header → List ℕ
header_numbers x = target_numbers x.target ++ (function_numbers x.function ++ (x.patches ∷ []))

opening-stands : (kept : ℕ) (l : List ℕ) (x : Header) (r : List ℕ) → Bytes l → opening kept l ≡ got x r → Stands (header_numbers x) l r
unfolding opening header after_target
opening-stands kept l x r h e =
    after (target l) _ (early-got kept l _ x r e).2
    (λ t q is e. let a = target-stands l t q h is in
    after (function t kept q) _ (given-got (target_refusal t) _ x r e).1
    (λ f p on e. let b = function-stands t kept q f p a.rest on in
    tested-then _ p _ b.rest e
    (λ n o c e. made (λ x r. Stands (header_numbers x) l r) e (join a (join b c)))))

pub job-stands : (l : List ℕ) (j : Job) (r : List ℕ) → Bytes l → read_job l ≡ got j r → (r ≡ []) × Stands (job_numbers j) l r
unfolding read_job job_numbers patches_numbers
job-stands l j r h e =
    after (opening 1 l) _ e
    (λ x q is e. let a = opening-stands 1 l x q h is in
    after (read_patches x.target x.function x.patches q) _ e
    (λ ps o on e. let b = patches-stand x.target x.function x.patches q ps o a.rest on in
    let c : Stands (header_numbers x ++ each_of patch_numbers ps) l o = join a b.2 in
    made (λ j r. (r ≡ []) × Stands (job_numbers j) l r) e (b.1, rw b.0 (simp append_assoc at c))))

pub old-bytes : OldBytes
old-bytes l j r h e =
    let w = job-stands l j r h e in
    (w.0, sym (w.1.is ∙ ap (λ (q : List ℕ). bytes_of (job_numbers j) ++ q) w.0 ∙ append-nil (bytes_of (job_numbers j))))
