-- 02 m: a word is an edit that names what there is exactly if it is that edit's word.
use mathlib.Core.Path.{◌≡◌, refl, sym, ◌∙◌, ap, ap₂, subst}
use mathlib.Core.Bool.{Bool, true, false, false≢true}
use mathlib.Core.List.{List, [], ◌∷◌, map, Memᴰ, cons≢nil}
use mathlib.Core.Option.{Option, none, some}
use Prim.Native.Nat.{ℕ, ◌+◌, ◌<◌, ◌≤◌}
use native.Mathlib.Omega.{arith}
use lib.Dec.{eqb, ltb}
use borrow.Author.Tests.{eqb-true, eq-eqb, ltb-true}
use Rattle.entity.specs.Logic.{pick, and}
use Rattle.entity.specs.Place.{Place, reg, slot, code_of, names}
use Rattle.entity.proofs.Laws.{and-true, never_true}
use Rattle.reginfo.specs.RegInfo.{RegInfo, num_regs}
use Rattle.reginfo.specs.Refused as target
use Rattle.reginfo.proofs.Accepted.{regs-fit}
use Rattle.function.specs.Function.{Function, num_values}
use Rattle.function.specs.Refused as function
use Rattle.function.proofs.Laws.{few-values, few-slots}
use Rattle.rules.specs.Edit.{Edit, Move, Rematerialize, EmergencySpill, EmergencyReload}
use Rattle.rules.specs.Patch.{Patch}
use Rattle.edit.specs.Word.{edit_of, word_of, InRange}
use Rattle.edit.proofs.Laws.{there}
use Rattle.examine_rules.specs.Examine.{Verdict, Yes, No, Refused, Does, Fails, named, examine, patch_refusal}
use Rattle.examine_rules.specs.Examined.{AllNamed, AnswersOf}
use Rattle.examine_rules.specs.Words.{only_if, edit_in, in_front_of, edits_in, examine_edits, examine_words, examine_patch, AnswersOfWords, WordsExamined}
use Rattle.examine_rules.proofs.Examined.{examined}

-- what is read is that word's edit
word-is : (o : Option Edit) (w : ℕ) (e : Edit) → only_if o w ≡ some e → word_of e ≡ w
unfolding only_if
word-is none w e h = let z : ◌≡◌ {A = ℕ} 0 1 = cc in absurd (omega arith)
word-is (some x) w e h = go (eqb (word_of x) w) refl h
  where
    go : (b : Bool) → eqb (word_of x) w ≡ b → pick b (some x) none ≡ some e → word_of e ≡ w
    go true q h = let is : x ≡ e = cc in ap word_of (sym is) ∙ eqb-true (word_of x) w q
    go false q h = let z : ◌≡◌ {A = ℕ} 0 1 = cc in absurd (omega arith)

word_read : (e : Edit) → InRange e → edit_in (word_of e) ≡ some e
unfolding only_if
word_read e r = rw (there e r, eq-eqb (word_of e) (word_of e) refl)

-- a list of words that are read
some-front : (o : Option Edit) (l : Option (List Edit)) (es : List Edit) → in_front_of o l ≡ some es → (e : Edit) × (es' : List Edit) × (o ≡ some e) × (l ≡ some es') × (es ≡ e ∷ es')
some-front none l es h = let z : ◌≡◌ {A = ℕ} 0 1 = cc in absurd (omega arith)
some-front (some e) none es h = let z : ◌≡◌ {A = ℕ} 0 1 = cc in absurd (omega arith)
some-front (some e) (some es') es h = (e, es', refl, refl, cc)

words_are : (ws : List ℕ) (es : List Edit) → edits_in ws ≡ some es → ws ≡ map word_of es
unfolding edits_in
words_are [] es h = let q : es ≡ [] = cc in rw q
words_are (w ∷ ws) es h =
    let x = some-front (edit_in w) (edits_in ws) es h in
    ap₂ ◌∷◌ (sym (word-is (edit_of w) w x.0 x.2)) (words_are ws x.1 x.3) ∙ ap (map word_of) (sym x.4)

-- each word is one of the edits
read-in : (ws : List ℕ) (es : List Edit) → edits_in ws ≡ some es → (w : ℕ) → Memᴰ w ws → (e : Edit) × Memᴰ e es × (edit_in w ≡ some e)
unfolding edits_in
read-in [] es h u x'' = elim x'' [ ]
read-in (w ∷ ws) es h u (Memᴰ.head k) =
    let x = some-front (edit_in w) (edits_in ws) es h in
    (x.0, subst (λ (l : List Edit). Memᴰ x.0 l) (sym x.4) (Memᴰ.head refl), ap edit_in k ∙ x.2)
read-in (w ∷ ws) es h u (Memᴰ.tail m) =
    let x = some-front (edit_in w) (edits_in ws) es h in
    let y = read-in ws x.1 x.3 u m in
    (y.0, subst (λ (l : List Edit). Memᴰ y.0 l) (sym x.4) (Memᴰ.tail y.1), y.2)

none_in : {A : Type 0} (e : Edit) (l : List Edit) → l ≡ [] → Memᴰ e l → A
none_in {A = A} e [] q x'' = elim x'' [ ]
none_in e (x ∷ l) q (Memᴰ.head k) = absurd (cons≢nil q)
none_in e (x ∷ l) q (Memᴰ.tail m) = absurd (cons≢nil q)

in-cons :
    (w : ℕ) (ws : List ℕ) (e x : Edit) (es : List Edit) → edit_in w ≡ some x → Memᴰ e (x ∷ es)
    → (Memᴰ e es → (u : ℕ) × Memᴰ u ws × (edit_in u ≡ some e)) → (u : ℕ) × Memᴰ u (w ∷ ws) × (edit_in u ≡ some e)
in-cons w ws e x es i (Memᴰ.head k) on = (w, Memᴰ.head refl, i ∙ ap some (sym k))
in-cons w ws e x es i (Memᴰ.tail m) on = let y = on m in (y.0, Memᴰ.tail y.1, y.2)

-- and each edit one of the words
in_words : (ws : List ℕ) (es : List Edit) → edits_in ws ≡ some es → (e : Edit) → Memᴰ e es → (w : ℕ) × Memᴰ w ws × (edit_in w ≡ some e)
unfolding edits_in
in_words [] es h e m = let q : es ≡ [] = cc in none_in e es q m
in_words (w ∷ ws) es h e m =
    let x = some-front (edit_in w) (edits_in ws) es h in
    in-cons w ws e x.0 x.1 x.2 (subst (λ (l : List Edit). Memᴰ e l) x.4 m) (in_words ws x.1 x.3 e)

-- a word that is none
none_read : (ws : List ℕ) → edits_in ws ≡ none → (w : ℕ) × Memᴰ w ws × (edit_in w ≡ none)
unfolding edits_in
none_read [] h = let z : ◌≡◌ {A = ℕ} 0 1 = cc in absurd (omega arith)
none_read (w ∷ ws) h = go (edit_in w) refl (edits_in ws) refl h (none_read ws)
  where
    go : (o : Option Edit) → edit_in w ≡ o → (l : Option (List Edit)) → edits_in ws ≡ l → in_front_of o l ≡ none → (edits_in ws ≡ none → (u : ℕ) × Memᴰ u ws × (edit_in u ≡ none))
        → (u : ℕ) × Memᴰ u (w ∷ ws) × (edit_in u ≡ none)
    go none i l k h on = (w, Memᴰ.head refl, i)
    go (some e) i none k h on = let y = on k in (y.0, Memᴰ.tail y.1, y.2)
    go (some e) i (some es) k h on = let z : ◌≡◌ {A = ℕ} 0 1 = cc in absurd (omega arith)

module _ (t : RegInfo) (f : Function) (ta : target.Accepted t) (fa : function.Accepted t f) (most : ℕ) (few : most ≤ 2048) where
  code-small : (p : Place) → names (num_regs t) (f.slots + most) p ≡ true → code_of p < 16384
  code-small (reg r) h = let l : r < num_regs t = ltb-true _ _ h in omega (arith, (regs-fit t ta).1)
  code-small (slot s) h = let l : s < f.slots + most = ltb-true _ _ h in omega (arith, few-slots t f fa)

  value-small : (v : ℕ) → ltb v (num_values f) ≡ true → v < 4096
  value-small v h = let l : v < num_values f = ltb-true _ _ h in omega (arith, few-values t f fa)

  pub in-range : (e : Edit) → named t f most e ≡ true → InRange e
  unfolding named
  in-range (Move to from v) h =
      let q = and-true (names (num_regs t) (f.slots + most) to) _ h in
      let r = and-true (names (num_regs t) (f.slots + most) from) _ q.1 in
      record { to-small = code-small to q.0; from-small = code-small from r.0; value-small = value-small v r.1 }
  in-range (Rematerialize to v) h =
      let q = and-true (names (num_regs t) (f.slots + most) to) _ h in
      record { to-small = code-small to q.0; from-small = omega arith; value-small = value-small v q.1 }
  in-range (EmergencySpill x r) h =
      let q = and-true (ltb x (f.slots + most)) (ltb r (num_regs t)) h in
      record { to-small = code-small (slot x) q.0; from-small = code-small (reg r) q.1; value-small = omega arith }
  in-range (EmergencyReload r x) h =
      let q = and-true (ltb x (f.slots + most)) (ltb r (num_regs t)) h in
      record { to-small = code-small (reg r) q.1; from-small = code-small (slot x) q.0; value-small = omega arith }

  named-read : (e : Edit) → named t f most e ≡ true → edit_in (word_of e) ≡ some e
  named-read e h = word_read e (in-range e h)

  pub all_read : (es : List Edit) → AllNamed t f most es → edits_in (map word_of es) ≡ some es
  unfolding edits_in
  all_read [] h = refl
  all_read (e ∷ es) h = rw (named-read e (h e (Memᴰ.head refl)), all_read es (λ x m. h x (Memᴰ.tail m)))

  module _ (p : Patch) (acc : patch_refusal t f p ≡ none) where
    abbrev for : (es : List Edit) → AnswersOf t f p most es
    for es = examined t f ta fa p acc most es

    -- the words of edits that name what there is
    pub of_words : (es : List Edit) → AllNamed t f most es → examine_patch t f p most (map word_of es) ≡ examine t f p most es
    unfolding examine_patch examine_words
    of_words es h = rw (acc, all_read es h)

    abbrev Unnamed : List ℕ → Type 0
    Unnamed ws = (w : ℕ) × Memᴰ w ws × ((e : Edit) → word_of e ≡ w → named t f most e ≡ true → ⊥)

    -- what was read is what was named
    same-edit : (w : ℕ) (e x : Edit) → edit_in w ≡ some e → word_of x ≡ w → named t f most x ≡ true → x ≡ e
    same-edit w e x i k n = let q : edit_in w ≡ some x = ap edit_in (sym k) ∙ named-read x n in cc

    of_none : (ws : List ℕ) → edits_in ws ≡ none → Unnamed ws
    of_none ws h = let y = none_read ws h in (y.0, y.1, λ e k n. let q : edit_in y.0 ≡ some e = ap edit_in (sym k) ∙ named-read e n in let r = y.2 in let z : ◌≡◌ {A = ℕ} 0 1 = cc in omega arith)

    of-unnamed : (ws : List ℕ) (es : List Edit) → edits_in ws ≡ some es → (e : Edit) → Memᴰ e es → named t f most e ≡ false → Unnamed ws
    of-unnamed ws es h e m n = let y = in_words ws es h e m in (y.0, y.1, λ x k i. false≢true (sym n ∙ ap (named t f most) (sym (same-edit y.0 e x y.2 k i)) ∙ i))

    unnamed-in : (ws : List ℕ) (es : List Edit) → edits_in ws ≡ some es → Unnamed ws → (e : Edit) × Memᴰ e es × (named t f most e ≡ false)
    unnamed-in ws es h u =
        let y = read-in ws es h u.0 u.1 in
        (y.0, y.1, never_true (named t f most y.0) (λ n. u.2 y.0 (word-is (edit_of u.0) u.0 y.0 y.2) n))

    -- by what the words are
    abbrev Reads : List ℕ → Verdict → Type 0
    Reads ws r = examine_edits t f p most (edits_in ws) ≡ r

    is_whole : (ws : List ℕ) → examine_patch t f p most ws ≡ examine_edits t f p most (edits_in ws)
    unfolding examine_patch examine_words
    is_whole ws = rw acc

    module _ (ws : List ℕ) where
      yes-words : (o : Option (List Edit)) → edits_in ws ≡ o → examine_edits t f p most o ≡ Yes → (es : List Edit) × (ws ≡ map word_of es) × AllNamed t f most es × Does t f p es
      yes-words none i e = let z : ◌≡◌ {A = ℕ} 0 1 = cc in absurd (omega arith)
      yes-words (some es) i e = let y = (for es).yes-if.0 e in (es, words_are ws es i, y.0, y.1)

      no_words : (o : Option (List Edit)) → edits_in ws ≡ o → examine_edits t f p most o ≡ No → (es : List Edit) × (ws ≡ map word_of es) × AllNamed t f most es × Fails t f p es
      no_words none i e = let z : ◌≡◌ {A = ℕ} 0 1 = cc in absurd (omega arith)
      no_words (some es) i e = let y = (for es).no-if.0 e in (es, words_are ws es i, y.0, y.1)

      refused-words : (n : ℕ) (o : Option (List Edit)) → edits_in ws ≡ o → examine_edits t f p most o ≡ Refused n → (n ≡ 24) × (w : ℕ) × Memᴰ w ws × ((e : Edit) → word_of e ≡ w → named t f most e ≡ true → ⊥)
      refused-words n none i e = let u = of_none ws i in (cc, u.0, u.1, u.2)
      refused-words n (some es) i e = let y = ((for es).refused-if n).0 e in let u = of-unnamed ws es i y.1 y.2 y.3 in (y.0, u.0, u.1, u.2)

      unnamed-words : (o : Option (List Edit)) → edits_in ws ≡ o → Unnamed ws → examine_edits t f p most o ≡ Refused 24
      unnamed-words none i u = refl
      unnamed-words (some es) i u = let y = unnamed-in ws es i u in ((for es).refused-if 24).1 (refl, y.0, y.1, y.2)

      pub answers : AnswersOfWords t f p most ws
      answers =
          record {
            yes-if = (λ e. yes-words (edits_in ws) refl (sym (is_whole ws) ∙ e), λ h. ap (examine_patch t f p most) h.1 ∙ of_words h.0 h.2 ∙ (for h.0).yes-if.1 (h.2, h.3));
            no-if = (λ e. no_words (edits_in ws) refl (sym (is_whole ws) ∙ e), λ h. ap (examine_patch t f p most) h.1 ∙ of_words h.0 h.2 ∙ (for h.0).no-if.1 (h.2, h.3));
            refused-if = λ n. (λ e. refused-words n (edits_in ws) refl (sym (is_whole ws) ∙ e), λ h. rw h.0 (is_whole ws ∙ unnamed-words (edits_in ws) refl (h.1, h.2, h.3)));
          }

pub words-examined : WordsExamined
words-examined t f ta fa p acc most few ws = answers t f ta fa most few p acc ws
