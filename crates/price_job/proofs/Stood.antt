-- The words that a job was answered with, and the text that they have.
use Prim.Native.Nat.{ℕ, ◌<◌, ◌≤◌}
use mathlib.Core.Path.{◌≡◌, refl, sym, subst}
use mathlib.Core.Bool.{true}
use mathlib.Core.List.{List}
use mathlib.Core.Option.{Option, none, some}
use native.Mathlib.Omega.{arith}
use lib.ListN.{length, take, drop, length-append, length-map}
use lib.Seq.{take-append_seam, length-take-le}
use Rattle.price.specs.declared.Prices.{Prices}
use Rattle.price.specs.Price.{in_range}
use Rattle.print.specs.Put.{Room}
use Rattle.edges.specs.Patches.{patches_of}
use Rattle.job_rules.specs.Job.{Answers, job}
use Rattle.answer.specs.Words.{words_of, number_of, AllPacked}
use Rattle.answer.specs.Room.{job_in}
use Rattle.answer.specs.Whole.{ended, Wholly}
use Rattle.answer.specs.declared.Whole.{Whole}
use Rattle.answer.specs.declared.Whole.TheVariants.{Answered, Refused}
use Rattle.answer.proofs.MostWords.{most-words}
use Rattle.answer.proofs.Numbers.{table-bounds, numbered}
use Rattle.price_text.specs.Lines.{edges_text}
use Rattle.price_job.specs.Text.{words_done, prices_done}
use Rattle.price_job.proofs.Done.{few-done, patches-done}
use Rattle.price_job.proofs.Lengths.{text-short}

-- ---- the number of a refusal is small
number_small : (kept : ℕ) (s : List ℕ) → number_of (job kept s).refusal < 256
number_small kept s = go (job kept s).refusal refl
  where
    go : (o : Option ℕ) → (job kept s).refusal ≡ o → number_of o < 256
    go none e = omega arith
    go (some n) e = omega (arith, (table-bounds n (numbered kept s n e)).1)

-- ---- what the answer tells
tells : (o : Option ℕ) (m k n : ℕ) → Refused k n ≡ ended o m → (k ≡ number_of o) × (n ≡ m)
tells none m k n e = absurd (let z : ◌≡◌ {A = ℕ} 0 1 = cc in omega arith)
tells (some j) m k n e = (cc, cc)

tells_none : (o : Option ℕ) (m n : ℕ) → Answered n ≡ ended o m → (0 ≡ number_of o) × (n ≡ m)
tells_none none m n e = (refl, cc)
tells_none (some j) m n e = absurd (let z : ◌≡◌ {A = ℕ} 0 1 = cc in omega arith)

module _ (kept : ℕ) (s words words' : List ℕ) (long : length words ≡ 132096) where
  -- so many words are those of the job's patches, and k is its number
  pub record Stood (n k : ℕ) : Type 0 where
    pub number : k ≡ number_of (job kept s).refusal
    pub fits : n ≤ length words'
    pub few : n < 4294967296
    pub are : take n words' ≡ words_of (job kept s).done
    pub packed : AllPacked (job kept s).done

  stands : (n k : ℕ) (r : Whole) → k ≡ number_of (job kept s).refusal → n ≡ length (words_of (job kept s).done) → Wholly words (job kept s) r words' → Stood n k
  stands n k r a b w =
      let all : List ℕ = words_of (job kept s).done in
      record {
        number = a;
        fits = rw (w.stands, b) (omega (arith, length-append all (drop (length all) words)));
        few = omega (arith, b, w.fits, long);
        are = rw (w.stands, b) (take-append_seam all (drop (length all) words));
        packed = w.packed;
      }

  whole : (r : Whole) → Wholly words (job_in (length words) kept s) r words' → Wholly words (job kept s) r words'
  whole r w = subst (λ (a : Answers). Wholly words a r words') (most-words (length words) (omega (arith, long)) kept s) w

  pub answered : (n : ℕ) → Wholly words (job_in (length words) kept s) (Answered n) words' → Stood n 0
  answered n w =
      let v = whole (Answered n) w in
      let t = tells_none (job kept s).refusal (length (words_of (job kept s).done)) n v.is in
      stands n 0 (Answered n) t.0 t.1 v

  pub refused : (k n : ℕ) → Wholly words (job_in (length words) kept s) (Refused k n) words' → Stood n k
  refused k n w =
      let v = whole (Refused k n) w in
      let t = tells (job kept s).refusal (length (words_of (job kept s).done)) k n v.is in
      stands n k (Refused k n) t.0 t.1 v

  module _ (n k : ℕ) (h : Stood n k) where
    pub cut : n ≡ length (take n words')
    cut = sym (length-take-le n words' h.fits)

    pub patches-stood : patches_of (take n words') ≡ words_done (job kept s).done
    patches-stood = rw h.are (patches-done (job kept s).done h.packed (few-done kept s).0)

    pub text-stood : (p : Prices) (runs : List ℕ) → edges_text p runs 0 (patches_of (take n words')) k ≡ prices_done p runs kept s
    text-stood p runs = rw (patches-stood, h.number)

    pub room-stood : (p : Prices) (runs out : List ℕ) → in_range p ≡ true → length out ≡ 131072 → Room out 0 (edges_text p runs 0 (patches_of (take n words')) k)
    room-stood p runs out ok e =
        let d : length (words_done (job kept s).done) ≡ length (job kept s).done = length-map (job kept s).done _ in
        let f = few-done kept s in
        let t = text-short p ok runs 0 (words_done (job kept s).done) (number_of (job kept s).refusal) (omega (arith, d, f.1)) f.0 (number_small kept s) in
        record { fits = rw (text-stood p runs) (omega (arith, t, d, f.1, e)) }
