-- 02 e: what the program prints, of its arguments and a job.
use Rattle.std.specs.Prelude.{ℕ, suc, ◌≡◌, Bool, List, [], ◌∷◌, map, eqb, length}
use Rattle.entity.specs.Logic.{pick, or}
use Rattle.edit.specs.Word.{word_of}
use Rattle.price.specs.declared.Prices.{Prices}
use Rattle.number.specs.Read.{Read, got, refused}
use Rattle.print.specs.Text.{refused_line}
use Rattle.job_rules.specs.Job.{Header, Done, job}
use Rattle.job_rules.specs.Priced.{opening_priced}
use Rattle.edges.specs.Patches.{patch_numbered, nth}
use Rattle.answer.specs.Words.{words_of, number_of, AllPacked}
use Rattle.price_text.specs.Lines.{edges_text}

-- ---- run counts are none or as many as the patch count, else 2 when that is read
abbrev pub runs_fit : (given patches : ℕ) → Bool
runs_fit given patches = or (eqb given 0) (eqb given patches)

-- the words of the edits of each patch that was resolved
abbrev pub words_done : List Done → List (List ℕ)
words_done ds = map (λ d. map word_of d.edits) ds

module _ (p : Prices) (runs : List ℕ) (kept : ℕ) (s : List ℕ) where
  abbrev pub prices_done : List ℕ
  prices_done = edges_text p runs 0 (words_done (job kept s).done) (number_of (job kept s).refusal)

  abbrev pub after_opening : Read Header → List ℕ
  after_opening (refused k) = refused_line k
  after_opening (got h r) = pick (runs_fit (length runs) h.patches) prices_done (refused_line 2)

  -- all that is printed
  abbrev pub job_prices : List ℕ
  job_prices = after_opening (opening_priced p kept s)

-- in the words of a job's answer the patch of a number is that of the patches resolved: so its price, asked for by number, is that of its edits
abbrev pub EdgesOfAnswer : Type 0
EdgesOfAnswer =
    (kept : ℕ) (s : List ℕ) → AllPacked (job kept s).done → (n : ℕ)
    → patch_numbered (suc n) (words_of (job kept s).done) ≡ nth n (words_done (job kept s).done)
