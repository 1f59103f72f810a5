-- 02 j of every list of calls: no call answers 17.
use Prim.Native.Nat.{ℕ, ◌+◌, ◌*◌, ◌<◌, ◌≤◌}
use mathlib.Core.Path.{◌≡◌, sym, ap, subst}
use mathlib.Core.List.{List, [], ◌∷◌}
use mathlib.Core.Option.{Option, none, some}
use mathlib.Core.Bool.{Bool, true, false}
use native.Mathlib.Omega.{arith}
use lib.Dec.{eqb}
use lib.ListN.{length, get_or}
use Rattle.entity.specs.Logic.{pick}
use Rattle.reginfo.specs.Table.{reg_info_of}
use Rattle.function.specs.Known.{Checked}
use Rattle.function.specs.Table.{function_of}
use Rattle.rules.specs.Scratch.{Cache}
use Rattle.rules.specs.Patch.{Answer, refused, resolved}
use Rattle.rules.specs.Take.{Preview, Counted, Served, fresh, take_answer, taken_of, answer_in}
use Rattle.machine.specs.Enough.{num_sizes}
use Rattle.machine.proofs.EnoughSlots.{never-out}
use Rattle.slots.specs.Stacks.{stamp_of}
use Rattle.parallel_moves.specs.declared.asking.Asked as A
use Rattle.parallel_moves.specs.declared.asking.TakeAnswer as K
use Rattle.parallel_moves.specs.Answers.{number_of, Gives, Asks}
use Rattle.calls.specs.Opening.{opened}
use Rattle.calls.specs.Claim as calls
use Rattle.calls.proofs.Claimed.{known}
use Rattle.calls.proofs.Enough.{free_other, setting}
use Rattle.request_claims.specs.Calls.{MadeAsk, MadeTake, Made, resolving, grouping, asking, taking, Held, holding, left, standing, answered, after}
use Rattle.request_claims.specs.Claim.{ruled, ruled_by_groups, TakeAnswered, Outcome, Claim}
use Rattle.request_claims.specs.Enough.{NotOut, NeverOut, EnoughWith, Enough, FewerEnough}
use Rattle.request_claims.proofs.Grouped.{groups-in}
use Rattle.request_claims.proofs.Claimed.{by-free, by-free-groups, Lies, AllLie, claimed}

-- a take answers no 17
take-other : (q : Option Preview) (c : Counted) → answer_in (taken_of q c) ≡ some (refused 17) → ⊥
unfolding take_answer
take-other none c e = let z : ◌≡◌ {A = ℕ} 0 1 = cc in absurd (omega arith)
take-other (some a) c e = go (eqb a.count c.count) e
  where
    go : (b : Bool) → some (pick b (resolved a.edits a.after a.position) (refused 20)) ≡ some (refused 17) → ⊥
    go true e = let z : ◌≡◌ {A = ℕ} 0 1 = cc in absurd (omega arith)
    go false e = let z : ◌≡◌ {A = ℕ} 20 17 = cc in absurd (omega arith)

module _ (t f : List ℕ) where
  gives_other : (x : calls.Made) (cache : List ℕ) (r : Answer) → Gives f r x.answer x.list x.after cache x.cache → (r ≡ refused 17 → ⊥) → NotOut (resolving x)
  gives_other x cache (refused n) g h q = let z : n ≡ 17 = cc in h (ap refused z)
  gives_other x cache (resolved es c n) g h q = let z : ◌≡◌ {A = ℕ} 0 1 = cc in absurd (omega arith)

  asks-other : (x : MadeAsk) (cache : List ℕ) (limit : ℕ) (r : Answer) → Asks f limit r x.answer x.list x.after cache x.slots → (r ≡ refused 17 → ⊥) → NotOut (asking x)
  asks-other x cache limit (refused n) g h q = let z : n ≡ 17 = cc in h (ap refused z)
  asks-other x cache limit (resolved es c n) g h q = let z : ◌≡◌ {A = ℕ} 0 1 = cc in absurd (omega arith)

  takes-other : (x : MadeTake) (cache : List ℕ) (o : Option Answer) → TakeAnswered t f o x cache → (o ≡ some (refused 17) → ⊥) → NotOut (taking x)
  takes-other x cache none g h q = absurd g
  takes-other x cache (some (refused n)) g h q = let z : n ≡ 17 = cc in h (ap (λ (n : ℕ). some (refused n)) z)
  takes-other x cache (some (resolved es c n)) g h q = let z : ◌≡◌ {A = ℕ} 0 1 = cc in absurd (omega arith)

  module _ (ch : Checked t f) (enough : (127 + (function_of f).kept) * num_sizes (reg_info_of t) (function_of f) ≤ (function_of f).limit) where
    call-other : (free numbers : List ℕ) (room : ℕ) (c : Cache) → Lies t f ch c → ruled t f free numbers room c ≡ refused 17 → ⊥
    call-other free numbers room c l =
        by-free (reg_info_of t) (function_of f) free numbers room c (λ r. r ≡ refused 17 → ⊥) (λ n e q. let z : n ≡ 17 = cc in free_other (reg_info_of t).units 0 free n e z)
        (never-out (reg_info_of t) (function_of f) ch.target ch.function enough _ room c l.quiet)

    groups-other : (free numbers : List ℕ) (room : ℕ) (c : Cache) → Lies t f ch c → ruled_by_groups t f free numbers room c ≡ refused 17 → ⊥
    groups-other free numbers room c l =
        by-free-groups (reg_info_of t) (function_of f) free numbers room c (λ r. r ≡ refused 17 → ⊥) (λ n e q. let z : n ≡ 17 = cc in free_other (reg_info_of t).units 0 free n e z)
        (groups-in (reg_info_of t) (function_of f) ch.target ch.function enough _ room c l.quiet)

    one-never : (x : Made) (s : Held) (v : Served) → Lies t f ch v.now.cache → Outcome t f x s v → NotOut x
    unfolding answered standing
    one-never (resolving x) s v l g = gives_other x s.cache (ruled t f x.free x.numbers (length x.list) v.now.cache) g (call-other x.free x.numbers (length x.list) v.now.cache l)
    one-never (grouping x) s v l g =
        gives_other x s.cache (ruled_by_groups t f x.free x.numbers (length x.list) v.now.cache) g (groups-other x.free x.numbers (length x.list) v.now.cache l)
    one-never (asking x) s v l g =
        asks-other x s.cache (function_of f).limit (ruled t f x.free x.numbers (length x.list) v.now.cache) g (call-other x.free x.numbers (length x.list) v.now.cache l)
    one-never (taking x) s v l g =
        takes-other x s.cache (answer_in (taken_of (get_or v.asked x.asking none) v.now)) g (take-other (get_or v.asked x.asking none) v.now)

    never : (start : ℕ) (calls : List Made) (s : Held) (v : Served) → Claim t f start calls s v → AllLie t f ch calls v → NeverOut calls
    never start [] s v h l = tt
    never start (x ∷ rest) s v h l = (one-never x s v l.0 h.1, never start rest (left x s) (after (reg_info_of t) (function_of f) x v) h.3 l.1)

pub fewer-enough-for-all-calls : FewerEnough
fewer-enough-for-all-calls kept bytes t f cache cache' o h calls made below =
    let c = claimed kept bytes t f cache cache' o calls made below in
    let enough : (127 + (function_of f).kept) * num_sizes (reg_info_of t) (function_of f) ≤ (function_of f).limit =
    subst (λ (k : ℕ). (127 + k) * num_sizes (reg_info_of t) (function_of f) ≤ (function_of f).limit) (sym (setting kept bytes t f cache cache' o)) h in
    never t f (known (opened kept bytes) t f cache cache' o).0 enough (stamp_of cache') calls (holding cache') fresh c.0 c.1

pub enough-for-all-calls : Enough
enough-for-all-calls kept bytes t f cache cache' o h calls made below = fewer-enough-for-all-calls kept bytes t f cache cache' o (omega arith) calls made below
