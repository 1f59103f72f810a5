use mathlib.Core.Path.{sym, ◌∙◌}
use Rattle.scratch.proofs.Bringing.{none-but, one-but, rest_all, rest-one}
use Rattle.scratch.proofs.ScratchAllocator.unevict_rest.Goals as goal

pub unevict_all-requires : goal.unevict_all-requires
unevict_all-requires c = c.requires

pub returns-then-kept_evictions-eq1 : goal.returns-then-kept_evictions-eq1
returns-then-kept_evictions-eq1 c = λ available. rest_all _ _ _ _ _ _ _ (sym c.kept_evictions.ensures ∙ c.if-kept_evictions-eq1.true) (c.unevict_all.ensures available)

pub unevict_older-requires : goal.unevict_older-requires
unevict_older-requires c = let pre = c.requires in (pre.0, sym c.evicted-e.ensures ∙ c.in-Two.is, pre.1)

pub returns-in-Nothing : goal.returns-in-Nothing
returns-in-Nothing c = λ available. rest-one _ _ _ _ _ _ _ c.requires.0 (λ q. c.if-kept_evictions-eq1.false (c.kept_evictions.ensures ∙ q)) (none-but _ _ _ _ _ 1 (sym c.evicted-e.ensures ∙ c.in-Nothing.is))

pub returns-in-One : goal.returns-in-One
returns-in-One c = λ available. rest-one _ _ _ _ _ _ _ c.requires.0 (λ q. c.if-kept_evictions-eq1.false (c.kept_evictions.ensures ∙ q)) (one-but _ _ _ _ _ _ (sym c.evicted-e.ensures ∙ c.in-One.is))

pub returns-in-Two : goal.returns-in-Two
returns-in-Two c = λ available. rest-one _ _ _ _ _ _ _ c.requires.0 (λ q. c.if-kept_evictions-eq1.false (c.kept_evictions.ensures ∙ q)) (c.unevict_older.ensures available)
