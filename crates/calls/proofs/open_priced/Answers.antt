-- `open_priced` meets its contract.
use Rattle.job_rules.specs.Priced.{beginning_priced}
use Rattle.calls.specs.Opening.{opened_priced}
use Rattle.calls.proofs.open_priced.Goals as goal

pub returns : goal.returns
unfolding opened_priced
returns c =
    let a = c.args in
    let x = beginning_priced a.p a.kept_evictions a.s.now in
    c.cleared.ensures (opened_priced a.p a.kept_evictions a.s.now) _ _ (c.at_end.ensures x _ _ c.read_priced_beginning.ensures)
