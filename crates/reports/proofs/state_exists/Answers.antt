-- `reports::state_exists` meets its contract: by whether the entity exists. Assumes nothing.
use Rattle.signed.proofs.Fit.{back}
use Rattle.reports.proofs.ReportLaws.{named, state_found, state_lost}
use Rattle.reports.proofs.state_exists.Goals as goal

pub states_of-n-requires : goal.states_of-n-requires
states_of-n-requires c = named _ c.exists.ensures c.if-exists.true c.num.ensures

pub returns-then-exists : goal.returns-then-exists
returns-then-exists c = state_found _ _ _ _ (rw (back c.ranges.entity) at c.exists.ensures) c.if-exists.true
    (rw (back c.ranges.state, c.states_of-n.ensures, c.num.ensures, back c.ranges.entity) at c.exists-then-exists.ensures)

pub returns-else-exists : goal.returns-else-exists
returns-else-exists c = state_lost _ _ _ _ (rw (back c.ranges.entity) at c.exists.ensures) c.if-exists.false
