-- `flows::climb_flow` meets its contract: past every rung there is room for the flow's paths. Assumes nothing.
use Rattle.signed.proofs.Fit.{back}
use Rattle.flows.proofs.FlowCallLaws.{lent}
use Rattle.flows.proofs.climb_flow.Goals as goal

pub returns-clause-ready : goal.returns-clause-ready
returns-clause-ready c =
    let q = rw (c.steps_or.ensures, c.exists.ensures, back c.ranges.flow) at c.in_ok-judge_call.ensures.passed in
    lent c.args.flow c.args.path.now c.in_ok-k.k.accepted q.1 q.0
