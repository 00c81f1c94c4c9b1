-- `flows::go` meets its contract: a run over the facts and their verdicts. Assumes nothing.
use Rattle.flows.proofs.FlowCallLaws.{runnable}
use Rattle.flows.proofs.go.Goals as goal

pub run-requires-clause-runnable : goal.run-requires-clause-runnable
run-requires-clause-runnable c = runnable c.requires c.settle.ensures.lists_after c.settle.ensures.verdicts_after
