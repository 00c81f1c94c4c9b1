-- `flows::run` meets its contract: a run on the gathered states, then the writing pass. Assumes nothing.
use Rattle.instances.proofs.Gathering.{blank}
use mathlib.Core.Path.{refl, sym, ap, ◌∙◌}
use Rattle.std.proofs.lemmas.Result.{err_from_is_err_and}
use Rattle.signed.proofs.Fit.{back}
use Rattle.ladder.specs.Inner.{headed}
use Rattle.ladder.proofs.ClimbLaws.{stopped}
use Rattle.flows.proofs.run.Goals as goal

pub climb_run-requires : goal.climb_run-requires
climb_run-requires c = blank

pub returns-in_err-k-clause-value : goal.returns-in_err-k-clause-value
returns-in_err-k-clause-value c =
    let e = rw (back c.ranges.flow) at (sym (ap headed c.in_err-k.was) ∙ c.climb_run.ensures.value) in
    let p = err_from_is_err_and c.from_residual.result c.from_residual.ensures.1 in
    rw (p.1, p.2) (stopped _ _ e refl)
