-- `flows::first` meets its contract: by where its climb stops. Assumes nothing.
use mathlib.Core.Path.{refl, sym, ap, ◌∙◌}
use Rattle.std.proofs.lemmas.Result.{err_from_is_err_and}
use Rattle.signed.proofs.Fit.{back}
use Rattle.ladder.specs.Inner.{headed}
use Rattle.ladder.proofs.ClimbLaws.{stopped}
use Rattle.flows.proofs.first.Goals as goal

pub returns-in_err-k : goal.returns-in_err-k
returns-in_err-k c =
    let e = rw (back c.ranges.flow) at (sym (ap headed c.in_err-k.was) ∙ c.climb_flow.ensures.value) in
    let p = err_from_is_err_and c.from_residual.result c.from_residual.ensures.1 in
    record { value = rw (p.1, p.2) (stopped _ _ e refl); path_after = stopped _ _ e refl }
