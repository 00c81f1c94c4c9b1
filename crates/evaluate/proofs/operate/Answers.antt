-- `evaluate::operate` meets its contract: an attempt on the gathered states, then the writing pass. Assumes nothing.
use mathlib.Core.Path.{refl, sym, ap, ◌∙◌}
use native.Mathlib.Omega.{arith}
use Rattle.ladder.specs.Ladder.{by}
use Rattle.instances.proofs.Gathering.{blank}
use Rattle.instances.specs.Records.{lent_states}
use Rattle.instances.proofs.Unchanged.{unchanged}
use Rattle.evaluate.proofs.EvaluateLaws.{over_refused}
use Rattle.std.proofs.lemmas.Result.{err_from_is_err_and}
use Rattle.signed.proofs.Fit.{back}
use Rattle.ladder.specs.Inner.{headed}
use Rattle.ladder.proofs.ClimbLaws.{stopped}
use Rattle.evaluate.proofs.operate.Goals as goal

pub climb_operate-requires : goal.climb_operate-requires
climb_operate-requires c = blank

-- a refused attempt moves no instance
pub returns-in_err-j-clause-rs_after : goal.returns-in_err-j-clause-rs_after
unfolding by
returns-in_err-j-clause-rs_after c =
    grind (arith, unchanged _ _ (lent_states c.args.rs.now c.args.is.now) c.in_ok-k.ensures.ready.faultless, over_refused _ _ _ _ _ _ _ (sym c.act.ensures.value ∙ c.in_err-j.was))

pub returns-in_err-k : goal.returns-in_err-k
returns-in_err-k c =
    let e = rw (back c.ranges.persona, back c.ranges.operation, back c.ranges.wanted) at (sym (ap headed c.in_err-k.was) ∙ c.climb_operate.ensures.value) in
    let p = err_from_is_err_and c.from_residual.result c.from_residual.ensures.1 in
    record { value = rw (p.1, p.2) (stopped _ _ e refl); rs_after = stopped _ _ e refl }
