-- `attempt::attempt` meets its contract: the precondition matters only where the persona is allowed. Assumes nothing.
use Rattle.std.proofs.Common.{refl}
use Rattle.attempt.proofs.AttemptLaws.{evaluable, attempt_admits}
use Rattle.attempt.proofs.attempt.Goals as goal

pub admits-holds-requires-clause-evaluable : goal.admits-holds-requires-clause-evaluable
admits-holds-requires-clause-evaluable c = evaluable c.requires _ refl

pub returns : goal.returns
returns c =
    let both = attempt_admits _ _ _ _ _ _ _ _ c.attempt_known.ensures.value c.attempt_known.ensures.states_after c.admits-holds.ensures in
    record { value = both.0; states_after = both.1 }
