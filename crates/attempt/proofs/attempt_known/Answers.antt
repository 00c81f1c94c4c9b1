-- `attempt::attempt_known` meets its contract: the first of the three cases that holds. Assumes nothing.
use Rattle.std.proofs.Common.{ap, not}
use Rattle.attempt.proofs.AttemptLaws.{at_persona, at_precondition, at_choice}
use Rattle.attempt.proofs.attempt_known.Goals as goal

pub returns-then-not-allows : goal.returns-then-not-allows
returns-then-not-allows c = let both = at_persona _ _ _ _ _ _ _ c.allows.ensures (ap not c.if-not-allows.true) in record { value = both.0; states_after = both.1 }

pub returns-then-not-holds : goal.returns-then-not-holds
returns-then-not-holds c =
    let both = at_precondition _ _ _ _ _ _ _ c.allows.ensures (ap not c.if-not-allows.false) (ap not c.if-not-holds.true) in
    record { value = both.0; states_after = both.1 }

pub returns : goal.returns
returns c =
    let both =
    at_choice _ _ _ _ _ _ _ c.allows.ensures (ap not c.if-not-allows.false) (ap not c.if-not-holds.false) c.perform.ensures.value
    c.perform.ensures.states_after
    in
    record { value = both.0; states_after = both.1 }
