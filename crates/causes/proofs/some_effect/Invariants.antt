-- `causes::some_effect` meets its contract: none of the effects passed is wanted. Assumes nothing.
use Rattle.causes.specs.Inner.{wanted}
use Rattle.causes.proofs.Effects.{Missed}
use Rattle.causes.proofs.some_effect.Given as goal

abbrev pub invariant-loop-e : goal.invariant-loop-e
invariant-loop-e l = Missed l.s.sheet.words.now (wanted l.n.0 l.from l.to) l.base l.initial.e l.e-end l.e
