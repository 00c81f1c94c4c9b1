-- `operation::starts` meets its contract. Assumes nothing.
use Rattle.operation.proofs.Targets.{has_state}
use Rattle.operation.specs.Outcomes.{starts}
use Rattle.words.specs.Record.{record_at}
use Rattle.operation.proofs.starts.Goals as goal

pub number_at-requires : goal.number_at-requires
unfolding record_at
number_at-requires c = rw c.effect_word-n.ensures (has_state c.requires)

pub returns : goal.returns
unfolding starts record_at
returns c = rw (c.effect_word.ensures, c.number_at.ensures, c.effect_word-n.ensures)
