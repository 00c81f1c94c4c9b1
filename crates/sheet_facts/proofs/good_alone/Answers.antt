-- `sheet_facts::good_alone` meets its contract. Assumes nothing.
use Rattle.words.specs.Record.{record_at}
use Rattle.signed.proofs.Fit.{back_of}
use Rattle.node.proofs.FactTypeLaws.{type_past}
use Rattle.sheet_facts.specs.Maxes.{good_alone}
use Rattle.sheet_facts.proofs.good_alone.Goals as goal

pub returns-in_default : goal.returns-in_default
unfolding good_alone record_at
returns-in_default c = let unknown = type_past _ (rw c.requires.1 at c.in_default.ensures.1) in rw unknown

pub returns : goal.returns
unfolding good_alone record_at
returns c = rw (
  c.good_tail.ensures,
  c.good_default.ensures,
  c.good_set.ensures,
  c.good_bounds.ensures,
  c.in-Ok.ensures,
  back_of c.word-default.result c.word-default.type_inv,
  c.word-default.ensures,
  back_of c.word-max.result c.word-max.type_inv,
  c.word-max.ensures,
  back_of c.word-min.result c.word-min.type_inv,
  c.word-min.ensures,
  c.requires.1,
)
