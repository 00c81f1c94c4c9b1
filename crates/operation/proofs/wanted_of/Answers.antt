-- `operation::wanted_of` meets its contract: −1 is any, another word is its number. Assumes nothing.
use mir.Syntax.{w64}
use mir.ValLaws.{to_z-of_z}
use Rattle.operation.specs.Outcomes.{wanted_of}
use Rattle.operation.proofs.wanted_of.Goals as goal

pub returns-then-same : goal.returns-then-same
unfolding wanted_of
returns-then-same c = rw (← rw (to_z-of_z w64 c.args.w c.ranges.w, c.if-same.true) at c.same.ensures)

pub returns-else-same : goal.returns-else-same
unfolding wanted_of
returns-else-same c = rw (
  ← rw (to_z-of_z w64 c.args.w c.ranges.w, c.if-same.false) at c.same.ensures,
  rw (to_z-of_z w64 c.args.w c.ranges.w) at c.num.ensures,
)
