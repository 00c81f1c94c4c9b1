-- `tables::mark` meets its contract. Assumes nothing.
use mathlib.Core.Path.{sym}
use mathlib.Core.Bool.{true}
use lib.Seq.{set_out}
use Rattle.tables.proofs.mark.Goals as goal

pub returns-then-i-t : goal.returns-then-i-t
returns-then-i-t c = rw c.if-on.true

pub returns-else-i-t : goal.returns-else-i-t
returns-else-i-t c = rw c.if-on.true (sym (set_out c.args.t.now c.args.i true c.if-i-t.false))

pub returns-else-on : goal.returns-else-on
returns-else-on c = rw c.if-on.false
