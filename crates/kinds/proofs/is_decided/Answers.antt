-- `kinds::is_decided` meets its contract: only "and" and "or" are decided. Assumes nothing.
use mathlib.Core.Path.{sym}
use Rattle.kinds.proofs.KindLaws.{undecided}
use Rattle.kinds.proofs.is_decided.Goals as goal

pub returns-in_default : goal.returns-in_default
returns-in_default c = sym (undecided c.args.k c.in_default.not-And c.in_default.not-Or c.args.x)
