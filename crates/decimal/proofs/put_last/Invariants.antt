-- `decimal::put_last` meets its contract. The loop's invariant: with the digits that are left to write, the text is as it is to be. Assumes
-- nothing.
use mathlib.Core.Path.{◌≡◌}
use lib.Seq.{sets}
use Rattle.decimal.specs.Decimal.{digits}
use Rattle.decimal.proofs.Writing.{last_digits}
use Rattle.decimal.proofs.put_last.Given as goal

abbrev pub invariant-loop-j : goal.invariant-loop-j
invariant-loop-j l = sets l.text l.at (last_digits l.j l.left) ≡ sets l.initial.text l.at (digits l.m)
