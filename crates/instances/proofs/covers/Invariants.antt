-- `instances::covers` meets its contract: the loop passes the effects whose entity is flagged. Assumes nothing.
use Rattle.std.proofs.Common.{false, get_or}
use Rattle.instances.proofs.Covering.{Flagged}
use Rattle.instances.proofs.covers.Given as goal

abbrev pub invariant-loop-e : goal.invariant-loop-e
invariant-loop-e l = Flagged l.s.sheet.words.now l.s.sheet.header (λ a. get_or l.found a false) l.initial.e l.e
