-- `ladder::open_sheet` meets its contract: an accepted sheet has a header to read. Assumes nothing.
use mathlib.Core.Path.{sym, ◌∙◌}
use Rattle.layout.proofs.Limits.{sixteen, sized}
use Rattle.records.proofs.Acceptance.{header_good, accepted}
use Rattle.ladder.proofs.open_sheet.Goals as goal

pub read-requires : goal.read-requires
read-requires c = sixteen _ (header_good _ (sym c.check.ensures ∙ c.in_ok-check.was))

pub invariant_of-sheet : goal.invariant_of-sheet
invariant_of-sheet c = record { sized = rw c.read.ensures (sized _ (header_good _ (sym c.check.ensures ∙ c.in_ok-check.was))) }

pub invariant_of-result : goal.invariant_of-result
invariant_of-result c = record { accepted = rw c.read.ensures (accepted _ (sym c.check.ensures ∙ c.in_ok-check.was)) }
