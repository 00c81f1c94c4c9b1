-- `sheet::check` meets its contract. Assumes nothing.
use mathlib.Core.Path.{sym}
use Rattle.layout.proofs.Limits.{sixteen}
use Rattle.records.proofs.Acceptance.{bad_header, bad_group}
use Rattle.sheet.proofs.Parts.{sized_of, done_is, bad_is}
use Rattle.sheet.proofs.check.Goals as goal

pub returns-then-not-good_header : goal.returns-then-not-good_header
returns-then-not-good_header c = sym (bad_header _ (sym c.if-not-good_header.ensures))

pub read-requires : goal.read-requires
read-requires c = sixteen _ (sym c.if-not-good_header.ensures)

pub invariant_of-sheet : goal.invariant_of-sheet
invariant_of-sheet c = record { sized = sized_of _ c.read.ensures (sym c.if-not-good_header.ensures) }

pub returns-then-not-good_groups : goal.returns-then-not-good_groups
returns-then-not-good_groups c = sym (bad_group _ (sym c.if-not-good_header.ensures) (rw c.read.ensures at (sym c.if-not-good_groups.ensures)))

pub check_records-requires : goal.check_records-requires
check_records-requires c = sym c.if-not-good_groups.ensures

pub returns-in-Ok : goal.returns-in-Ok
returns-in-Ok c = done_is _ c.read.ensures (sym c.if-not-good_header.ensures) (sym c.if-not-good_groups.ensures) c.in-Ok.ensures

pub returns-in-Err : goal.returns-in-Err
returns-in-Err c = bad_is _ c.read.ensures (sym c.if-not-good_header.ensures) (sym c.if-not-good_groups.ensures) c.in-Err.ensures
