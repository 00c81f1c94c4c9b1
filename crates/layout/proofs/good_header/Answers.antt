-- `layout::good_header` meets its contract. Assumes nothing.
use mathlib.Core.Path.{sym, ◌∙◌}
use Rattle.tables.proofs.Bools.{and_yes, and_no}
use Rattle.layout.specs.Header.{good_header}
use lib.ListN.{length}
use borrow.Author.Tests.{lt-leb, le-leb}
use Rattle.layout.proofs.good_header.Goals as goal

pub returns-then-s-lt16 : goal.returns-then-s-lt16
unfolding good_header
returns-then-s-lt16 c = rw (lt-leb 16 (length c.args.s.now) c.if-s-lt16.true)

pub returns-then-not-in_limits : goal.returns-then-not-in_limits
unfolding good_header
returns-then-not-in_limits c = let e = sym c.in_limits.ensures ∙ c.if-not-in_limits.true in
    rw (le-leb 16 (length c.args.s.now) c.if-s-lt16.false, ← c.read-h.ensures, e, and_no)

pub returns : goal.returns
unfolding good_header
returns c = let e = sym c.in_limits.ensures ∙ c.if-not-in_limits.false in
    rw (le-leb 16 (length c.args.s.now) c.if-s-lt16.false, c.good_frame.ensures, ← c.read-h.ensures, e, and_yes, c.records.ensures)
