-- `sheet::upper` meets its contract. Assumes nothing.
use mathlib.Core.Path.{sym}
use Rattle.records.proofs.Scans.{scan_good}
use Rattle.sheet.proofs.Parts.{known_of}
use Rattle.sheet.proofs.upper.Goals as goal

pub check_nodes-requires : goal.check_nodes-requires
check_nodes-requires c = (record { sized = c.args.s.now.sized; facts = scan_good _ _ _ (sym c.in_ok-check_facts.ensures) }, c.requires)

pub check_rules-requires : goal.check_rules-requires
check_rules-requires c = known_of c.args.s.now.sized c.in_ok-check_nodes.ensures.filled
