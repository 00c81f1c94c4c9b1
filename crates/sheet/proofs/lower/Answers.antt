-- `sheet::lower` meets its contract. Assumes nothing.
use mathlib.Core.Path.{sym}
use Rattle.records.proofs.Scans.{scan_good}
use Rattle.sheet.proofs.lower.Goals as goal

pub check_routes-requires : goal.check_routes-requires
check_routes-requires c = record {
  sized = c.args.s.now.sized;
  groups = c.requires.0;
  flows = scan_good _ _ _ (sym c.in_ok-check_flows.ensures);
  steps = scan_good _ _ _ (sym c.in_ok-check_steps.ensures.value);
}

pub check_steps-requires : goal.check_steps-requires
check_steps-requires c = (c.requires.0, c.requires.1.known.rooted, c.requires.1.operations)
