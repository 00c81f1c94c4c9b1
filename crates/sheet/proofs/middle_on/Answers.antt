-- `sheet::middle_on` meets its contract. Assumes nothing.
use mathlib.Core.Path.{sym}
use Rattle.records.proofs.Scans.{scan_good}
use Rattle.sheet_roots.proofs.Roots.{still_known}
use Rattle.sheet.proofs.Parts.{own_declared, on_any}
use Rattle.sheet.proofs.middle_on.Goals as goal

pub check_transitions-requires : goal.check_transitions-requires
check_transitions-requires c = (
  scan_good _ _ _ (sym c.in_ok-check_entities.ensures),
  c.requires.2.flags,
  c.requires.2.clear,
)

pub check_effects-requires : goal.check_effects-requires
check_effects-requires c = (
  record {
    sized = c.args.s.now.sized;
    groups = c.requires.0;
    entities = scan_good _ _ _ (sym c.in_ok-check_entities.ensures);
    declared = own_declared c.in_ok-check_transitions.ensures.declared;
    operations = scan_good _ _ _ (sym c.in_ok-check_operations.ensures.value);
  },
  c.requires.2.stamps,
  c.requires.2.fresh,
)

pub returns-clause-lower : goal.returns-clause-lower
returns-clause-lower c = on_any c.check_effects.result
    (record {
      operations = scan_good _ _ _ (sym c.in_ok-check_operations.ensures.value);
      known = still_known c.requires.1 c.check_operations.ensures.flagged c.in_ok-check_operations.ensures.rooted;
    })

pub check_operations-requires : goal.check_operations-requires
check_operations-requires c = (c.requires.0, c.requires.1.rooted)
