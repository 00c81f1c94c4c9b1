-- `path_lines::start` meets its contract. Assumes nothing.
use Rattle.path_lines.proofs.Cursors.{starts_all, none_cut}
use native.Mathlib.Omega.{arith}
use Rattle.path_lines.proofs.start.Goals as goal

pub enter-requires : goal.enter-requires
enter-requires c = record { ready = c.requires; flow_le_flows = (omega arith, none_cut _ _) }

pub returns : goal.returns
returns c = (c.enter.ensures, starts_all c.enter.ensures)
