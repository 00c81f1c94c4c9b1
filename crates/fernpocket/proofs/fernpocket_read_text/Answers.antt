-- `fernpocket::fernpocket_read_text` meets its contract. Assumes nothing.
use Rattle.text.proofs.Calls.{read_small}
use native.Mathlib.Omega.{arith}
use Rattle.fernpocket.proofs.fernpocket_read_text.Goals as goal

pub of-requires : goal.of-requires
of-requires c = rw c.read.ensures.0
    (read_small _ _ (omega (arith, c.well_formed.0.1)) (omega (arith, c.well_formed.1.0.1)))
