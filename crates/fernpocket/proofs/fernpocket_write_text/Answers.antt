-- `fernpocket::fernpocket_write_text` meets its contract. Assumes nothing.
use Rattle.text.proofs.Calls.{write_small}
use native.Mathlib.Omega.{arith}
use Rattle.fernpocket.proofs.fernpocket_write_text.Goals as goal

pub of-requires : goal.of-requires
of-requires c = rw c.write.ensures.0
    (write_small _ _ (omega (arith, c.well_formed.0.1))
    (omega (arith, c.well_formed.1.0.1)))
