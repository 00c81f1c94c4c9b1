-- `enter` calls each function as it asks.
use Rattle.path_lines.proofs.Opening.{entrance_low}
use Rattle.std.proofs.Common.{refl}
use Rattle.limit_vectors.proofs.enter.Goals as goal

pub refused-requires : goal.refused-requires
refused-requires g c = entrance_low _ c.in-Err.ensures.0 refl
