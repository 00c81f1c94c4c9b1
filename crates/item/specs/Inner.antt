-- What the inner functions ask and answer, and what proofs speak of. The definitions of the other files do not rest on these.
-- Assumes nothing.
use Rattle.std.specs.Prelude.{◌≡◌, true}
use Rattle.signed.specs.Words.{bounded}
use Rattle.item.specs.declared.Item.{Item}

-- what keeps sums and products within a word
pub record Small (x : Item) : Type 0 where
  pub low : bounded x.low ≡ true
  pub high : bounded x.high ≡ true
