-- What the functions on a node answer and ask. The definitions of the other files do not rest on these.
-- Assumes nothing.
use Rattle.std.specs.Prelude.{ℕ, Bool, cond, List, [], ◌∷◌, ℤ, Option, Some, None}
use Rattle.words.specs.declared.Record.{Record}
use Rattle.item.specs.declared.Item.{Item}
use Rattle.item.specs.Inner.{Small}
use Rattle.node.specs.declared.Given.{Given}
use Rattle.node.specs.declared.Kids.{Kids}
use Rattle.node.specs.declared.Kids.TheVariants.{Zero, One, Two}
use Rattle.node.specs.FactValues.{FactValue}
use Rattle.node.specs.Rows.{Row, Seen, fits, converts}

abbrev pub bad : Option Item
bad = None

-- the item where the node is good
unfoldable pub keep : Bool → Item → Option Item
keep t x = cond t (Some x) bad

unfoldable pub judged : Row → Given → Option Item
judged r g = keep (fits r g) (r.gives g)

-- a node with children: bad too where a converted range leaves −M..M
unfoldable pub judged_parent : Row → Given → Option Item
judged_parent r g = cond (converts g) (judged r g) bad

-- what the arithmetic of a node asks: its children's ranges are in −M..M
pub record SmallKids (g : Given) : Type 0 where
  pub x : Small g.x
  pub y : Small g.y

-- children as the code returns them, as a list
abbrev pub kids : Kids → List ℕ
kids Zero = []
kids (One a) = a ∷ []
kids (Two a b) = a ∷ b ∷ []

-- what a value is worked out from, part by part
abbrev pub seen : Record ℤ → List FactValue → List ℤ → ℤ → ℤ → ℤ → (ℤ → ℤ) → Seen
seen w facts verdicts e x y body = record { words = w; facts = facts; verdicts = verdicts; element = e; x = x; y = y; body = body }
