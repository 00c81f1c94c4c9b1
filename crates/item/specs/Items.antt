-- 01, "Every node has a value range": a type with a range of values, and the range of each operator from those of its operands.
-- Assumes nothing.
use Rattle.std.specs.Prelude.{ℕ, ℤ, pos, ◌+ℤ◌, ◌-ℤ◌, ◌*ℤ◌, Bool, cond, ◌&&◌}
use Rattle.std.specs.Int.Signed.{lt_z}
use Rattle.signed.specs.Words.{bounded, min_z, max_z}
use Rattle.signed.specs.Compare.{can_hold, can_fail}
use Rattle.item.specs.declared.Item.{Item}
use Rattle.item.specs.Units.{shared, converted}

abbrev pub span : ℕ → ℤ → ℤ → Item
span t a b = record { sort = t; low = a; high = b }

-- where there is no child
abbrev pub none : Item
none = span 0 (pos 0) (pos 0)

-- both ends lie in −M..M: "each such Int range must stay within −M..M", and 02's money and durations too; the other ranges always do
unfoldable pub small : Item → Bool
small x = bounded x.low && bounded x.high

-- 02, CR 4: x beside y, each of two durations being taken to the smaller unit
unfoldable pub align : Item → Item → Item
align x y =
    span (shared x.sort y.sort) (converted x.sort y.sort x.low) (converted x.sort y.sort x.high)

-- sum: low+low..high+high, of the operands' type
abbrev pub sum : Item → Item → Item
sum x y = span x.sort (x.low +ℤ y.low) (x.high +ℤ y.high)

-- difference: low−high..high−low
abbrev pub difference : Item → Item → Item
difference x y = span x.sort (x.low -ℤ y.high) (x.high -ℤ y.low)

-- product by n: low×n..high×n, and for n < 0 high×n..low×n
unfoldable pub multiple : ℤ → Item → Item
multiple n x =
    cond (lt_z n (pos 0)) (span x.sort (x.high *ℤ n) (x.low *ℤ n)) (span x.sort (x.low *ℤ n) (x.high *ℤ n))

-- comparison: includes 1 if some pair of values from the two ranges satisfies it, and 0 if some pair does not
abbrev pub compared : ℕ → Item → Item → Item
compared op x y =
    span 0 (cond (can_fail op x.low x.high y.low y.high) (pos 0) (pos 1)) (cond (can_hold op x.low x.high y.low y.high) (pos 1) (pos 0))

-- and: the two lows' and two highs' minima
abbrev pub both : Item → Item → Item
both x y = span 0 (min_z x.low y.low) (min_z x.high y.high)

-- or: maxima
abbrev pub either : Item → Item → Item
either x y = span 0 (max_z x.low y.low) (max_z x.high y.high)

-- not: 1−high..1−low
abbrev pub negation : Item → Item
negation x = span 0 (pos 1 -ℤ x.high) (pos 1 -ℤ x.low)
