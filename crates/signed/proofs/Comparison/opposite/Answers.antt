-- `signed::Comparison::opposite` meets its contract, comparison by comparison. Assumes nothing.
use Rattle.signed.specs.Compare.{holds}
use Rattle.signed.proofs.Pairs.{not_not, lt_not_le, le_not_lt}
use Rattle.signed.proofs.Comparison.opposite.Goals as goal

pub returns-in-Equal : goal.returns-in-Equal
unfolding holds
returns-in-Equal c = λ x y. rw c.in-Equal.is

pub returns-in-Unequal : goal.returns-in-Unequal
unfolding holds
returns-in-Unequal c = λ x y. rw c.in-Unequal.is (not_not _)

pub returns-in-Less : goal.returns-in-Less
unfolding holds
returns-in-Less c = λ x y. rw c.in-Less.is (le_not_lt y x)

pub returns-in-AtMost : goal.returns-in-AtMost
unfolding holds
returns-in-AtMost c = λ x y. rw c.in-AtMost.is (lt_not_le y x)

pub returns-in-Greater : goal.returns-in-Greater
unfolding holds
returns-in-Greater c = λ x y. rw c.in-Greater.is (le_not_lt x y)

pub returns-in-AtLeast : goal.returns-in-AtLeast
unfolding holds
returns-in-AtLeast c = λ x y. rw c.in-AtLeast.is (lt_not_le x y)
