-- `listing::first` meets its contract: the walk starts at the first step and goes by first routes. Assumes nothing.
use Rattle.listing.proofs.CallLaws.{first_done}
use Rattle.walks.proofs.Walks.{start_going}
use Rattle.listing.proofs.first.Goals as goal

pub finish-requires : goal.finish-requires
finish-requires c = rw c.start-w.ensures (start_going c.requires)

pub returns-clause-value : goal.returns-clause-value
returns-clause-value c = (first_done c.requires c.start-w.ensures c.finish.ensures.value c.finish.ensures.path_after).0

pub returns-clause-path_after : goal.returns-clause-path_after
returns-clause-path_after c = (first_done c.requires c.start-w.ensures c.finish.ensures.value c.finish.ensures.path_after).1
