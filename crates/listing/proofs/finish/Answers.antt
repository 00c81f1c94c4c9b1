-- `listing::finish` meets its contract: a walk by first routes is written, and the rest is cleared. Assumes nothing.
use Rattle.listing.proofs.CallLaws.{finish_room, finish_done}
use Rattle.listing.proofs.finish.Goals as goal

pub clear-requires : goal.clear-requires
clear-requires c = finish_room _ c.requires c.descend-w.ensures.value c.descend-w.ensures.path_after

pub returns-clause-path_after : goal.returns-clause-path_after
returns-clause-path_after c = (finish_done _ c.requires c.descend-w.ensures.value c.descend-w.ensures.path_after c.clear.ensures).1
