-- `records::good_set` meets its contract: there is no type past 4. Assumes nothing.
use mathlib.Core.Path.{ap, sym}
use Rattle.node.specs.FactTypes.{FactType}
use Rattle.node.proofs.FactTypeLaws.{type_past}
use Rattle.records.proofs.good_set.Goals as goal

pub returns-in-Err : goal.returns-in-Err
returns-in-Err c = ap (λ (t : FactType). t.takes_set c.args.set) (sym (type_past _ c.in-Err.ensures.1))
