-- `records::good_bounds` meets its contract: there is no type past 4. Assumes nothing.
use mathlib.Core.Path.{ap, sym}
use Rattle.node.specs.FactTypes.{FactType}
use Rattle.node.proofs.FactTypeLaws.{type_past}
use Rattle.records.proofs.good_bounds.Goals as goal

pub returns-in-Err : goal.returns-in-Err
returns-in-Err c = ap (λ (t : FactType). t.bounds c.args.min c.args.max) (sym (type_past _ c.in-Err.ensures.1))
