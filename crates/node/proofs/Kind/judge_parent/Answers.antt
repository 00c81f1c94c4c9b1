-- `node::Kind::judge_parent` meets its contract. Assumes nothing.
use mathlib.Core.Path.{◌∙◌}
use Rattle.node.proofs.Judged.{kids_small, parent_judged, parent_bad}
use Rattle.node.proofs.Kind.judge_parent.Goals as goal

pub judge_by_kind-requires : goal.judge_by_kind-requires
judge_by_kind-requires c = (kids_small _ c.small.ensures c.small-2.ensures c.if-small.true, c.requires)

pub returns-then-small : goal.returns-then-small
returns-then-small c = c.judge_by_kind.ensures ∙ parent_judged _ c.small.ensures c.small-2.ensures _ c.if-small.true

pub returns-else-small : goal.returns-else-small
returns-else-small c = parent_bad _ c.small.ensures c.small-2.ensures _ c.if-small.false
