-- `node::Kind::children` meets its contract. Assumes nothing.
use Rattle.node.proofs.OneKind.{childless}
use Rattle.node.proofs.Kind.children.Goals as goal

pub returns-in_default : goal.returns-in_default
returns-in_default c = childless _ _ c.in_default.not-Sum c.in_default.not-Difference c.in_default.not-Product c.in_default.not-Comparison
    c.in_default.not-And c.in_default.not-Or c.in_default.not-Not c.in_default.not-ForAll c.in_default.not-Exists
