-- `instances::take` meets its contract: one record more is gathered. Assumes nothing.
use Rattle.std.proofs.Common.{ap₂, ◌∙◌, rules}
use Rattle.signed.specs.Words.{eq_z}
use Rattle.instances.proofs.Gathering.{taken_past, taken_other, taken_own}
use Rattle.instances.proofs.take.Goals as goal

pub returns-then-same : goal.returns-then-same
returns-then-same c = taken_own _ _ c.requires.gathered c.at-r.ensures.0 c.if-e-is.true
    (c.same.ensures ∙ ap₂ eq_z (search rules) (search rules)) c.if-same.true (search rules)

pub returns-else-same : goal.returns-else-same
returns-else-same c = taken_other _ _ c.requires.gathered c.at-r.ensures.0 c.if-e-is.true
    (c.same.ensures ∙ ap₂ eq_z (search rules) (search rules)) c.if-same.false

pub returns-else-e-is : goal.returns-else-e-is
returns-else-e-is c = taken_past _ _ c.requires.gathered c.at-r.ensures.0 c.if-e-is.false
