-- `instances::put` meets its contract: one record. Assumes nothing.
use Rattle.std.proofs.Common.{ap₂, ◌∙◌, rules}
use Rattle.signed.specs.Words.{eq_z}
use Rattle.signed.proofs.Fit.{back_of}
use Rattle.instances.proofs.Scattering.{placed_own, placed_other}
use Rattle.instances.proofs.put.Goals as goal

pub returns-then-same : goal.returns-then-same
returns-then-same c = placed_own _ _ _ c.at-r.ensures.0
    (c.same.ensures ∙ ap₂ eq_z (search rules) (back_of c.entry.result c.entry.type_inv ∙ c.entry.ensures)) c.if-same.true
    (back_of c.entry-then-same.result c.entry-then-same.type_inv ∙ c.entry-then-same.ensures)

pub returns-else-same : goal.returns-else-same
returns-else-same c = placed_other _ _ _ c.at-r.ensures.0
    (c.same.ensures ∙ ap₂ eq_z (search rules) (back_of c.entry.result c.entry.type_inv ∙ c.entry.ensures)) c.if-same.false
