-- `instances::covers` meets its contract. Assumes nothing.
use Rattle.std.proofs.Common.{ap, not, lit<}
use Rattle.words.specs.Record.{record_at}
use Rattle.instances.proofs.Covering.{effect_there, none_flagged, one_flagged, not_flagged, all_flagged}
use Rattle.instances.proofs.covers.Goals as goal

pub loop-e-init : goal.loop-e-init
loop-e-init c = none_flagged _ _

pub effect_word-requires : goal.effect_word-requires
effect_word-requires c =
    (effect_there c.args.s.now.accepted c.requires _ c.effects_of-effects.ensures c.loop-e-test.true, lit< tt)

pub returns-then-not-flag : goal.returns-then-not-flag
unfolding record_at
returns-then-not-flag c = not_flagged c.args.s.now.accepted c.requires _ c.effects_of-effects.ensures c.loop-e.invariant c.loop-e-test.true
    c.effect_word.ensures c.flag.ensures (ap not c.if-not-flag.true)

pub loop-e-preserved : goal.loop-e-preserved
unfolding record_at
loop-e-preserved c = one_flagged c.args.s.now.accepted c.requires _ c.effects_of-effects.ensures c.loop-e.invariant c.loop-e-test.true
    c.effect_word.ensures c.flag.ensures (ap not c.if-not-flag.false)

pub returns : goal.returns
returns c = all_flagged c.args.s.now.accepted c.requires _ c.effects_of-effects.ensures c.loop-e.invariant c.loop-e-test.false
