-- `operation::apply` meets its contract. Assumes nothing.
use Rattle.std.proofs.Common.{sym, ◌∙◌, lit<}
use Rattle.words.specs.Record.{record_at}
use Rattle.operation.proofs.Targets.{exists_in}
use Rattle.operation.proofs.Moving.{outset, over, onward, done}
use Rattle.operation.proofs.apply.Goals.{then-effect_word-j, else-effect_word-j}
use Rattle.operation.proofs.apply.Goals as goal

pub loop-e-init : goal.loop-e-init
loop-e-init c = outset c.requires _ c.effects_of-effects.ensures _

pub effect_word-requires : goal.effect_word-requires
effect_word-requires c = (exists_in c.requires _ c.effects_of-effects.ensures _ c.loop-e-test.true, lit< tt)

pub shift-requires-clause-read : goal.shift-requires-clause-read
shift-requires-clause-read c = record {
  accepted = c.args.s.now.accepted;
  long = c.loop-e.invariant.long;
  exists = exists_in c.requires _ c.effects_of-effects.ensures _ c.loop-e-test.true;
}

pub loop-e-preserved : goal.loop-e-preserved
unfolding record_at
loop-e-preserved c =
    elim c.if-effect_word-j.branch [
      | then-effect_word-j w ↦
          rw (w.states-is, w.moved-is)
          (onward c.requires _ c.effects_of-effects.ensures _ _ _ _ _ _ c.loop-e.invariant c.loop-e-test.true
          (sym c.effect_word.ensures ∙ w.if-effect_word-j.true) w.shift.ensures)
      | else-effect_word-j w ↦
          rw (w.states-is, w.moved-is)
          (over _ _ _ _ _ _ _ _ _ c.loop-e.invariant c.loop-e-test.true (λ z. w.if-effect_word-j.false (c.effect_word.ensures ∙ z)))
    ]

pub returns : goal.returns
returns c = done c.requires _ c.effects_of-effects.ensures _ _ _ _ c.loop-e.invariant c.loop-e-test.false
