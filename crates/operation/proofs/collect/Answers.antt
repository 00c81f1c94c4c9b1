-- `operation::collect` meets its contract. Assumes nothing.
use Rattle.std.proofs.Common.{◌≡◌, refl, sym, ◌∙◌, arith, lit<}
use Rattle.words.specs.Record.{record_at}
use Rattle.operation.proofs.Blocks.{none, more, collected_by}
use Rattle.operation.proofs.Targets.{end_is, exists_in, read_in, has_flag}
use Rattle.operation.proofs.collect.Goals as goal

pub loop-e-init : goal.loop-e-init
loop-e-init c = none _ _ _ _ _ _ _ (rw (end_is _ _ _ _ c.effects_of-end.ensures) c.requires.outcome_at.0.high) c.requires.outcome_at.1

pub effect_word-requires : goal.effect_word-requires
effect_word-requires c = (exists_in c.requires.ready _ c.effects_of-end.ensures _ c.loop-e-test.true, lit< tt)

pub returns-then-effect_word-j : goal.returns-then-effect_word-j
unfolding record_at
returns-then-effect_word-j c = collected_by c.requires.ready _ c.effects_of-end.ensures _ _ _ _ c.requires.outcome_at.0 c.loop-e.invariant
    (λ l z. c.if-effect_word-j.true (c.effect_word.ensures ∙ z))

pub starts-on-requires : goal.starts-on-requires
starts-on-requires c = read_in c.requires.ready _ c.effects_of-end.ensures _ c.loop-e-test.true

pub effect_word-n-requires : goal.effect_word-n-requires
effect_word-n-requires c = (exists_in c.requires.ready _ c.effects_of-end.ensures _ c.loop-e-test.true, lit< tt)

pub bounds-found-n : goal.bounds-found-n
unfolding record_at
bounds-found-n c = rw c.effect_word-n.ensures (omega (
  arith,
  has_flag (read_in c.requires.ready _ c.effects_of-end.ensures _ c.loop-e-test.true),
  c.loop-e.invariant.long,
))

pub bounds-found-n-in-loop-e : goal.bounds-found-n-in-loop-e
unfolding record_at
bounds-found-n-in-loop-e c = rw c.effect_word-n.ensures (omega (
  arith,
  has_flag (read_in c.requires.ready _ c.effects_of-end.ensures _ c.loop-e-test.true),
  c.loop-e.invariant.long,
))

pub loop-e-preserved : goal.loop-e-preserved
unfolding record_at
loop-e-preserved c = more _ _ _ _ _ _ _ _ _ _ _ c.loop-e.invariant c.loop-e-test.true (sym c.effect_word.ensures ∙ c.if-effect_word-j.false)
    c.starts-on.ensures c.effect_word-n.ensures refl

pub returns : goal.returns
returns c =
    let z : c.loop-e.e ≡ c.effects_of-end.result.end = omega arith in
    collected_by c.requires.ready _ c.effects_of-end.ensures _ _ _ _ c.requires.outcome_at.0
    (rw z at c.loop-e.invariant) (λ l z. absurd (omega arith))
