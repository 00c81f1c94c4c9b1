-- `operation::choose` meets its contract. Assumes nothing.
use Rattle.std.proofs.Common.{◌≡◌, ◌∙◌, sym, arith, rules}
use Rattle.words.specs.Record.{record_at}
use Rattle.operation.specs.Inner.{asks, about, FirstUnmatched}
use Rattle.operation.proofs.OutcomeLoop.{outset, ends_in, all_passed, over_this, over_other, not_wanted, the_first, the_second}
use Rattle.operation.proofs.Choices.{about_is, is_some_value, is_some_none}
use Rattle.operation.proofs.Targets.{outcomes_is, clear, flagged, flags_more}
use Rattle.operation.proofs.choose.Goals.{then-subject-j, else-subject-j, then-is_none_or+else-is_some, else-is_none_or}
use Rattle.operation.proofs.choose.Goals as goal

pub outcomes-init : goal.outcomes-init
outcomes-init c = (omega arith, outset c.requires _ _ c.effects_of-effects.ensures)

pub collect-stop-requires-clause-outcome_at : goal.collect-stop-requires-clause-outcome_at
collect-stop-requires-clause-outcome_at c = (c.outcomes.invariant.1.start, clear)

pub effect_word-n-requires : goal.effect_word-n-requires
effect_word-n-requires c =
    omega (arith, c.loop-e-test.true, ends_in c.requires _ _ _ _ _ _ _ c.outcomes.invariant.1 c.collect-stop.ensures)

pub bounds-found-n : goal.bounds-found-n
unfolding record_at
bounds-found-n c =
    let end = ends_in c.requires _ _ _ _ _ _ _ c.outcomes.invariant.1 c.collect-stop.ensures in
    rw c.effect_word-n.ensures (omega (arith, flagged c.args.s.now.accepted c.loop-e.e (omega (arith, c.loop-e-test.true, end))))

pub outcomes-preserved-then-not-found-n : goal.outcomes-preserved-then-not-found-n
unfolding record_at
outcomes-preserved-then-not-found-n c =
    let same = c.loop-e.invariant.1 in
    let s : about c.args.wanted ≡ c.unwrap_or-subject.result = sym (c.unwrap_or-subject.ensures ∙ about_is _) in
    let u : FirstUnmatched c.args.s.now.sheet.words.now c.args.s.now.sheet.header c.collect-stop.new.found c.outcomes.at c.collect-stop.result c.loop-e.e c.effect_word-n.result =
    record {
      low = c.loop-e.auto.e;
      high = c.loop-e-test.true;
      entity = c.effect_word-n.ensures;
      unmatched = c.if-not-found-n.true;
      earlier = c.loop-e.invariant.0;
    } in
    let few = c.outcomes.invariant.0 in
    let more = c.if-j-outcomes.false in
    elim c.if-subject-j.branch [
      | then-subject-j w ↦ (
        omega arith,
        rw (same, w.blocker-is)
            (over_this c.requires _ _ _ _ _ _ _ c.outcomes.invariant.1 c.collect-stop.ensures _ _ u (s ∙ w.if-subject-j.true ∙ same)),
      )
      | else-subject-j w ↦ (
        omega arith,
        rw (same, w.blocker-is, c.loop-e.invariant.2)
            (over_other c.requires _ _ _ _ _ _ _ c.outcomes.invariant.1 c.collect-stop.ensures _ _ u (λ e. w.if-subject-j.false (sym s ∙ e ∙ sym same))),
      )
    ]

pub loop-e-preserved : goal.loop-e-preserved
unfolding record_at
loop-e-preserved c = (
  flags_more c.args.s.now.sheet.words.now c.args.s.now.sheet.header _ _ _ c.loop-e.invariant.0 _ c.effect_word-n.ensures c.if-not-found-n.false,
  c.loop-e.invariant.1,
  c.loop-e.invariant.2,
)

pub outcomes-preserved : goal.outcomes-preserved
unfolding asks record_at
outcomes-preserved c =
    let same = c.loop-e.invariant.1 in
    let few = c.outcomes.invariant.0 in
    let more = c.if-j-outcomes.false in
    let p : asks c.args.wanted c.outcomes.j ≡ c.is_none_or.result = rw (sym same) (search rules) in
    elim c.if-is_none_or.branch [
      | then-is_none_or+else-is_some w ↦ (
        omega arith,
        rw (w.choice-is, same, c.loop-e.invariant.2)
            (the_first c.requires _ _ _ _ _ _ _ c.outcomes.invariant.1 c.collect-stop.ensures
            (λ d a b. c.loop-e.invariant.0 d a (omega (arith, c.loop-e-test.false))) (p ∙ w.if-is_none_or.true)
            (is_some_none (sym w.is_some.ensures ∙ w.if-is_some.false))),
      )
      | else-is_none_or w ↦ (
        omega arith,
        rw (w.choice-is, same, c.loop-e.invariant.2)
            (not_wanted c.requires _ _ _ _ _ _ _ c.outcomes.invariant.1 c.collect-stop.ensures
            (λ d a b. c.loop-e.invariant.0 d a (omega (arith, c.loop-e-test.false))) (p ∙ w.if-is_none_or.false)),
      )
    ]

pub returns-then-j-outcomes : goal.returns-then-j-outcomes
returns-then-j-outcomes c =
    rw c.ok_or.ensures.value (all_passed c.requires _ _ c.effects_of-effects.ensures _ _ _ (rw c.if-j-outcomes.true at c.outcomes.invariant.1))

pub returns-then-is_some : goal.returns-then-is_some
unfolding asks record_at
returns-then-is_some c =
    let same = c.loop-e.invariant.1 in
    let few = c.outcomes.invariant.0 in
    let more = c.if-j-outcomes.false in
    let p : asks c.args.wanted c.outcomes.j ≡ c.is_none_or.result = rw (sym same) (search rules) in
    let q = is_some_value (sym c.is_some.ensures ∙ c.if-is_some.true) in
    the_second c.requires _ _ _ _ _ _ _ c.outcomes.invariant.1 c.collect-stop.ensures
    (λ d a b. c.loop-e.invariant.0 d a (omega (arith, c.loop-e-test.false))) (p ∙ c.if-is_none_or.true) q.0 q.1
    (omega (arith, outcomes_is _ _ _ _ c.effects_of-effects.ensures))
