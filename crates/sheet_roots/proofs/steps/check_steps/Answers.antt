use native.Mathlib.Omega.{arith}
use Rattle.records.specs.Flows.{good_step}
use Rattle.records.proofs.Scans.{stopped, ended}
use Rattle.sheet_roots.proofs.StepScan.{begin, fits, again, stop}
use Rattle.sheet_roots.proofs.steps.check_steps.Goals as goal

pub loop-k-init : goal.loop-k-init
loop-k-init c = begin c.requires.1

pub good_kind-requires : goal.good_kind-requires
good_kind-requires c = c.requires.2

pub returns-then-not-good-clause-value : goal.returns-then-not-good-clause-value
returns-then-not-good-clause-value c = stopped _ (good_step c.args.s.now.words.now c.args.s.now.header) _ c.loop-k.k
    (omega (arith, c.first_step-base.ensures)) c.loop-k-test.true c.loop-k.invariant.good
    (stop c.loop-k.invariant c.loop-k-test.true c.first_step-base.ensures c.record_at-r.ensures c.root-rooted.ensures
    c.good_kind.ensures c.unused.ensures c.if-not-good.true)

pub overflow_add-sum : goal.overflow_add-sum
overflow_add-sum c = omega (
  arith,
  fits c.loop-k.invariant c.loop-k-test.true c.first_step-base.ensures c.record_at-r.ensures c.requires.0,
  c.args.s.now.sized.limits.routes,
)

pub loop-k-preserved : goal.loop-k-preserved
loop-k-preserved c = again c.loop-k.invariant c.loop-k-test.true c.first_step-base.ensures c.record_at-r.ensures
    c.root-rooted.ensures c.good_kind.ensures c.unused.ensures c.if-not-good.false c.mark.ensures

pub returns : goal.returns
returns c = record {
  value = ended _ (good_step c.args.s.now.words.now c.args.s.now.header) _ (λ j l. c.loop-k.invariant.good j (omega arith));
  flagged = c.loop-k.invariant.flagged;
}
