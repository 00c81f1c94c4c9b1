use Rattle.records.specs.Flows.{good_flow}
use Rattle.records.proofs.Scans.{stopped, ended}
use Rattle.sheet_flows.proofs.Flows.{begin, fits, again, stop}
use native.Mathlib.Omega.{arith}
use Rattle.sheet_flows.proofs.check_flows.Goals as goal

pub loop-k-init : goal.loop-k-init
loop-k-init c = begin _ _

pub overflow_add-sum : goal.overflow_add-sum
overflow_add-sum c = omega (
  arith,
  fits _ _ _ _ c.loop-k.invariant c.loop-k-test.true c.first_flow-base.ensures c.record_at-r.ensures
      c.unused.ensures c.requires,
  c.args.s.now.sized.limits.steps,
)

pub loop-k-preserved : goal.loop-k-preserved
loop-k-preserved c = again _ _ _ _ c.loop-k.invariant c.loop-k-test.true c.first_flow-base.ensures c.record_at-r.ensures
    c.unused.ensures c.if-not-r-sum.false

pub returns-then-not-r-sum : goal.returns-then-not-r-sum
returns-then-not-r-sum c = stopped _ (good_flow c.args.s.now.words.now c.args.s.now.header) _ c.loop-k.k (omega (arith, c.first_flow-base.ensures))
    c.loop-k-test.true c.loop-k.invariant.good
    (stop _ _ _ _ c.loop-k.invariant c.loop-k-test.true c.first_flow-base.ensures c.record_at-r.ensures
    c.unused.ensures c.if-not-r-sum.true)

pub returns : goal.returns
returns c = ended _ (good_flow c.args.s.now.words.now c.args.s.now.header) _ (λ j l. c.loop-k.invariant.good j (omega arith))
