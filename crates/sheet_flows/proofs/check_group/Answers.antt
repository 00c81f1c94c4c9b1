use Rattle.records.specs.Flows.{good_route}
use Rattle.records.proofs.Scans.{stopped, ended}
use Rattle.sheet_flows.proofs.Routes.{inside, again, stop}
use native.Mathlib.Omega.{arith}
use Rattle.sheet_flows.proofs.check_group.Goals as goal

pub loop-k-init : goal.loop-k-init
loop-k-init c = record { low = omega arith; good = c.requires.2 }

pub overflow_add-n : goal.overflow_add-n
overflow_add-n c = omega (
  arith,
  inside _ _ _ _ _ _ _ c.requires.0 c.requires.1 c.loop-k.invariant c.loop-k-test.true,
  c.requires.0.sized.limits,
  c.requires.0.sized.long,
  c.first_route-base.ensures,
)

pub record_at-requires : goal.record_at-requires
record_at-requires c = omega (
  arith,
  inside _ _ _ _ _ _ _ c.requires.0 c.requires.1 c.loop-k.invariant c.loop-k-test.true,
  c.requires.0.sized.limits,
  c.requires.0.sized.long,
  c.first_route-base.ensures,
)

pub loop-k-preserved : goal.loop-k-preserved
loop-k-preserved c = again _ _ _ _ _ _ _ c.requires.0 c.requires.1 c.loop-k.invariant c.loop-k-test.true
    c.first_route-base.ensures c.record_at.ensures c.good_route_of.ensures c.if-not-good_route_of.false

pub returns-then-not-good_route_of : goal.returns-then-not-good_route_of
returns-then-not-good_route_of c = stopped _ (good_route c.args.s.now.words.now c.args.s.now.header) _ c.loop-k.k (omega (arith, c.first_route-base.ensures))
    c.loop-k-test.true c.loop-k.invariant.good
    (stop _ _ _ _ _ _ _ c.requires.0 c.requires.1 c.loop-k.invariant c.loop-k-test.true
    c.first_route-base.ensures c.record_at.ensures c.good_route_of.ensures c.if-not-good_route_of.true)

pub returns : goal.returns
returns c = ended _ (good_route c.args.s.now.words.now c.args.s.now.header) _ (λ j l. c.loop-k.invariant.good j (omega (arith, c.requires.1)))
