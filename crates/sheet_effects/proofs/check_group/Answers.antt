use Rattle.sheet_effects.proofs.Scan.{begin, inside, stop_first, stop_second, flagged, few, again}
use Rattle.records.specs.Operations.{good_effect}
use Rattle.records.proofs.Scans.{stopped, ended}
use native.Mathlib.Omega.{arith}
use mathlib.Core.Path.{refl}
use Rattle.sheet_effects.proofs.check_group.Goals as goal

pub loop-e-init : goal.loop-e-init
loop-e-init c = begin c.requires.2

pub overflow_add-n : goal.overflow_add-n
overflow_add-n c = omega (
  arith,
  inside _ _ _ _ _ _ _ _ _ _ c.requires.0 c.requires.1 c.loop-e.invariant c.loop-e-test.true,
  c.requires.0.sized.limits,
  c.requires.0.sized.long,
  c.first_effect-base.ensures,
)

pub record_at-r-requires : goal.record_at-r-requires
record_at-r-requires c = omega (
  arith,
  inside _ _ _ _ _ _ _ _ _ _ c.requires.0 c.requires.1 c.loop-e.invariant c.loop-e-test.true,
  c.requires.0.sized.limits,
  c.requires.0.sized.long,
  c.first_effect-base.ensures,
)

pub good_outcome-good-requires : goal.good_outcome-good-requires
good_outcome-good-requires c = c.loop-e.invariant.small

pub returns-then-not-good_change-unused-clause-value : goal.returns-then-not-good_change-unused-clause-value
returns-then-not-good_change-unused-clause-value c = stopped _ (good_effect c.args.s.now.words.now c.args.s.now.header) _ c.loop-e.e
    (omega (arith, c.first_effect-base.ensures)) c.loop-e-test.true c.loop-e.invariant.seen.good
    (stop_first _ _ _ _ _ _ _ _ _ _ c.requires.0 c.requires.1 c.loop-e.invariant c.loop-e-test.true
    c.first_effect-base.ensures c.record_at-r.ensures c.good_change.ensures c.unused.ensures
    c.good_outcome-good.ensures c.if-not-good_change-unused.true)

pub overflow_add-stamp : goal.overflow_add-stamp
overflow_add-stamp c = omega (
  arith,
  c.requires.1.here,
  c.requires.0.sized.limits.operations,
  few _ _ _ _ _ _ _ _ _ _ c.requires.0 c.requires.1 c.loop-e.invariant c.loop-e-test.true
      c.first_effect-base.ensures c.record_at-r.ensures c.good_change.ensures
      c.unused.ensures c.good_outcome-good.ensures c.if-not-good_change-unused.false,
)

pub overflow_add-stamp-in-loop-e : goal.overflow_add-stamp-in-loop-e
overflow_add-stamp-in-loop-e c = omega (
  arith,
  c.requires.1.here,
  c.requires.0.sized.limits.operations,
  few _ _ _ _ _ _ _ _ _ _ c.requires.0 c.requires.1 c.loop-e.invariant c.loop-e-test.true
      c.first_effect-base.ensures c.record_at-r.ensures c.good_change.ensures
      c.unused.ensures c.good_outcome-good.ensures c.if-not-good_change-unused.false,
)

pub fresh-requires : goal.fresh-requires
fresh-requires c = let z = flagged _ _ _ _ _ _ _ _ _ _ c.requires.0 c.requires.1 c.loop-e.invariant c.loop-e-test.true
    c.first_effect-base.ensures c.record_at-r.ensures c.good_change.ensures c.unused.ensures
    c.good_outcome-good.ensures c.if-not-good_change-unused.false in (
      omega (arith, c.requires.0.sized.limits.entities),
      omega (arith, c.requires.0.declared.room),
      omega (arith, c.loop-e.invariant.seen.long, c.loop-e.invariant.seen.room),
    )

pub returns-then-not-fresh-clause-value : goal.returns-then-not-fresh-clause-value
returns-then-not-fresh-clause-value c = stopped _ (good_effect c.args.s.now.words.now c.args.s.now.header) _ c.loop-e.e
    (omega (arith, c.first_effect-base.ensures)) c.loop-e-test.true c.loop-e.invariant.seen.good
    (stop_second _ _ _ _ _ _ _ _ _ _ c.requires.0 c.requires.1 c.loop-e.invariant c.loop-e-test.true
    c.first_effect-base.ensures c.record_at-r.ensures c.good_change.ensures c.unused.ensures
    c.good_outcome-good.ensures c.if-not-good_change-unused.false refl c.fresh.ensures c.if-not-fresh.true)

pub source_of-requires : goal.source_of-requires
source_of-requires c = let z = flagged _ _ _ _ _ _ _ _ _ _ c.requires.0 c.requires.1 c.loop-e.invariant c.loop-e-test.true
    c.first_effect-base.ensures c.record_at-r.ensures c.good_change.ensures c.unused.ensures
    c.good_outcome-good.ensures c.if-not-good_change-unused.false in
    omega (arith, c.requires.0.sized.limits.entities)

pub bounds-seen-source_of : goal.bounds-seen-source_of
bounds-seen-source_of c = let z = flagged _ _ _ _ _ _ _ _ _ _ c.requires.0 c.requires.1 c.loop-e.invariant c.loop-e-test.true
    c.first_effect-base.ensures c.record_at-r.ensures c.good_change.ensures c.unused.ensures
    c.good_outcome-good.ensures c.if-not-good_change-unused.false in
    omega (arith, c.source_of.ensures, c.loop-e.invariant.seen.long, c.loop-e.invariant.seen.room, c.requires.0.sized.limits.entities)

pub loop-e-preserved : goal.loop-e-preserved
loop-e-preserved c = rw c.source_of.ensures (again _ _ _ _ _ _ _ _ _ _ c.requires.0 c.requires.1 c.loop-e.invariant c.loop-e-test.true
    c.first_effect-base.ensures c.record_at-r.ensures c.good_change.ensures c.unused.ensures
    c.good_outcome-good.ensures c.if-not-good_change-unused.false refl c.fresh.ensures c.if-not-fresh.false)

pub returns-clause-value : goal.returns-clause-value
returns-clause-value c = ended _ (good_effect c.args.s.now.words.now c.args.s.now.header) _ (λ j l. c.loop-e.invariant.seen.good j (omega (arith, c.requires.1)))
