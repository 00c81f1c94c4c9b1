use Rattle.records.specs.Entities.{good_transition}
use mathlib.Core.Path.{subst}
use Rattle.sheet_states.proofs.Flags.{none, small, again, stop}
use Rattle.sheet_states.specs.Flags.{Declared}
use Rattle.records.proofs.Scans.{stopped, ended}
use native.Mathlib.Omega.{arith}
use Prim.Native.Nat.{ℕ}
use lib.ListN.{length}
use Rattle.sheet_states.proofs.check_transitions.Goals as goal

pub loop-k-init : goal.loop-k-init
loop-k-init c = none _ _ _ _ c.requires.1 c.requires.2

pub place_of-requires : goal.place_of-requires
place_of-requires c = let z = small _ _ _ _ c.loop-k.invariant c.first_transition-base.ensures c.record_at-r.ensures
    c.good_change.ensures c.unused.ensures c.requires.0 c.if-not-good_change-unused.false in
    omega (arith, c.args.s.now.sized.limits.entities)

pub bounds-declared-place_of : goal.bounds-declared-place_of
bounds-declared-place_of c = let z = (small _ _ _ _ c.loop-k.invariant c.first_transition-base.ensures c.record_at-r.ensures
    c.good_change.ensures c.unused.ensures c.requires.0 c.if-not-good_change-unused.false) in
    omega (arith, c.loop-k.invariant.long, c.loop-k.invariant.room, c.place_of.ensures)

pub loop-k-preserved : goal.loop-k-preserved
loop-k-preserved c = again _ _ _ _ c.loop-k.invariant c.first_transition-base.ensures c.record_at-r.ensures
    c.good_change.ensures c.unused.ensures
    (small _ _ _ _ c.loop-k.invariant c.first_transition-base.ensures c.record_at-r.ensures
    c.good_change.ensures c.unused.ensures c.requires.0 c.if-not-good_change-unused.false) c.if-not-good_change-unused.false
    c.place_of.ensures

pub returns-then-not-good_change-unused-clause-value : goal.returns-then-not-good_change-unused-clause-value
returns-then-not-good_change-unused-clause-value c = stopped _ (good_transition c.args.s.now.words.now c.args.s.now.header) _ c.loop-k.k
    (omega (arith, c.first_transition-base.ensures)) c.loop-k-test.true c.loop-k.invariant.good
    (stop _ _ _ _ c.loop-k.invariant c.first_transition-base.ensures c.record_at-r.ensures
    c.good_change.ensures c.unused.ensures c.if-not-good_change-unused.true)

pub returns : goal.returns
returns c = record {
  value = ended _ (good_transition c.args.s.now.words.now c.args.s.now.header) _ (λ j l. c.loop-k.invariant.good j (omega arith));
  declared = subst
      (λ (n : ℕ). Declared c.args.s.now.words.now c.args.s.now.header (length c.args.declared.now) n c.loop-k.declared)
      (omega arith) c.loop-k.invariant;
}
