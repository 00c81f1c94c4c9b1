use Rattle.records.specs.Entities.{good_entity}
use Rattle.layout.specs.Tables.{entity}
use Rattle.tables.proofs.Scans.{extend_one}
use Rattle.records.proofs.Scans.{stopped, ended}
use native.Mathlib.Omega.{arith}
use mathlib.Core.Bool.{true}
use mathlib.Core.Path.{◌≡◌}
use Prim.Native.Nat.{ℕ}
use Rattle.sheet_states.proofs.check_entities.Goals as goal

pub loop-k-preserved : goal.loop-k-preserved
loop-k-preserved c = extend_one (λ (j : ℕ). good_entity (entity c.args.s.now.words.now c.args.s.now.header j) ≡ true) _ c.loop-k.invariant
    (rw (← c.first_entity-base.ensures, ← c.record_at.ensures, ← c.good_entity.ensures) c.if-not-good_entity.false)

pub returns-then-not-good_entity : goal.returns-then-not-good_entity
returns-then-not-good_entity c = stopped _ (λ (e : ℕ). good_entity (entity c.args.s.now.words.now c.args.s.now.header e)) _ c.loop-k.k
    (omega (arith, c.first_entity-base.ensures)) c.loop-k-test.true c.loop-k.invariant
    (rw (← c.first_entity-base.ensures, ← c.record_at.ensures, ← c.good_entity.ensures) c.if-not-good_entity.true)

pub returns : goal.returns
returns c = ended _ (λ (e : ℕ). good_entity (entity c.args.s.now.words.now c.args.s.now.header e)) _ (λ j l. c.loop-k.invariant j (omega arith))
