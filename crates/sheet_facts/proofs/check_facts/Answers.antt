use Rattle.records.proofs.Scans.{stopped, ended}
use Rattle.sheet_facts.proofs.Maxes.{none, room, again, stop}
use native.Mathlib.Omega.{arith}
use Rattle.sheet_facts.proofs.check_facts.Goals as goal

pub loop-k-init : goal.loop-k-init
loop-k-init c = none _

pub returns-then-not-good_alone-agrees : goal.returns-then-not-good_alone-agrees
returns-then-not-good_alone-agrees c = stopped 0 _ _ _ (omega arith) c.loop-k-test.true c.loop-k.invariant.good
    (stop _ _ _ c.loop-k.invariant c.record_at-r.ensures c.entry-seen.ensures c.good_alone.ensures
    c.agrees.ensures c.if-not-good_alone-agrees.true)

pub note-requires : goal.note-requires
note-requires c = room _ _ _ c.loop-k.invariant c.record_at-r.ensures c.entry-seen.ensures c.good_alone.ensures
    c.agrees.ensures c.if-not-good_alone-agrees.false

pub loop-k-preserved : goal.loop-k-preserved
loop-k-preserved c = again _ _ _ c.loop-k.invariant c.record_at-r.ensures c.entry-seen.ensures c.good_alone.ensures
    c.agrees.ensures c.if-not-good_alone-agrees.false c.note.ensures

pub returns : goal.returns
returns c = ended 0 _ _ (λ j l. c.loop-k.invariant.good j (omega arith))
