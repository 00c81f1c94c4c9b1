-- `instances::judge_records` meets its contract. Assumes nothing.
use Rattle.std.proofs.Common.{ap, not}
use Rattle.instances.proofs.Judging.{none_judged, one_more, bad_record, none_bad}
use Rattle.instances.proofs.judge_records.Goals as goal

pub loop-i-init : goal.loop-i-init
loop-i-init c = none_judged _ _ _

pub returns-then-not-good_record : goal.returns-then-not-good_record
returns-then-not-good_record c = bad_record _ _ _ c.loop-i.invariant c.loop-i-test.true c.good_record.ensures (ap not c.if-not-good_record.true)

pub loop-i-preserved : goal.loop-i-preserved
loop-i-preserved c = one_more _ _ _ c.loop-i.invariant c.loop-i-test.true c.good_record.ensures (ap not c.if-not-good_record.false)

pub returns : goal.returns
returns c = none_bad _ _ _ c.loop-i.invariant c.loop-i-test.false
