-- `instances::judge_records` meets its contract: the records passed are good. Assumes nothing.
use Rattle.instances.proofs.Judging.{Judged}
use Rattle.instances.proofs.judge_records.Given as goal

abbrev pub invariant-loop-i : goal.invariant-loop-i
invariant-loop-i l = Judged l.s.words.now l.s.header l.rs l.i
