-- `run::run` meets its contract: the rest of the same run is still to come, until it is finished. Assumes nothing.
use Rattle.run.specs.Memo.{Memo}
use Rattle.run.proofs.RunLoop.{Ongoing}
use Rattle.records.specs.Flows.{flow_of}
use Rattle.facts.specs.Inner.{held}
use Prim.Native.Nat.{◌-◌}
use lib.ListN.{length}
use Rattle.run.proofs.run.Given as goal

abbrev pub invariant-loop-w : goal.invariant-loop-w
invariant-loop-w l = Ongoing l.s.sheet.words.now l.s.sheet.header (held l.s.sheet.words.now l.facts l.lists) l.verdicts l.initial.states (flow_of l.s.sheet.words.now l.s.sheet.header l.initial.w.step) l.wanted l.initial.path l.states l.path l.w
    × Memo l.s.sheet.words.now l.s.sheet.header (held l.s.sheet.words.now l.facts l.lists) l.verdicts l.memo.known

abbrev pub decreases-loop-w : goal.decreases-loop-w
decreases-loop-w l = length l.initial.path - l.w.length
