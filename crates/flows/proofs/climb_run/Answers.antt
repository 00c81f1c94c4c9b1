-- `flows::climb_run` meets its contract: past every rung the run can begin. Assumes nothing.
use mathlib.Core.Path.{sym, ◌∙◌}
use Rattle.signed.proofs.Fit.{back}
use Rattle.instances.proofs.Gathering.{head_gathered}
use Rattle.flows.proofs.FlowCallLaws.{right_lengths, going_past}
use Rattle.flows.proofs.climb_run.Goals as goal

pub returns-clause-ready : goal.returns-clause-ready
returns-clause-ready c =
    let sheet = c.in_ok-k.k.accepted in
    let lengths = right_lengths _ _ _ _ c.args.flow c.args.wanted.now _
    (rw (c.facts_lent.ensures.value, c.states_lent.ensures, c.steps_or.ensures, c.steps_or-2.ensures, back c.ranges.flow)
    at c.in_ok-unless.ensures.passed) in
    let named = rw (back c.ranges.flow) at (sym c.run_named-known.ensures.value ∙ c.in_ok-unless-2.ensures.passed) in
    record {
      asked = going_past _ _ _ c.args.flow c.args.wanted.now c.args.path.now sheet lengths
          (sym c.judge_facts.ensures ∙ c.in_ok-judge_facts.was) (sym c.judge_records.ensures ∙ c.in_ok-judge_records.was) named;
      head = head_gathered _ _ (c.run_named-known.ensures.head_gathered c.in_ok-unless-2.ensures.passed) sheet.sized.limits.entities;
    }
