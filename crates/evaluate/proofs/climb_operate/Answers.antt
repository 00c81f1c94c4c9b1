-- `evaluate::climb_operate` meets its contract: past every rung the operation can be attempted. Assumes nothing.
use mathlib.Core.Path.{sym, ◌∙◌}
use Rattle.signed.proofs.Fit.{back}
use Rattle.tables.proofs.Bools.{and_left}
use Rattle.instances.proofs.Gathering.{head_gathered}
use Rattle.evaluate.proofs.EvaluateLaws.{asked_past}
use Rattle.evaluate.proofs.climb_operate.Goals as goal

pub returns-clause-ready : goal.returns-clause-ready
returns-clause-ready c =
    let sheet = c.in_ok-k.k.accepted in
    let faultless = sym c.judge_records.ensures ∙ c.in_ok-judge_records.was in
    let named = rw (back c.ranges.persona, back c.ranges.operation, back c.ranges.wanted)
    at (sym c.operate_named-known.ensures.value ∙ c.in_ok-unless-2.ensures.passed) in
    record {
      asked = asked_past _ _ _ c.args.persona c.args.operation c.args.wanted sheet
          (c.facts_lent.ensures.all (and_left c.facts_lent.result c.states_lent.result c.in_ok-unless.ensures.passed))
          (sym c.judge_facts.ensures ∙ c.in_ok-judge_facts.was) faultless named;
      faultless = faultless;
      head = head_gathered _ _ (c.operate_named-known.ensures.head_gathered c.in_ok-unless-2.ensures.passed) sheet.sized.limits.entities;
    }
