use mathlib.Core.Path.{refl, sym, ◌∙◌}
use Rattle.facts.specs.Faults.{facts_fault}
use Rattle.facts.proofs.Refused.{none, more, stopped, ended}
use Rattle.facts.proofs.UsedLaws.{none as none-used, at_fact, lent_at}
use Rattle.std.proofs.lemmas.Result.{err_from_is_err_and}
use Rattle.facts.proofs.judge_facts.Goals as goal

pub loop-k-init : goal.loop-k-init
loop-k-init c = (none _ _, none-used _ _ refl refl)

pub fact_fault-requires : goal.fact_fault-requires
fact_fault-requires c = (at_fact c.args.s.now.accepted c.loop-k-test.true c.loop-k.invariant.1, lent_at c.requires c.loop-k-test.true)

pub returns-in_err-fact_fault : goal.returns-in_err-fact_fault
unfolding facts_fault
returns-in_err-fact_fault c =
    let p = err_from_is_err_and c.from_residual.result c.from_residual.ensures.1 in
    rw (p.1, p.2) (sym (stopped _ _ _ _ c.loop-k.invariant.0 c.loop-k-test.true (sym c.fact_fault.ensures ∙ c.in_err-fact_fault.was)))

pub more-used-requires : goal.more-used-requires
more-used-requires c = at_fact c.args.s.now.accepted c.loop-k-test.true c.loop-k.invariant.1

pub loop-k-preserved : goal.loop-k-preserved
loop-k-preserved c = (
  more _ _ _ c.loop-k.invariant.0 c.loop-k-test.true
      (sym c.fact_fault.ensures ∙ c.in_ok-fact_fault.was),
  c.more-used.ensures,
)

pub returns : goal.returns
unfolding facts_fault
returns c = sym (ended _ _ _ c.loop-k.invariant.0 c.loop-k-test.false)
