-- `facts::fact_fault` meets its contract: each way out is a case of the fault. Assumes nothing.
use mathlib.Core.Path.{sym, ◌∙◌}
use borrow.Author.Tests.{eq-eqb, ne_eqb}
use Rattle.std.proofs.Common.{rules, SFits, w64, get_or, pos}
use Rattle.signed.proofs.Fit.{back}
use Rattle.facts.proofs.FaultLaws.{defaulted, absent, fair, unfair}
use Rattle.facts.proofs.fact_fault.Goals as goal

pub returns-then-number-eq1 : goal.returns-then-number-eq1
returns-then-number-eq1 c =
    let f : SFits w64 (get_or c.args.given.now c.args.k (pos 0)) = search rules in
    sym (defaulted _ _ _ (sym (rw (back f) at c.same.ensures) ∙ c.if-same.true)
    (eq-eqb _ 1 (sym c.number.ensures ∙ c.if-number-eq1.true)))

pub returns-else-number-eq1 : goal.returns-else-number-eq1
returns-else-number-eq1 c =
    let f : SFits w64 (get_or c.args.given.now c.args.k (pos 0)) = search rules in
    sym (absent _ _ _ (sym (rw (back f) at c.same.ensures) ∙ c.if-same.true)
    (ne_eqb _ 1 (λ e. c.if-number-eq1.false (c.number.ensures ∙ e))))

pub returns-then-given_in_range : goal.returns-then-given_in_range
returns-then-given_in_range c =
    let f : SFits w64 (get_or c.args.given.now c.args.k (pos 0)) = search rules in
    sym (fair _ _ _ (sym (rw (back f) at c.same.ensures) ∙ c.if-same.false)
    (sym c.given_in_range.ensures ∙ c.if-given_in_range.true))

pub returns-else-given_in_range : goal.returns-else-given_in_range
returns-else-given_in_range c =
    let f : SFits w64 (get_or c.args.given.now c.args.k (pos 0)) = search rules in
    sym (unfair _ _ _ (sym (rw (back f) at c.same.ensures) ∙ c.if-same.false)
    (sym c.given_in_range.ensures ∙ c.if-given_in_range.false))
