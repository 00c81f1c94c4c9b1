-- `facts::Used::more` meets its contract: a list uses its largest and one length. Assumes nothing.
use mathlib.Core.Path.{sym, ◌∙◌}
use native.Mathlib.Omega.{arith}
use Rattle.facts.proofs.UsedLaws.{past_list, past_other, list_slots}
use borrow.Author.Rules.{rules}
use Rattle.facts.proofs.Used.more.Goals as goal

pub overflow_add-result : goal.overflow_add-result
overflow_add-result c = omega (arith, list_slots c.args.s.now c.args.k (sym c.is_list.ensures ∙ c.if-is_list.true))

pub returns-then-is_list : goal.returns-then-is_list
returns-then-is_list c = past_list _ _ _ c.requires.used (sym c.is_list.ensures ∙ c.if-is_list.true)
    (rw c.number-largest.ensures) (search rules)

pub returns-else-is_list : goal.returns-else-is_list
returns-else-is_list c = past_other _ _ _ c.requires.used (sym c.is_list.ensures ∙ c.if-is_list.false)
