-- `facts::hold_fact` meets its contract: a list by the place and number of its elements, another fact by its value. Assumes nothing.
use mathlib.Core.Path.{sym, ◌∙◌}
use native.Mathlib.Omega.{arith}
use Rattle.std.proofs.Common.{rules, SFits, w64, get_or, pos}
use Rattle.signed.proofs.Fit.{back, back_of}
use Rattle.facts.proofs.HeldLaws.{word_list, word_single}
use Rattle.facts.proofs.hold_fact.Goals as goal

pub bounds-lengths-at : goal.bounds-lengths-at
bounds-lengths-at c = (c.requires.lengths_in_bounds (sym c.is_list.ensures ∙ c.if-is_list.true)).0

pub overflow_add-used : goal.overflow_add-used
overflow_add-used c =
    let g : SFits w64 (get_or c.args.lengths.now c.args.used.lengths (pos 0)) = search rules in
    let q = (c.requires.lengths_in_bounds (sym c.is_list.ensures ∙ c.if-is_list.true)).1 in
    omega (arith, q, rw (back g) at c.num.ensures)

pub to_word-requires : goal.to_word-requires
to_word-requires c =
    let g : SFits w64 (get_or c.args.lengths.now c.args.used.lengths (pos 0)) = search rules in
    let q = (c.requires.lengths_in_bounds (sym c.is_list.ensures ∙ c.if-is_list.true)).1 in
    omega (arith, q, rw (back g) at c.num.ensures)

pub returns-then-is_list : goal.returns-then-is_list
returns-then-is_list c =
    let g : SFits w64 (get_or c.args.lengths.now c.args.used.lengths (pos 0)) = search rules in
    back_of c.to_word.result c.to_word.type_inv
    ∙ c.to_word.ensures
    ∙ rw (c.num.ensures, back g, c.requires.at_fact.0.used.slots, c.requires.at_fact.0.used.lengths)
    (sym (word_list _ _ _ _ _ (sym c.is_list.ensures ∙ c.if-is_list.true)))

pub returns-else-is_list : goal.returns-else-is_list
returns-else-is_list c =
    let f : SFits w64 (get_or c.args.given.now c.args.k (pos 0)) = search rules in
    let g : SFits w64 (get_or c.args.values.now c.args.k (pos 0)) = search rules in
    back_of c.take_fact.result c.take_fact.type_inv
    ∙ rw (back g, back f) at c.take_fact.ensures
    ∙ sym (word_single _ _ _ _ _ (sym c.is_list.ensures ∙ c.if-is_list.false))
