-- `facts::given_in_range` meets its contract: by the elements of a list, or by the value. Assumes nothing.
use mathlib.Core.Path.{sym, ◌∙◌}
use native.Mathlib.Omega.{arith}
use Rattle.std.proofs.Common.{rules, SFits, w64, get_or, pos}
use Rattle.signed.proofs.Fit.{back}
use Rattle.facts.specs.Faults.{good_list}
use Rattle.facts.proofs.UsedLaws.{list_slots, list_lengths}
use Rattle.facts.proofs.FaultLaws.{lent_list, lent_value}
use Rattle.facts.proofs.given_in_range.Goals as goal

pub bounds-lengths-at : goal.bounds-lengths-at
bounds-lengths-at c = omega (
  arith,
  c.requires.1.length,
  c.requires.0.used.lengths,
  list_lengths c.args.s.now c.args.k (sym c.is_list.ensures ∙ c.if-is_list.true),
)

pub good_list-requires : goal.good_list-requires
good_list-requires c = (
  c.requires.0.words,
  omega (
    arith,
    c.requires.1.slots,
    c.requires.0.used.slots,
    list_slots c.args.s.now c.args.k (sym c.is_list.ensures ∙ c.if-is_list.true),
  ),
)

pub returns-then-is_list : goal.returns-then-is_list
unfolding good_list
returns-then-is_list c =
    let e = sym c.is_list.ensures ∙ c.if-is_list.true in
    let f : SFits w64 (get_or c.args.given.now c.args.k (pos 0)) = search rules in
    let g : SFits w64 (get_or c.args.lengths.now c.args.used.lengths (pos 0)) = search rules in
    rw (
      c.same-flag.ensures,
      back f,
      c.good_list.ensures,
      c.num.ensures,
      back g,
      c.requires.0.used.slots,
      c.requires.0.used.lengths,
      lent_list,
      good_list,
    )

pub returns-else-is_list : goal.returns-else-is_list
returns-else-is_list c =
    let e = sym c.is_list.ensures ∙ c.if-is_list.false in
    let f : SFits w64 (get_or c.args.given.now c.args.k (pos 0)) = search rules in
    let g : SFits w64 (get_or c.args.values.now c.args.k (pos 0)) = search rules in
    rw (
      c.same-flag.ensures,
      back f,
      c.in_fact.ensures,
      back g,
      lent_value,
    )
