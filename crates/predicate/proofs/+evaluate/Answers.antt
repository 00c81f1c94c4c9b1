use mathlib.Core.Path.{◌∙◌}
use native.Mathlib.Omega.{arith}
use mathlib.Core.Path.{sym}
use Rattle.tables.proofs.Elements.{rest_zero}
use Rattle.signed.proofs.Fit.{back_of}
use Rattle.kinds.proofs.SweepLaws.{swept_more, swept_stop, swept_end}
use Rattle.tree.proofs.TreeLaws.{held as held-node, before}
use Rattle.predicate.proofs.BaseLaws.{there}
use Rattle.predicate.proofs.EvaluationLaws.{by_none, by_one, by_two, by_first, only_at, first_at, second_at, sweep_at, sweep_is}
use Rattle.predicate.proofs.+evaluate.Goals as goal

pub leaf_at-requires : goal.leaf_at-requires
leaf_at-requires t c =
    let m = by_none c.requires c.in-Zero.ensures in
    record { base_of = (m.based, held-node (there c.requires)); leaf_at = (m.able, m.reads) }

pub returns-in-Zero : goal.returns-in-Zero
returns-in-Zero t c = back_of c.leaf_at.result c.leaf_at.type_inv ∙ c.leaf_at.ensures _ ∙ (by_none c.requires c.in-Zero.ensures).is

pub quantifies_at-requires : goal.quantifies_at-requires
quantifies_at-requires t c = held-node (there c.requires)

pub elements_of-over-requires : goal.elements_of-over-requires
elements_of-over-requires t c = held-node (there c.requires)

pub loop-j-init : goal.loop-j-init
loop-j-init t c = rest_zero

pub overflow_add-first : goal.overflow_add-first
overflow_add-first t c = omega (arith, c.elements_of-over.ensures.small, c.loop-j-test.true, c.elements_of-over.ensures.count)

pub evaluate-v-requires : goal.evaluate-v-requires
evaluate-v-requires t c =
    let l = (before (there c.requires) c.in-One.ensures).0 in (
      omega (arith, l, c.decreases),
      rw c.elements_of-over.ensures.first ((sweep_at c.requires c.in-One.ensures (sym c.quantifies_at.ensures ∙ c.if-quantifies_at.true)).each _
          (rw c.elements_of-over.ensures.count at c.loop-j-test.true)),
    )

pub returns-then-settles : goal.returns-then-settles
returns-then-settles t c =
    let stop = swept_stop _ _ _ _ _ _ c.loop-j.invariant c.loop-j-test.true
    (rw c.evaluate-v.ensures
    at (sym (rw (back_of c.evaluate-v.result c.evaluate-v.type_inv) at c.settles.ensures) ∙ c.if-settles.true)) in
    back_of c.bit.result c.bit.type_inv
    ∙ rw (c.elements_of-over.ensures.exists, c.elements_of-over.ensures.first, c.elements_of-over.ensures.count) at (c.bit.ensures ∙ stop)
    ∙ sweep_is c.requires c.in-One.ensures (sym c.quantifies_at.ensures ∙ c.if-quantifies_at.true)

pub loop-j-preserved : goal.loop-j-preserved
loop-j-preserved t c = swept_more _ _ _ _ _ _ c.loop-j.invariant c.loop-j-test.true
    (rw c.evaluate-v.ensures
    at (sym (rw (back_of c.evaluate-v.result c.evaluate-v.type_inv) at c.settles.ensures) ∙ c.if-settles.false))

pub returns-then-quantifies_at : goal.returns-then-quantifies_at
returns-then-quantifies_at t c = back_of c.bit-then-quantifies_at.result c.bit-then-quantifies_at.type_inv
    ∙ rw (c.elements_of-over.ensures.exists, c.elements_of-over.ensures.first, c.elements_of-over.ensures.count) at (c.bit-then-quantifies_at.ensures ∙ swept_end _ _ _ _ _ _ c.loop-j.invariant c.loop-j-test.false)
    ∙ sweep_is c.requires c.in-One.ensures (sym c.quantifies_at.ensures ∙ c.if-quantifies_at.true)

pub evaluate-x-requires : goal.evaluate-x-requires
evaluate-x-requires t c =
    let l = (before (there c.requires) c.in-One.ensures).0 in
    (omega (arith, l, c.decreases), only_at c.requires c.in-One.ensures (sym c.quantifies_at.ensures ∙ c.if-quantifies_at.false))

pub joint_at-requires : goal.joint_at-requires
joint_at-requires t c = (
  held-node (there c.requires),
  rw (back_of c.evaluate-x.result c.evaluate-x.type_inv)
      (by_one c.requires c.in-One.ensures (sym c.quantifies_at.ensures ∙ c.if-quantifies_at.false) c.evaluate-x.ensures).able,
)

pub returns-else-quantifies_at : goal.returns-else-quantifies_at
returns-else-quantifies_at t c = back_of c.joint_at.result c.joint_at.type_inv
    ∙ rw (back_of c.evaluate-x.result c.evaluate-x.type_inv) at c.joint_at.ensures _ _ _ _ _
    ∙ (by_one c.requires c.in-One.ensures (sym c.quantifies_at.ensures ∙ c.if-quantifies_at.false) c.evaluate-x.ensures).is

pub evaluate-x-requires-in-Two : goal.evaluate-x-requires-in-Two
evaluate-x-requires-in-Two t c =
    let l = (before (there c.requires) c.in-Two.ensures).0 in
    (omega (arith, l, c.decreases), first_at c.requires c.in-Two.ensures)

pub decides_at-requires : goal.decides_at-requires
decides_at-requires t c = held-node (there c.requires)

pub returns-then-decides_at : goal.returns-then-decides_at
returns-then-decides_at t c = back_of c.evaluate-x-in-Two.result c.evaluate-x-in-Two.type_inv
    ∙ by_first c.requires c.in-Two.ensures c.evaluate-x-in-Two.ensures
    (sym (rw (back_of c.evaluate-x-in-Two.result c.evaluate-x-in-Two.type_inv) at c.decides_at.ensures) ∙ c.if-decides_at.true)

pub evaluate-y-requires : goal.evaluate-y-requires
evaluate-y-requires t c =
    let l = (before (there c.requires) c.in-Two.ensures).1.0 in
    (omega (arith, l, c.decreases), second_at c.requires c.in-Two.ensures)

pub joint_at-requires-in-Two : goal.joint_at-requires-in-Two
joint_at-requires-in-Two t c = (
  held-node (there c.requires),
  rw (back_of c.evaluate-x-in-Two.result c.evaluate-x-in-Two.type_inv, back_of c.evaluate-y.result c.evaluate-y.type_inv)
      (by_two c.requires c.in-Two.ensures c.evaluate-x-in-Two.ensures c.evaluate-y.ensures).able,
)

pub returns-else-decides_at : goal.returns-else-decides_at
returns-else-decides_at t c = back_of c.joint_at-in-Two.result c.joint_at-in-Two.type_inv
    ∙ rw (back_of c.evaluate-x-in-Two.result c.evaluate-x-in-Two.type_inv, back_of c.evaluate-y.result c.evaluate-y.type_inv)
    at c.joint_at-in-Two.ensures _ _ _ _ _
    ∙ (by_two c.requires c.in-Two.ensures c.evaluate-x-in-Two.ensures c.evaluate-y.ensures).is
