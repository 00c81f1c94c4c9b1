use native.Mathlib.Omega.{arith}
use mathlib.Core.Path.{◌∙◌}
use Rattle.std.proofs.Common.{rules, SFits, w64, get_or, pos}
use Rattle.signed.proofs.Fit.{back, back_of}
use Rattle.facts.proofs.Filled.{none, more, done}
use Rattle.facts.specs.Assembled.{assembled_values}
use Rattle.facts.proofs.fill_defaults.Goals as goal

pub loop-k-init : goal.loop-k-init
loop-k-init c = none _ _ _ _ (search rules)

pub loop-k-preserved : goal.loop-k-preserved
loop-k-preserved c =
    let f : SFits w64 (get_or c.loop-k.values c.loop-k.k (pos 0)) = search rules in
    let g : SFits w64 (get_or c.args.given.now c.loop-k.k (pos 0)) = search rules in
    more _ _ _ _ _ _ _ c.loop-k.invariant c.loop-k-test.true
    (back_of c.take_fact.result c.take_fact.type_inv
    ∙ rw (
      back f,
      back g,
      c.loop-k.invariant.rest c.loop-k.k (omega arith),
    ) at c.take_fact.ensures)

pub returns : goal.returns
unfolding assembled_values
returns c = done _ _ _ _ _ _ c.loop-k.invariant c.loop-k-test.false
