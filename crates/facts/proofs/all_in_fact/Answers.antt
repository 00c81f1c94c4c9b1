use mathlib.Core.Path.{sym, ◌∙◌}
use Rattle.std.proofs.Common.{rules, SFits, w64, get_or, pos}
use Prim.Native.Nat.{◌+◌}
use Rattle.signed.proofs.Fit.{back}
use Rattle.tables.proofs.Elements.{rest_zero, all_more, all_stops, all_ends}
use Rattle.facts.proofs.all_in_fact.Goals as goal

pub loop-i-init : goal.loop-i-init
loop-i-init c = rest_zero

pub returns-then-not-in_fact : goal.returns-then-not-in_fact
returns-then-not-in_fact c =
    let f : SFits w64 (get_or c.args.t.now (c.args.a + c.loop-i.i) (pos 0)) = search rules in
    all_stops c.loop-i.invariant c.loop-i-test.true
    (sym (rw (back f) at c.in_fact.ensures) ∙ c.if-not-in_fact.true)

pub loop-i-preserved : goal.loop-i-preserved
loop-i-preserved c =
    let f : SFits w64 (get_or c.args.t.now (c.args.a + c.loop-i.i) (pos 0)) = search rules in
    all_more c.loop-i.invariant c.loop-i-test.true
    (sym (rw (back f) at c.in_fact.ensures) ∙ c.if-not-in_fact.false)

pub returns : goal.returns
returns c = all_ends c.loop-i.invariant c.loop-i-test.false
