use mathlib.Core.Path.{◌≡◌, sym, ◌∙◌}
use mir.Syntax.{w64}
use mir.Val.{SFits}
use mir.ValLaws.{to_z-of_z}
use native.Mathlib.Omega.{arith}
use Rattle.std.specs.Prelude.{Some}
use Rattle.std.proofs.Common.{rules}
use Rattle.decimal.specs.Scan.{field_at}
use Rattle.text.specs.Steps.{end_of}
use Rattle.text.proofs.ReadLoops.{storing_none, storing_more}
use Rattle.text.proofs.store.Goals as goal

pub loop-i-init : goal.loop-i-init
loop-i-init c = storing_none c.args.text.now c.requires.0 c.args.words.now c.requires.1

pub loop-i-preserved : goal.loop-i-preserved
loop-i-preserved c = let fits : SFits w64 c.unwrap-field.result.value = search rules in
    let found : field_at c.args.text.now c.loop-i.at (end_of c.loop-i.i) ≡ Some c.unwrap-field.result =
    rw c.ending.ensures at (sym c.field_at.ensures ∙ c.unwrap-field.ensures) in
    rw (to_z-of_z w64 c.unwrap-field.result.value fits)
    (storing_more c.args.text.now c.requires.0 c.loop-i.words c.loop-i.at c.loop-i.i c.loop-i.invariant (omega arith) c.unwrap-field.result found)
