use lib.IntN.{pos}
use lib.ListN.{get_or}
use mir.Syntax.{w64}
use mir.Val.{SFits}
use mir.ValLaws.{to_z-of_z}
use native.Mathlib.Omega.{arith}
use Rattle.std.proofs.Common.{rules}
use Rattle.text.proofs.WriteLoops.{testing_more}
use Rattle.text.proofs.good_row.Goals as goal

pub loop-w-preserved : goal.loop-w-preserved
loop-w-preserved c = let fits : SFits w64 (get_or c.args.row.now c.loop-w.w-index (pos 0)) = search rules in
    rw (c.has_text-good.ensures, to_z-of_z w64 (get_or c.args.row.now c.loop-w.w-index (pos 0)) fits)
    (testing_more c.args.row.now c.loop-w.good c.loop-w.w-index (omega arith) c.loop-w.invariant)
