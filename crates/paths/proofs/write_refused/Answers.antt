-- `write_refused` meets its contract.
use Rattle.path_lines.proofs.Opening.{refused_short}
use Rattle.path_lines.specs.Output.{refused_line}
use Rattle.paths.proofs.Written.{put_back}
use Rattle.std.proofs.Common.{arith, sym, length-take-le, ◌≤◌, length}
use Rattle.paths.proofs.write_refused.Goals as goal

pub refusal-n-requires : goal.refusal-n-requires
refusal-n-requires g c = (omega (arith, c.requires), omega (arith, refused_short c.args.r c.requires))

pub slice_bounds-line-end : goal.slice_bounds-line-end
slice_bounds-line-end g c = omega (arith, c.refusal-n.ensures.0, refused_short c.args.r c.requires, c.refusal-n.auto.out)

pub slice_bounds-write_all-end : goal.slice_bounds-write_all-end
slice_bounds-write_all-end g c =
    sym (length-take-le _ _ (omega (arith, c.refusal-n.ensures.0, refused_short c.args.r c.requires, c.refusal-n.auto.out)))

pub returns-clause-bytes : goal.returns-clause-bytes
returns-clause-bytes g c =
    let room : length (refused_line c.args.r) ≤ 32 = omega (arith, refused_short c.args.r c.requires) in
    rw (put_back _ _ _ c.refusal-n.ensures.0 room) at (rw c.refusal-n.ensures.1 at c.in_ok-write_all.ensures.bytes)
