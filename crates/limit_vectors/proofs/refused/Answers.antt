-- `refused` is safe: the line has room.
use Rattle.path_lines.proofs.Opening.{refused_short}
use Rattle.std.proofs.Common.{arith, sym, length-take-le}
use Rattle.limit_vectors.proofs.refused.Goals as goal

pub refusal-n-requires : goal.refusal-n-requires
refusal-n-requires g c = (omega (arith, c.requires), omega (arith, refused_short c.args.r c.requires))

pub slice_bounds-line-end : goal.slice_bounds-line-end
slice_bounds-line-end g c = omega (arith, c.refusal-n.ensures.0, refused_short c.args.r c.requires, c.refusal-n.auto.out)

pub slice_bounds-write_all-end : goal.slice_bounds-write_all-end
slice_bounds-write_all-end g c =
    sym (length-take-le _ _ (omega (arith, c.refusal-n.ensures.0, refused_short c.args.r c.requires, c.refusal-n.auto.out)))
