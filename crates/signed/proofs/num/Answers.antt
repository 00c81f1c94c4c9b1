-- `signed::num` meets its contract: a word's bits are those of its number. Assumes nothing.
use Rattle.signed.proofs.Fit.{back}
use Rattle.signed.proofs.Numbers.{bits_num}
use Rattle.signed.proofs.num.Goals as goal

pub returns : goal.returns
returns c = rw (c.cast_unsigned.ensures, back c.ranges.w) (bits_num c.args.w c.ranges.w)
