-- `path_lines::refusal` meets its contract: the word, the number, the place. Assumes nothing.
use Rattle.path_lines.proofs.Writing.{refused_room, refused_number, refused_place, refused_done}
use Rattle.answer.proofs.Numbers.{number_range}
use native.Mathlib.Omega.{arith}
use Rattle.path_lines.proofs.refusal.Goals as goal

pub put_refused-requires : goal.put_refused-requires
put_refused-requires c = refused_room _ c.number-number.ensures c.place-place.ensures c.args.out.now c.requires.1

pub put_number-at-requires : goal.put_number-at-requires
put_number-at-requires c = (
  omega (arith, c.number-number.ensures, c.place-place.ensures, (number_range c.args.r).1, c.requires.0),
  refused_number _ c.number-number.ensures c.place-place.ensures c.args.out.now c.requires.1
      c.put_refused.ensures,
)

pub put_number-requires : goal.put_number-requires
put_number-requires c = (
  omega (arith, c.place-place.ensures, c.requires.0),
  refused_place _ c.number-number.ensures c.place-place.ensures c.args.out.now c.requires.1
      c.put_refused.ensures c.put_number-at.ensures.0 c.put_number-at.ensures.1,
)

pub returns : goal.returns
returns c = refused_done _ c.number-number.ensures c.place-place.ensures c.args.out.now c.requires.1
    c.put_refused.ensures c.put_number-at.ensures.0 c.put_number-at.ensures.1
    c.put_number.ensures.0 c.put_number.ensures.1
