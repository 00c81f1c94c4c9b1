-- `answer::refused` meets its contract: the four numbers are the callees' results. Assumes nothing.
use native.Mathlib.Omega.{arith}
use mir.Syntax.{w64}
use mir.ValLaws.{to_z-of_z}
use Rattle.answer.specs.Inner.{number_small}
use Rattle.answer.proofs.Answer.refused.Goals as goal

pub signed-requires : goal.signed-requires
signed-requires c = omega (arith, number_small c.args.r)

pub returns : goal.returns
returns c = rw (
  to_z-of_z w64 c.signed.result (record { sfits = c.signed.type_inv }),
  to_z-of_z w64 c.signed-2.result (record { sfits = c.signed-2.type_inv }),
  c.signed.ensures,
  c.signed-2.ensures,
  c.number.ensures,
  c.place.ensures,
)
