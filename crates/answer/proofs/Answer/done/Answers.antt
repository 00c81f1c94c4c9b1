-- `answer::done` meets its contract: its two numbers are the callee's results. Assumes nothing.
use mir.Syntax.{w64}
use mir.ValLaws.{to_z-of_z}
use Rattle.answer.proofs.Answer.done.Goals as goal

pub returns : goal.returns
returns c = rw (
  to_z-of_z w64 c.signed.result (record { sfits = c.signed.type_inv }),
  to_z-of_z w64 c.signed-2.result (record { sfits = c.signed-2.type_inv }),
  c.signed.ensures,
  c.signed-2.ensures,
)
