-- `operation::effects_of` meets its contract. Assumes nothing.
use native.Mathlib.Omega.{arith}
use Rattle.records.proofs.OperationLaws.{operation_ok}
use Rattle.operation.specs.Inner.{effects_of}
use Rattle.words.specs.Record.{record_at}
use Rattle.operation.proofs.effects_of.Goals as goal

pub overflow_add-result : goal.overflow_add-result
unfolding record_at
overflow_add-result c = rw (c.operation_word-first.ensures, c.operation_word.ensures)
    (omega (arith, (operation_ok c.args.s.now.accepted _ c.requires).end, c.args.s.now.sheet.sized.limits))

pub returns : goal.returns
unfolding effects_of record_at
returns c = rw (c.operation_word-first.ensures, c.operation_word.ensures, c.operation_word-2.ensures)
