-- `path_lines::put_number` meets its contract. Assumes nothing.
use Rattle.path_lines.proofs.Writing.{has_text_lem, number_room, number_put}
use Rattle.signed.proofs.Fit.{back_of}
use Rattle.path_lines.proofs.put_number.Goals as goal

pub put_field-requires : goal.put_field-requires
put_field-requires c = rw (back_of c.signed.result c.signed.type_inv, c.signed.ensures)
    (has_text_lem _ c.requires.0, number_room _ _ _ _ c.requires.1)

pub returns : goal.returns
returns c = number_put _ _ _ _ c.ending.ensures
    (rw (back_of c.signed.result c.signed.type_inv, c.signed.ensures) at c.put_field.ensures.0)
    (rw (back_of c.signed.result c.signed.type_inv, c.signed.ensures) at c.put_field.ensures.1)
