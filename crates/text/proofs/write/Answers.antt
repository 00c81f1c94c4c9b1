-- `text::write` meets its contract, by each of its ways out. Assumes nothing.
use borrow.Author.Tests.{leb-true, leb-false}
use native.Mathlib.Omega.{arith}
use mathlib.Core.Path.{◌≡◌, sym, ◌∙◌}
use mathlib.Core.Bool.{true}
use lib.ListN.{length}
use Rattle.text.specs.Lines.{all, rows_of, text_of, good_row}
use Rattle.text.specs.Calls.{write_answer, write_buffer}
use Rattle.text.proofs.Calls.{all_judged, ends_no_room, ends_done}
use Rattle.text.proofs.WriteLoops.{whole_lines}
use Rattle.text.proofs.write.Goals as goal

pub returns-then-not-has_room : goal.returns-then-not-has_room
unfolding write_answer write_buffer
returns-then-not-has_room c = let whole : all good_row (rows_of c.args.words.now) ≡ true = grind (arith, whole_lines) in
    ends_no_room good_row (rows_of c.args.words.now) (text_of c.args.words.now) c.args.text.now (length (text_of c.args.words.now))
    (all_judged good_row (rows_of c.args.words.now) (length (text_of c.args.words.now)) whole)
    (leb-false (length (text_of c.args.words.now)) (length c.args.text.now) (sym c.has_room.ensures ∙ c.if-not-has_room.true))

pub returns : goal.returns
unfolding write_answer write_buffer
returns c = let whole : all good_row (rows_of c.args.words.now) ≡ true = grind (arith, whole_lines) in
    rw (c.put.ensures.0, c.put.ensures.1)
    (ends_done good_row (rows_of c.args.words.now) (text_of c.args.words.now) c.args.text.now (length (text_of c.args.words.now))
    (all_judged good_row (rows_of c.args.words.now) (length (text_of c.args.words.now)) whole)
    (leb-true (length (text_of c.args.words.now)) (length c.args.text.now) (sym c.has_room.ensures ∙ c.if-not-has_room.false)))
