-- `text::read` meets its contract, by each of its ways out. Assumes nothing.
use mathlib.Core.Path.{◌≡◌, sym, ◌∙◌}
use native.Mathlib.Omega.{arith}
use lib.ListN.{length, length-take}
use Rattle.text.specs.Lines.{lines_of, words_of, good_line}
use Rattle.text.specs.Calls.{read_answer, read_buffer}
use Rattle.text.proofs.Calls.{judged_good, judged_size, ends_no_room, ends_filled}
use Rattle.text.proofs.read.Goals as goal

pub returns-then-words-n : goal.returns-then-words-n
unfolding read_answer read_buffer
returns-then-words-n c = ends_no_room good_line (lines_of c.args.text.now) (words_of c.args.text.now) c.args.words.now c.in_ok-n.n
    (sym c.count_words.ensures ∙ c.in_ok-n.was) c.if-words-n.true

pub store-requires : goal.store-requires
store-requires c = let size : c.in_ok-n.n ≡ length (words_of c.args.text.now) =
    judged_size good_line (lines_of c.args.text.now) (words_of c.args.text.now) c.args.words.now c.in_ok-n.n
    (sym c.count_words.ensures ∙ c.in_ok-n.was) in (
      judged_good good_line (lines_of c.args.text.now) (words_of c.args.text.now) c.args.words.now c.in_ok-n.n
          (sym c.count_words.ensures ∙ c.in_ok-n.was),
      simp length-take (omega arith),
    )

pub returns : goal.returns
unfolding read_answer read_buffer
returns c = rw c.store.ensures
    (ends_filled good_line (lines_of c.args.text.now) (words_of c.args.text.now) c.args.words.now c.in_ok-n.n
    (sym c.count_words.ensures ∙ c.in_ok-n.was) c.if-words-n.false)
