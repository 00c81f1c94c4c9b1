-- `path_lines::open_text` meets its contract: too long, bad text, or words that are checked. Assumes nothing.
use Rattle.path_lines.proofs.Opening.{open_long, open_refused, open_room, open_words}
use lib.Seq.{length-take-le}
use mathlib.Core.Path.{sym}
use Rattle.std.proofs.lemmas.Result.{err_from_is_err_and}
use Rattle.path_lines.proofs.open_text.Goals as goal

pub returns-then-text-gt-LONGEST_TEXT : goal.returns-then-text-gt-LONGEST_TEXT
returns-then-text-gt-LONGEST_TEXT c = open_long _ _ c.if-text-gt-LONGEST_TEXT.true

pub slice_bounds-judge_words-end : goal.slice_bounds-judge_words-end
slice_bounds-judge_words-end c = open_room _ _ c.if-text-gt-LONGEST_TEXT.false c.requires c.read.ensures.0 c.read.ensures.1 c.in_ok-n.was c.read.auto.words

pub slice_bounds-judge_words-end-2 : goal.slice_bounds-judge_words-end-2
slice_bounds-judge_words-end-2 c = sym (length-take-le _ _ (open_room _ _ c.if-text-gt-LONGEST_TEXT.false c.requires c.read.ensures.0 c.read.ensures.1
    c.in_ok-n.was c.read.auto.words))

pub returns-in_err-n : goal.returns-in_err-n
returns-in_err-n c =
    let p = err_from_is_err_and c.from_residual.result c.from_residual.ensures.1 in
    rw (p.1, p.2) (open_refused _ _ c.if-text-gt-LONGEST_TEXT.false c.requires c.read.ensures.0 c.read.ensures.1 c.in_err-n.was)

pub returns : goal.returns
returns c = open_words _ _ c.if-text-gt-LONGEST_TEXT.false c.requires c.read.ensures.0 c.read.ensures.1 c.in_ok-n.was c.judge_words.ensures
