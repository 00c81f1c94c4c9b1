-- `run::step_covers` meets its contract: by the step's kind; what was seen is right. Assumes nothing.
use mathlib.Core.Path.{sym}
use Rattle.words.specs.Record.{record_at}
use Rattle.run.proofs.Coverage.{branch_covers, operation_covers, operation_named_lem, seen_there, one_seen}
use Rattle.run.proofs.step_covers.Goals as goal

pub returns-then-step_word-ne0 : goal.returns-then-step_word-ne0
unfolding record_at
returns-then-step_word-ne0 c = record { value = branch_covers _ _ _ c.step_word.ensures _ c.if-step_word-ne0.true; seen_2 = c.requires.seen }

pub bounds-seen-o : goal.bounds-seen-o
unfolding record_at
bounds-seen-o c = seen_there _ _ _ c.args.s.now.sheet.sized c.requires.seen
    (operation_named_lem _ _ _ c.step_word.ensures c.args.s.now.accepted c.requires.step_lt_steps c.if-step_word-ne0.false
    c.step_word-o.ensures)

pub returns-then-seen-o : goal.returns-then-seen-o
unfolding record_at
returns-then-seen-o c = record {
  value = operation_covers _ _ _ c.step_word.ensures _ c.if-step_word-ne0.false c.step_word-o.ensures
      (sym (c.requires.seen.right _ c.if-seen-o.true));
  seen_2 = c.requires.seen;
}

pub covers-b-requires : goal.covers-b-requires
unfolding record_at
covers-b-requires c = operation_named_lem _ _ _ c.step_word.ensures c.args.s.now.accepted c.requires.step_lt_steps c.if-step_word-ne0.false
    c.step_word-o.ensures

pub bounds-seen-o-2 : goal.bounds-seen-o-2
unfolding record_at
bounds-seen-o-2 c = seen_there _ _ _ c.args.s.now.sheet.sized c.requires.seen
    (operation_named_lem _ _ _ c.step_word.ensures c.args.s.now.accepted c.requires.step_lt_steps c.if-step_word-ne0.false
    c.step_word-o.ensures)

pub returns : goal.returns
unfolding record_at
returns c = record {
  value = operation_covers _ _ _ c.step_word.ensures _ c.if-step_word-ne0.false c.step_word-o.ensures c.covers-b.ensures;
  seen_2 = one_seen _ _ _ c.requires.seen (seen_there _ _ _ c.args.s.now.sheet.sized c.requires.seen
      (operation_named_lem _ _ _ c.step_word.ensures c.args.s.now.accepted c.requires.step_lt_steps c.if-step_word-ne0.false
      c.step_word-o.ensures)) c.covers-b.ensures;
}
