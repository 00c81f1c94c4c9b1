use Rattle.text.proofs.WriteLoops.{counting_done, word_told, putting_none, putting_more, putting_done}
use Rattle.text.proofs.put.Goals as goal

pub loop-i-init : goal.loop-i-init
loop-i-init c = putting_none c.args.words.now c.requires.0 c.args.text.now c.requires.1

pub loop-i-preserved : goal.loop-i-preserved
loop-i-preserved c = putting_more c.args.words.now c.requires.0 c.args.text.now c.loop-i.text c.loop-i.at c.loop-i.i c.loop-i.invariant
    c.loop-i-test.true c.put_field-at.new.text c.put_field-at.result
    (rw (word_told c.args.words.now c.requires.0 c.loop-i.i c.loop-i-test.true) at c.put_field-at.ensures.0)
    (rw (word_told c.args.words.now c.requires.0 c.loop-i.i c.loop-i-test.true, c.ending.ensures) at c.put_field-at.ensures.1)

pub returns : goal.returns
returns c = (
  counting_done c.args.words.now c.requires.0 c.loop-i.at c.loop-i.i c.loop-i-test.false c.loop-i.invariant.place,
  putting_done c.args.words.now c.requires.0 c.args.text.now c.loop-i.text c.loop-i.at c.loop-i.i c.loop-i-test.false c.loop-i.invariant,
)
