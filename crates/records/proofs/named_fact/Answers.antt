-- `records::named_fact` meets its contract. Assumes nothing.
use native.Mathlib.Omega.{arith}
use borrow.Author.Tests.{lt-ltb, le-ltb}
use Rattle.signed.proofs.Fit.{back_of}
use Rattle.records.proofs.FactLaws.{fact_ok}
use Rattle.records.proofs.named_fact.Goals as goal

pub fact_item-requires : goal.fact_item-requires
fact_item-requires c = (omega (arith, c.requires.held), (fact_ok _ _ (c.requires.each _ c.if-f-facts.true)).bounds.set)

pub returns-then-f-facts : goal.returns-then-f-facts
returns-then-f-facts c = rw (
  lt-ltb _ _ c.if-f-facts.true,
  c.fact_item.ensures,
  c.is_list.ensures,
  back_of c.word.result c.word.type_inv,
  c.word.ensures,
)

pub returns-else-f-facts : goal.returns-else-f-facts
returns-else-f-facts c = rw (le-ltb _ _ c.if-f-facts.false, c.no_fact.ensures)
