-- `evaluate::settle` meets its contract: the facts, then the verdicts over them. Assumes nothing.
use Rattle.evaluate.proofs.EvaluateLaws.{known_in, lengths_known}
use Rattle.evaluate.proofs.settle.Goals as goal

pub assemble-requires : goal.assemble-requires
assemble-requires c = record { lengths = (c.requires.good_facts_lent.all.values, c.requires.good_facts_lent.all.given, c.requires.facts_len.0); lengths_in = lengths_known c.requires.good_facts_lent }

pub fill_verdicts-requires : goal.fill_verdicts-requires
fill_verdicts-requires c = (rw (c.assemble.ensures c.args.lists.now) (known_in c.requires.good_facts_lent), c.requires.facts_len.1)

pub returns : goal.returns
returns c = let e = c.assemble.ensures c.args.lists.now in record { lists_after = e; verdicts_after = rw e at c.fill_verdicts.ensures }
