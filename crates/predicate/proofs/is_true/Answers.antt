-- `predicate::is_true` meets its contract: a Bool is no duration. Assumes nothing.
use Rattle.signed.proofs.Fit.{back_of}
use Rattle.predicate.proofs.BaseLaws.{evaluable_at}
use Rattle.predicate.proofs.EvaluationLaws.{past_end, true_seconds}
use Rattle.predicate.proofs.is_true.Goals as goal

pub evaluate-requires : goal.evaluate-requires
evaluate-requires c = evaluable_at c.requires _

pub returns : goal.returns
returns c = rw (
  c.same.ensures,
  back_of c.evaluate.result c.evaluate.type_inv,
  c.evaluate.ensures,
  ← c.args.s.now.accepted.header,
) (true_seconds c.requires (past_end c.args.lists.now))
