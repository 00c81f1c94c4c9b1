-- `evaluate::operate_named` meets its contract: what is named, then the instances that are read. Assumes nothing.
use mathlib.Core.Path.{◌∙◌}
use native.Mathlib.Omega.{arith}
use Rattle.signed.proofs.Fit.{back}
use Rattle.tables.proofs.Bools.{and_right}
use Rattle.instances.proofs.Lengths.{lent_whole}
use Rattle.instances.proofs.Gathering.{blank_gathered, gathered_head}
use Rattle.instances.proofs.Covering.{covers_found}
use Rattle.evaluate.proofs.EvaluateLaws.{operation_exists}
use Rattle.evaluate.proofs.operate_named.Goals as goal

pub gather-requires : goal.gather-requires
gather-requires c =
    let whole = lent_whole _ _ c.requires.lent in
    blank_gathered _ (omega (arith, whole.long, c.args.s.now.accepted.sized.limits.entities)) c.requires.blank

pub covers-requires : goal.covers-requires
covers-requires c =
    let all = rw (c.wanted_exists.ensures, back c.ranges.operation, back c.ranges.wanted)
    at (and_right c.exists.result c.wanted_exists.result c.if-not-exists-wanted_exists.false) in
    rw (c.num.ensures, back c.ranges.operation) (operation_exists _ _ _ _ all)

pub returns : goal.returns
returns c =
    let whole = lent_whole _ _ c.requires.lent in
    let all = rw (
      c.exists.ensures,
      c.wanted_exists.ensures,
      back c.ranges.persona,
      back c.ranges.operation,
      back c.ranges.wanted,
    ) at c.if-not-exists-wanted_exists.false in
    record {
      value = rw all (rw (c.num.ensures, back c.ranges.operation) at c.covers.ensures
          ∙ covers_found c.args.s.now.accepted _ whole.long c.gather.ensures _);
      head_gathered = λ e. gathered_head _ _ whole.long c.gather.ensures;
    }
