-- `flows::run_named` meets its contract: the flow, its words, then the instances that are read. Assumes nothing.
use mathlib.Core.Path.{sym, ◌∙◌}
use native.Mathlib.Omega.{arith}
use borrow.Author.Tests.{ltb-true}
use Rattle.signed.proofs.Fit.{back}
use Rattle.instances.proofs.Lengths.{lent_whole}
use Rattle.instances.proofs.Gathering.{blank_gathered, gathered_head}
use Rattle.run.proofs.Coverage.{flow_covers_found}
use Rattle.flows.proofs.FlowCallLaws.{a_word_each}
use Rattle.flows.proofs.run_named.Goals as goal

pub good_words-requires : goal.good_words-requires
good_words-requires c =
    let e = sym (rw (back c.ranges.flow) at c.exists.ensures) ∙ c.if-not-exists.false in
    record {
      flow = rw (c.num.ensures, back c.ranges.flow) (ltb-true _ _ e);
      words_len = rw (c.num.ensures, back c.ranges.flow) (a_word_each c.args.s.now.sheet.words.now c.args.s.now.sheet.header c.args.flow c.args.wanted.now e c.requires.lent.1);
    }

pub gather-requires : goal.gather-requires
gather-requires c =
    let whole = lent_whole _ _ c.requires.lent.0 in
    blank_gathered _ (omega (arith, whole.long, c.args.s.now.accepted.sized.limits.entities)) c.requires.blank

pub flow_covers-requires : goal.flow_covers-requires
flow_covers-requires c =
    let e = sym (rw (back c.ranges.flow) at c.exists.ensures) ∙ c.if-not-exists.false in
    rw (c.num-2.ensures, back c.ranges.flow) (ltb-true _ _ e)

pub returns : goal.returns
returns c =
    let whole = lent_whole _ _ c.requires.lent.0 in
    let words = rw (c.good_words.ensures, c.num.ensures, back c.ranges.flow) at c.if-not-good_words.false in
    record {
      value = rw (sym (rw (back c.ranges.flow) at c.exists.ensures) ∙ c.if-not-exists.false, words)
          (rw (c.num-2.ensures, back c.ranges.flow) at c.flow_covers.ensures ∙ flow_covers_found c.args.s.now.accepted _ whole.long c.gather.ensures _);
      head_gathered = λ e. gathered_head _ _ whole.long c.gather.ensures;
    }
