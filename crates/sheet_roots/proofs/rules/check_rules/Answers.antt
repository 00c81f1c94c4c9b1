use mathlib.Core.Path.{subst}
use Prim.Native.Nat.{ℕ}
use native.Mathlib.Omega.{arith}
use Rattle.records.specs.Rules.{good_rule}
use Rattle.records.specs.Names.{named_by_rules}
use Rattle.records.proofs.Scans.{stopped, ended}
use Rattle.sheet_roots.specs.Roots.{Known}
use Rattle.sheet_roots.proofs.RuleScan.{begin, again, stop}
use Rattle.sheet_roots.proofs.rules.check_rules.Goals as goal

pub loop-k-init : goal.loop-k-init
loop-k-init c = begin c.requires

pub returns-then-not-good-clause-value : goal.returns-then-not-good-clause-value
returns-then-not-good-clause-value c = stopped _ (good_rule c.args.s.now.words.now c.args.s.now.header) _ c.loop-k.k
    (omega (arith, c.first_rule-base.ensures)) c.loop-k-test.true c.loop-k.invariant.good
    (stop c.loop-k.invariant c.loop-k-test.true c.first_rule-base.ensures c.record_at-r.ensures c.root-rooted.ensures
    c.entry.ensures c.cites_lower-cites.ensures c.risen.ensures c.unused.ensures c.if-not-good.true)

pub loop-k-preserved : goal.loop-k-preserved
loop-k-preserved c = again c.loop-k.invariant c.loop-k-test.true c.first_rule-base.ensures c.record_at-r.ensures
    c.root-rooted.ensures c.entry.ensures c.cites_lower-cites.ensures c.risen.ensures c.unused.ensures
    c.if-not-good.false c.mark.ensures

pub returns : goal.returns
returns c = record {
  value = ended _ (good_rule c.args.s.now.words.now c.args.s.now.header) _ (λ j l. c.loop-k.invariant.good j (omega arith));
  known = subst (λ (n : ℕ). Known c.args.s.now.words.now c.args.s.now.header (named_by_rules c.args.s.now.words.now c.args.s.now.header n) c.loop-k.trees) (omega arith)
      c.loop-k.invariant.known;
  flagged = c.loop-k.invariant.flagged;
}
