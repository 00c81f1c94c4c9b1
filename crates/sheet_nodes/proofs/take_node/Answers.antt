-- `sheet_nodes::take_node` meets its contract. Assumes nothing.
use mathlib.Core.Path.{◌≡◌, ◌∙◌}
use native.Mathlib.Omega.{arith}
use borrow.Author.Rules.{rules}
use Rattle.signed.specs.Words.{num}
use Rattle.records.specs.Nodes.{node_words}
use Rattle.sheet_nodes.proofs.Scan.{no_kind}
use Rattle.sheet_nodes.proofs.Turns.{refused}
use Rattle.sheet_nodes.proofs.take_node.Goals as goal

pub returns-in_default : goal.returns-in_default
returns-in_default c = let e : c.num.result ≡ num (node_words c.args.s.now.words.now c.args.s.now.header c.args.n).w0 = search rules in
    refused (no_kind _ _ _ (omega (arith, c.in_default.ensures.1, e)))

pub take_leaf-requires : goal.take_leaf-requires
take_leaf-requires c = let e : c.num.result ≡ num c.words_at-w.result.w0 = search rules in (
  c.requires,
  record { words = c.words_at-w.ensures; kind = c.in-Ok.ensures ∙ e; children = c.in-Zero.ensures },
)
