-- `sheet_nodes::take_leaf` meets its contract. Assumes nothing.
use mathlib.Core.Path.{◌≡◌}
use borrow.Author.Rules.{rules}
use Rattle.signed.specs.Words.{num}
use Rattle.sheet_nodes.proofs.Leaves.{leaf_bad, leaf_item, leaf_rule, leaf_list, leaf_rest, leaf_took}
use Rattle.sheet_nodes.proofs.take_leaf.Goals as goal

pub returns-in_default : goal.returns-in_default
returns-in_default c = leaf_bad c.requires.0 c.requires.1 c.in_default.ensures

pub keep-requires : goal.keep-requires
keep-requires c = leaf_item c.requires.0 c.requires.1 c.in-Some.ensures

pub own_top-requires : goal.own_top-requires
own_top-requires c = let e : c.num-f.result ≡ num c.args.w.w1 = search rules in
    leaf_rule c.requires.0 c.requires.1 c.in-Some.ensures e

pub own_scope-requires : goal.own_scope-requires
own_scope-requires c = let e : c.num-f.result ≡ num c.args.w.w1 = search rules in
    leaf_list c.requires.0 c.requires.1 c.in-Some.ensures e

pub keep-requires-2 : goal.keep-requires-2
keep-requires-2 c = let e : c.num-f.result ≡ num c.args.w.w1 = search rules in
    leaf_rest c.requires.0 c.requires.1 c.in-Some.ensures e c.own_top.ensures c.own_scope.ensures

pub returns : goal.returns
returns c = let e : c.num-f.result ≡ num c.args.w.w1 = search rules in
    rw (c.keep.ensures, c.keep-2.ensures)
    (leaf_took c.requires.0 c.requires.1 c.in-Some.ensures e c.own_top.ensures c.own_scope.ensures)
