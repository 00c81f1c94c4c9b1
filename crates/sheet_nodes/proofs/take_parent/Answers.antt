-- `sheet_nodes::take_parent` meets its contract. Assumes nothing.
use mathlib.Core.Path.{◌≡◌}
use borrow.Author.Rules.{rules}
use Rattle.signed.specs.Words.{num}
use Rattle.sheet_nodes.proofs.Turns.{stop_linked, judgeable, row_parent, inside, list_few, stop_found, stop_nested, item_small, rest_small, took, refused, parent_top, parent_scope}
use Rattle.sheet_nodes.proofs.take_parent.Goals as goal

pub returns-then-not-links : goal.returns-then-not-links
returns-then-not-links c = refused (stop_linked _ _ _ c.requires.0 c.args.c c.requires.1 c.links.ensures c.if-not-links.true)

pub judge_joint-requires : goal.judge_joint-requires
judge_joint-requires c = (
  judgeable _ _ _ c.requires.0 c.args.c c.requires.1 c.links.ensures c.if-not-links.false,
  row_parent _ _ _ c.requires.0 c.args.c c.requires.1 c.requires.2,
)

pub returns-in_default : goal.returns-in_default
returns-in_default c = refused (stop_found _ _ _ c.requires.0 c.args.c c.requires.1 c.links.ensures c.if-not-links.false c.in_default.ensures)

pub scope_of-requires : goal.scope_of-requires
scope_of-requires c = let e : c.num.result ≡ num c.args.w.w1 = search rules in (
  inside _ _ _ c.requires.0 c.args.c c.requires.1 c.links.ensures c.if-not-links.false,
  list_few _ _ _ c.requires.0 c.args.c c.requires.1 c.links.ensures c.if-not-links.false c.in-Some.ensures e,
)

pub returns-in_default-scope_of : goal.returns-in_default-scope_of
returns-in_default-scope_of c = let e : c.num.result ≡ num c.args.w.w1 = search rules in
    refused (stop_nested _ _ _ c.requires.0 c.args.c c.requires.1 c.links.ensures c.if-not-links.false c.in-Some.ensures
    (parent_scope _ _ _ c.requires.0 c.args.c c.requires.1 c.requires.2 e c.in_default-scope_of.ensures))

pub keep-requires : goal.keep-requires
keep-requires c = let e : c.num.result ≡ num c.args.w.w1 = search rules in
    item_small _ _ _ c.requires.0 c.args.c c.requires.1 c.links.ensures c.if-not-links.false c.in-Some.ensures
    (parent_scope _ _ _ c.requires.0 c.args.c c.requires.1 c.requires.2 e c.in-Some-scope_of.ensures)

pub top_of-requires : goal.top_of-requires
top_of-requires c = inside _ _ _ c.requires.0 c.args.c c.requires.1 c.links.ensures c.if-not-links.false

pub keep-requires-2 : goal.keep-requires-2
keep-requires-2 c = let e : c.num.result ≡ num c.args.w.w1 = search rules in
    rest_small _ _ _ c.requires.0 c.args.c c.requires.1 c.links.ensures c.if-not-links.false c.in-Some.ensures
    (parent_scope _ _ _ c.requires.0 c.args.c c.requires.1 c.requires.2 e c.in-Some-scope_of.ensures)
    (parent_top _ _ _ c.requires.0 c.args.c c.requires.1 c.requires.2 c.top_of.ensures)

pub name-requires : goal.name-requires
name-requires c = inside _ _ _ c.requires.0 c.args.c c.requires.1 c.links.ensures c.if-not-links.false

pub returns : goal.returns
returns c = let e : c.num.result ≡ num c.args.w.w1 = search rules in
    rw (c.keep.ensures, c.name.ensures, c.keep-2.ensures)
    (took _ _ _ c.requires.0 c.args.c c.requires.1 c.links.ensures c.if-not-links.false c.in-Some.ensures
    (parent_scope _ _ _ c.requires.0 c.args.c c.requires.1 c.requires.2 e c.in-Some-scope_of.ensures)
    (parent_top _ _ _ c.requires.0 c.args.c c.requires.1 c.requires.2 c.top_of.ensures))
