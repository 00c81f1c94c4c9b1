-- `kinds::joint_from` meets its contract. Assumes nothing.
use mathlib.Core.Path.{sym}
use native.Mathlib.Omega.{arith}
use Rattle.item.specs.Items.{none}
use Rattle.item.proofs.Products.{multiple_sort}
use Rattle.node.specs.Rows.{row_of}
use Rattle.node.proofs.OneKind.{childless}
use Rattle.signed.proofs.Fit.{back, back_of}
use Rattle.kinds.proofs.SecondsLaws.{fits_wide, settle}
use Rattle.kinds.proofs.SweepLaws.{unquantified}
use Rattle.std.proofs.Common.{rules, SFits, w64}
use Rattle.kinds.proofs.joint_from.Goals as goal

pub overflow_add-result : goal.overflow_add-result
unfolding row_of
overflow_add-result c = rw (back c.ranges.x, back c.ranges.y) (fits_wide (rw c.in-Sum.is at c.requires.wide))

pub overflow_sub-result : goal.overflow_sub-result
unfolding row_of
overflow_sub-result c = rw (back c.ranges.x, back c.ranges.y) (fits_wide (rw c.in-Difference.is at c.requires.wide))

pub overflow_mul-result : goal.overflow_mul-result
unfolding row_of
overflow_mul-result c =
    let g : SFits w64 c.args.w.w2 = search rules in
    rw (back c.ranges.x, back g) (fits_wide (rw c.in-Product.is at c.requires.wide))

pub returns-in-Sum : goal.returns-in-Sum
unfolding row_of
returns-in-Sum c f u v i b = settle _ _ f u v i _ _ b (rw c.in-Sum.is (omega arith))
    (rw (c.in-Sum.is, back c.ranges.x, back c.ranges.y) (back (fits_wide (rw c.in-Sum.is at c.requires.wide))))

pub returns-in-Difference : goal.returns-in-Difference
unfolding row_of
returns-in-Difference c f u v i b = settle _ _ f u v i _ _ b (rw c.in-Difference.is (omega arith))
    (rw (c.in-Difference.is, back c.ranges.x, back c.ranges.y) (back (fits_wide (rw c.in-Difference.is at c.requires.wide))))

pub returns-in-Product : goal.returns-in-Product
unfolding row_of
returns-in-Product c f u v i b =
    let g : SFits w64 c.args.w.w2 = search rules in
    settle _ _ f u v i _ _ b (rw c.in-Product.is (omega (arith, multiple_sort c.args.w.w2 none)))
    (rw (c.in-Product.is, back c.ranges.x, back g) (back (fits_wide (rw c.in-Product.is at c.requires.wide))))

pub returns-in-Comparison : goal.returns-in-Comparison
unfolding row_of
returns-in-Comparison c f u v i b = settle _ _ f u v i _ _ b (rw c.in-Comparison.is (omega arith))
    (rw (c.in-Comparison.is, back_of c.compare.result c.compare.type_inv, c.compare.ensures, back c.ranges.x, back c.ranges.y))

pub returns-in-And : goal.returns-in-And
unfolding row_of
returns-in-And c f u v i b = settle _ _ f u v i _ _ b (rw c.in-And.is (omega arith))
    (rw (c.in-And.is, back_of c.bit.result c.bit.type_inv, c.bit.ensures, c.same.ensures, c.same-in-And.ensures, back c.ranges.x, back c.ranges.y))

pub returns-in-Or : goal.returns-in-Or
unfolding row_of
returns-in-Or c f u v i b = settle _ _ f u v i _ _ b (rw c.in-Or.is (omega arith))
    (rw (
      c.in-Or.is,
      back_of c.bit-in-Or.result c.bit-in-Or.type_inv,
      c.bit-in-Or.ensures,
      c.same-in-Or.ensures,
      c.same-in-Or-2.ensures,
      back c.ranges.x,
      back c.ranges.y,
    ))

pub returns-in-Not : goal.returns-in-Not
unfolding row_of
returns-in-Not c f u v i b = settle _ _ f u v i _ _ b (rw c.in-Not.is (omega arith))
    (rw (c.in-Not.is, back_of c.bit-in-Not.result c.bit-in-Not.type_inv, c.bit-in-Not.ensures, c.same-in-Not.ensures, back c.ranges.x))

pub returns-in_default : goal.returns-in_default
returns-in_default c f u v i b =
    let q = unquantified _ _ c.requires.plain in
    absurd (c.requires.some (sym (childless _ _ c.in_default.not-Sum c.in_default.not-Difference c.in_default.not-Product c.in_default.not-Comparison
    c.in_default.not-And c.in_default.not-Or c.in_default.not-Not (λ e. q.0 (rw e)) (λ e. q.1 (rw e)))))
