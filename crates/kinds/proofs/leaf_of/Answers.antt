-- `kinds::leaf_of` meets its contract. Assumes nothing.
use mathlib.Core.Path.{◌∙◌, ap, ap₂}
use mathlib.Core.Logic.{⊎_elim}
use Prim.Native.Nat.{ℕ, ◌%◌}
use lib.IntN.{ℤ, pos}
use native.Mathlib.Omega.{arith}
use Rattle.std.proofs.Common.{rules, SFits, w64}
use Rattle.signed.specs.Words.{num}
use Rattle.signed.proofs.Fit.{back, back_of}
use Rattle.item.specs.Units.{converted}
use Rattle.node.specs.Rows.{row_of}
use Rattle.kinds.specs.Inner.{seconds_from}
use Rattle.kinds.proofs.SecondsLaws.{settle}
use Rattle.kinds.proofs.leaf_of.Goals as goal

pub returns-in-IntLiteral : goal.returns-in-IntLiteral
unfolding row_of
returns-in-IntLiteral c F f b t r =
    let g : SFits w64 c.args.w.w1 = search rules in
    ⊎_elim (λ e. settle _ _ f F _ _ _ _ b (rw e (omega (arith, c.requires.part (rw e)))) (rw e (back g)))
    (⊎_elim (λ e. settle _ _ f F _ _ _ _ b (rw e (omega (arith, c.requires.part (rw e)))) (rw e (back g)))
    (⊎_elim (λ e. settle _ _ f F _ _ _ _ b (rw e (omega (arith, c.requires.part (rw e)))) (rw e (back g)))
    (λ e. settle _ _ f F _ _ _ _ b (rw e (omega (arith, c.requires.part (rw e)))) (rw e (back g)))))
    c.in-IntLiteral.is

pub returns-in-Fact : goal.returns-in-Fact
unfolding seconds_from row_of
returns-in-Fact c F f b t r = rw c.in-Fact.is (back_of c.converted.result c.converted.type_inv
    ∙ c.converted.ensures
    ∙ ap₂ (λ (t : ℕ) (v : ℤ). converted t 261 v) (t (rw c.in-Fact.is))
    (back_of c.named.result c.named.type_inv ∙ c.named.ensures ∙ r.value (rw c.in-Fact.is)))

pub returns-in-Present : goal.returns-in-Present
unfolding row_of
returns-in-Present c F f b t r = settle _ _ f F _ _ _ _ b (rw c.in-Present.is (omega arith))
    (rw (c.in-Present.is, back_of c.named-in-Present.result c.named-in-Present.type_inv, c.named-in-Present.ensures))

pub returns-in-DurationLiteral : goal.returns-in-DurationLiteral
unfolding seconds_from row_of
returns-in-DurationLiteral c F f b t r =
    let g : SFits w64 c.args.w.w1 = search rules in
    rw (
      c.in-DurationLiteral.is,
      back_of c.converted-in-DurationLiteral.result c.converted-in-DurationLiteral.type_inv,
      c.converted-in-DurationLiteral.ensures,
      c.literal_sort.ensures,
      back g,
    )

pub returns-in-Length : goal.returns-in-Length
unfolding row_of
returns-in-Length c F f b t r = settle _ _ f F _ _ _ _ b (rw c.in-Length.is (omega arith))
    (rw c.in-Length.is (back_of c.to_word.result c.to_word.type_inv
    ∙ c.to_word.ensures
    ∙ ap pos (c.count_in.ensures
    ∙ ap (λ (z : ℤ). num z % 128) (back_of c.named-in-Length.result c.named-in-Length.type_inv ∙ c.named-in-Length.ensures)
    ∙ r.count (rw c.in-Length.is))))

pub returns-in-Element : goal.returns-in-Element
unfolding row_of
returns-in-Element c F f b t r = settle _ _ f F _ _ _ _ b (rw c.in-Element.is (r.plain (rw c.in-Element.is)))
    (rw c.in-Element.is (back_of c.entry.result c.entry.type_inv ∙ c.entry.ensures))

pub returns-in_default : goal.returns-in_default
unfolding row_of
returns-in_default c F f b t r = absurd (grind arith)
