-- `predicate::item_at` meets its contract, and ends: the node number falls. Assumes nothing.
use Rattle.std.proofs.Common.{arith, refl, sym, ap, ◌∙◌, ◌≡◌, Option, None, Some, ℕ}
use Rattle.tree.proofs.TreeLaws.{held, before}
use Rattle.predicate.proofs.BaseLaws.{ranged, lower_range}
use Rattle.predicate.proofs.RangeLaws.{range_none, range_one, range_two}
use Rattle.predicate.proofs.+item_at.Goals.{in-One, in-Two}
use Rattle.predicate.proofs.+item_at.Goals as goal

pub range_at-requires-clause-rangeable : goal.range_at-requires-clause-rangeable
range_at-requires-clause-rangeable t c = (range_none c.requires c.in-Zero.ensures).able

pub returns-in-Zero : goal.returns-in-Zero
returns-in-Zero t c = rw c.range_at.ensures (range_none c.requires c.in-Zero.ensures).gives

pub item_at-x-requires : goal.item_at-x-requires
item_at-x-requires t c = elim c.match-kids_at.branch [
  | in-One w ↦ let l = (before (ranged c.requires) w.in-One.ensures).0 in rw w.a-is (omega (arith, l, c.decreases), lower_range c.requires l)
  | in-Two w ↦ let l = (before (ranged c.requires) w.in-Two.ensures).0 in rw w.a-is (omega (arith, l, c.decreases), lower_range c.requires l)
]

pub range_at-requires-in_default-clause-rangeable : goal.range_at-requires-in_default-clause-rangeable
range_at-requires-in_default-clause-rangeable t c = elim c.match-kids_at.branch [
  | in-One w ↦ (range_one c.requires w.in-One.ensures (rw w.a-is at c.item_at-x.ensures)).able
  | in-Two w ↦ absurd (c.in_default.not-Some _ (ap (λ (p : ℕ × Option ℕ). p.1) w.a-is))
]

pub returns-in_default : goal.returns-in_default
returns-in_default t c = elim c.match-kids_at.branch [
  | in-One w ↦ rw c.range_at-in_default.ensures (range_one c.requires w.in-One.ensures (rw w.a-is at c.item_at-x.ensures)).gives
  | in-Two w ↦ absurd (c.in_default.not-Some _ (ap (λ (p : ℕ × Option ℕ). p.1) w.a-is))
]

pub item_at-y-requires : goal.item_at-y-requires
item_at-y-requires t c = elim c.match-kids_at.branch [
  | in-One w ↦ let z : ◌≡◌ {A = ℕ} 0 1 = cc (sym (ap (λ (p : ℕ × Option ℕ). p.1) w.a-is) ∙ c.in-Some.is) in absurd (omega arith)
  | in-Two w ↦
      let e : w.in-Two.b ≡ c.in-Some.b = cc (sym (ap (λ (p : ℕ × Option ℕ). p.1) w.a-is) ∙ c.in-Some.is) in
      let l = (before (ranged c.requires) w.in-Two.ensures).1.0 in
      rw (← e) (omega (arith, l, c.decreases), lower_range c.requires l)
]

pub range_at-requires-2-clause-rangeable : goal.range_at-requires-2-clause-rangeable
range_at-requires-2-clause-rangeable t c = elim c.match-kids_at.branch [
  | in-One w ↦ let z : ◌≡◌ {A = ℕ} 0 1 = cc (sym (ap (λ (p : ℕ × Option ℕ). p.1) w.a-is) ∙ c.in-Some.is) in absurd (omega arith)
  | in-Two w ↦
      let e : w.in-Two.b ≡ c.in-Some.b = cc (sym (ap (λ (p : ℕ × Option ℕ). p.1) w.a-is) ∙ c.in-Some.is) in
      (range_two c.requires w.in-Two.ensures (rw w.a-is at c.item_at-x.ensures) (rw (← e) at c.item_at-y.ensures)).able
]

pub returns : goal.returns
returns t c = elim c.match-kids_at.branch [
  | in-One w ↦ let z : ◌≡◌ {A = ℕ} 0 1 = cc (sym (ap (λ (p : ℕ × Option ℕ). p.1) w.a-is) ∙ c.in-Some.is) in absurd (omega arith)
  | in-Two w ↦
      let e : w.in-Two.b ≡ c.in-Some.b = cc (sym (ap (λ (p : ℕ × Option ℕ). p.1) w.a-is) ∙ c.in-Some.is) in
      rw c.range_at-2.ensures (range_two c.requires w.in-Two.ensures (rw w.a-is at c.item_at-x.ensures) (rw (← e) at c.item_at-y.ensures)).gives
]
