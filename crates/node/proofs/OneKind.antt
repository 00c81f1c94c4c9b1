-- What only some kinds have: a verdict-present cites a rule, some kinds name a fact; which kinds have children.
-- Assumes nothing.
use Rattle.std.specs.Prelude.{ℤ}
use mathlib.Core.Path.{◌≡◌, refl}
use mathlib.Core.Bool.{Bool, false, ◌||◌}
use lib.Dec.{leb, eqb}
use Rattle.tables.proofs.Bools.{true_false}
use mathlib.Core.List.{List, [], ◌∷◌}
use native.Mathlib.Omega.{arith}
use Prim.Native.Nat.{ℕ, zero, suc}
use Rattle.words.specs.declared.Record.{Record}
use Rattle.node.specs.declared.Named.{Named}
use Rattle.node.specs.declared.Given.{Given}
use Rattle.node.specs.declared.Kind.{Kind}
use Rattle.node.specs.declared.Kind.TheVariants.{IntLiteral, BoolLiteral, EnumLiteral, Fact, Sum, Difference, Product, Comparison, Present, And, Or, Not, MoneyLiteral, DurationLiteral, ForAll, Exists, Length, Element}
use Rattle.node.specs.Kinds.{kind_number}
use Rattle.node.specs.Rows.{row_of, fits}
use Rattle.node.specs.Judged.{judged}

pub cites_none : (k : ℕ) → (k ≡ 8 → ⊥) → (w : Record ℤ) → (row_of k).cites w ≡ []
unfolding row_of
cites_none zero d w = refl
cites_none (suc zero) d w = refl
cites_none (suc (suc zero)) d w = refl
cites_none (suc (suc (suc zero))) d w = refl
cites_none (suc (suc (suc (suc zero)))) d w = refl
cites_none (suc (suc (suc (suc (suc zero))))) d w = refl
cites_none (suc (suc (suc (suc (suc (suc zero)))))) d w = refl
cites_none (suc (suc (suc (suc (suc (suc (suc zero))))))) d w = refl
cites_none (suc (suc (suc (suc (suc (suc (suc (suc zero)))))))) d w = absurd (d refl)
cites_none (suc (suc (suc (suc (suc (suc (suc (suc (suc zero))))))))) d w = refl
cites_none (suc (suc (suc (suc (suc (suc (suc (suc (suc (suc zero)))))))))) d w = refl
cites_none (suc (suc (suc (suc (suc (suc (suc (suc (suc (suc (suc zero))))))))))) d w = refl
cites_none (suc (suc (suc (suc (suc (suc (suc (suc (suc (suc (suc (suc zero)))))))))))) d w = refl
cites_none (suc (suc (suc (suc (suc (suc (suc (suc (suc (suc (suc (suc (suc zero))))))))))))) d w = refl
cites_none (suc (suc (suc (suc (suc (suc (suc (suc (suc (suc (suc (suc (suc (suc zero)))))))))))))) d w = refl
cites_none (suc (suc (suc (suc (suc (suc (suc (suc (suc (suc (suc (suc (suc (suc (suc zero))))))))))))))) d w = refl
cites_none (suc (suc (suc (suc (suc (suc (suc (suc (suc (suc (suc (suc (suc (suc (suc (suc zero)))))))))))))))) d w = refl
cites_none (suc (suc (suc (suc (suc (suc (suc (suc (suc (suc (suc (suc (suc (suc (suc (suc (suc zero))))))))))))))))) d w = refl
cites_none (suc (suc (suc (suc (suc (suc (suc (suc (suc (suc (suc (suc (suc (suc (suc (suc (suc (suc k)))))))))))))))))) d w = refl

-- the kinds that name a fact in word 1
abbrev pub names_one : ℕ → Bool
names_one k = eqb k 3 || leb 14 k

-- g with another fact
abbrev pub with_fact : Named → Given → Given
with_fact f g = record { words = g.words; facts = g.facts; rules = g.rules; fact = f; x = g.x; y = g.y }

pub fact_unread : (k : ℕ) → names_one k ≡ false → (g : Given) (f : Named) → judged (row_of k) (with_fact f g) ≡ judged (row_of k) g
unfolding row_of judged fits
fact_unread zero d g f = refl
fact_unread (suc zero) d g f = refl
fact_unread (suc (suc zero)) d g f = refl
fact_unread (suc (suc (suc zero))) d g f = absurd (true_false refl d)
fact_unread (suc (suc (suc (suc zero)))) d g f = refl
fact_unread (suc (suc (suc (suc (suc zero))))) d g f = refl
fact_unread (suc (suc (suc (suc (suc (suc zero)))))) d g f = refl
fact_unread (suc (suc (suc (suc (suc (suc (suc zero))))))) d g f = refl
fact_unread (suc (suc (suc (suc (suc (suc (suc (suc zero)))))))) d g f = refl
fact_unread (suc (suc (suc (suc (suc (suc (suc (suc (suc zero))))))))) d g f = refl
fact_unread (suc (suc (suc (suc (suc (suc (suc (suc (suc (suc zero)))))))))) d g f = refl
fact_unread (suc (suc (suc (suc (suc (suc (suc (suc (suc (suc (suc zero))))))))))) d g f = refl
fact_unread (suc (suc (suc (suc (suc (suc (suc (suc (suc (suc (suc (suc zero)))))))))))) d g f = refl
fact_unread (suc (suc (suc (suc (suc (suc (suc (suc (suc (suc (suc (suc (suc zero))))))))))))) d g f = refl
fact_unread (suc (suc (suc (suc (suc (suc (suc (suc (suc (suc (suc (suc (suc (suc zero)))))))))))))) d g f = absurd (true_false refl d)
fact_unread (suc (suc (suc (suc (suc (suc (suc (suc (suc (suc (suc (suc (suc (suc (suc zero))))))))))))))) d g f = absurd (true_false refl d)
fact_unread (suc (suc (suc (suc (suc (suc (suc (suc (suc (suc (suc (suc (suc (suc (suc (suc zero)))))))))))))))) d g f = absurd (true_false refl d)
fact_unread (suc (suc (suc (suc (suc (suc (suc (suc (suc (suc (suc (suc (suc (suc (suc (suc (suc zero))))))))))))))))) d g f = absurd (true_false refl d)
fact_unread (suc (suc (suc (suc (suc (suc (suc (suc (suc (suc (suc (suc (suc (suc (suc (suc (suc (suc k)))))))))))))))))) d g f = refl

-- ---- which kinds have children

pub no_cons : (a : ℕ) (cs : List ℕ) → a ∷ cs ≡ [] → ⊥
no_cons a cs e = let z : ◌≡◌ {A = ℕ} 0 1 = cc in omega arith

-- a kind that is none of nine has none
pub childless : (k : Kind) (w : Record ℤ) → (k ≡ Sum → ⊥) → (k ≡ Difference → ⊥) → (k ≡ Product → ⊥) → (k ≡ Comparison → ⊥) → (k ≡ And → ⊥) → (k ≡ Or → ⊥) → (k ≡ Not → ⊥) → (k ≡ ForAll → ⊥) → (k ≡ Exists → ⊥)
    → [] ≡ (row_of (kind_number k)).children w
unfolding row_of
childless IntLiteral w _ _ _ _ _ _ _ _ _ = refl
childless BoolLiteral w _ _ _ _ _ _ _ _ _ = refl
childless EnumLiteral w _ _ _ _ _ _ _ _ _ = refl
childless Fact w _ _ _ _ _ _ _ _ _ = refl
childless Sum w a4 _ _ _ _ _ _ _ _ = absurd (a4 refl)
childless Difference w _ a5 _ _ _ _ _ _ _ = absurd (a5 refl)
childless Product w _ _ a6 _ _ _ _ _ _ = absurd (a6 refl)
childless Comparison w _ _ _ a7 _ _ _ _ _ = absurd (a7 refl)
childless Present w _ _ _ _ _ _ _ _ _ = refl
childless And w _ _ _ _ a9 _ _ _ _ = absurd (a9 refl)
childless Or w _ _ _ _ _ a10 _ _ _ = absurd (a10 refl)
childless Not w _ _ _ _ _ _ a11 _ _ = absurd (a11 refl)
childless MoneyLiteral w _ _ _ _ _ _ _ _ _ = refl
childless DurationLiteral w _ _ _ _ _ _ _ _ _ = refl
childless ForAll w _ _ _ _ _ _ _ a14 _ = absurd (a14 refl)
childless Exists w _ _ _ _ _ _ _ _ a15 = absurd (a15 refl)
childless Length w _ _ _ _ _ _ _ _ _ = refl
childless Element w _ _ _ _ _ _ _ _ _ = refl

-- a node with children names no single fact and cites no rule
pub parent_other : (k : ℕ) (w : Record ℤ) → ((row_of k).children w ≡ [] → ⊥) → (k ≡ 3 → ⊥) × (k ≡ 8 → ⊥)
unfolding row_of
parent_other k w p = (λ e. p (rw e), λ e. p (rw e))
