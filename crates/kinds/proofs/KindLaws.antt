-- What holds of every kind's value: where the first child decides, it is the value; and only the verdicts that the node cites matter.
-- Assumes nothing.
use mathlib.Core.Path.{◌≡◌, refl}
use mathlib.Core.Bool.{Bool, true, false}
use mathlib.Core.List.{List, [], ◌∷◌}
use Prim.Native.Nat.{ℕ, zero, suc}
use lib.IntN.{ℤ, pos}
use lib.ListN.{get_or}
use Rattle.tables.specs.Lists.{all_of}
use Rattle.tables.proofs.Bools.{true_false, and_left}
use Rattle.signed.specs.Words.{eq_z, num}
use Rattle.signed.proofs.Parts.{eq_true}
use Rattle.words.specs.declared.Record.{Record}
use Rattle.node.specs.declared.Given.{Given}
use Rattle.node.specs.declared.Kind.{Kind}
use Rattle.node.specs.declared.Kind.TheVariants.{IntLiteral, BoolLiteral, EnumLiteral, Fact, Sum, Difference, Product, Comparison, Present, And, Or, Not, MoneyLiteral, DurationLiteral, ForAll, Exists, Length, Element}
use Rattle.node.specs.Kinds.{kind_number}
use Rattle.node.specs.FactValues.{FactValue}
use Rattle.node.specs.Rows.{Row, unknown, rows, row_of, int_literal, bool_literal, enum_literal, fact_named, sums, differences, product, comparison, present, conjunction, disjunction, negated, money_literal, duration_literal, for_all, exists, list_length, list_element}
use Rattle.node.specs.Judged.{seen}

-- a fact of each row of a list
infixr 30 ◌▹◌
pub data Each (Q : Row → Type 0) : List Row → Type 0 where
  end : Each Q []
  ◌▹◌ : {r : Row} {rs : List Row} → Q r → Each Q rs → Each Q (r ∷ rs)

each_at : (Q : Row → Type 0) (rs : List Row) (k : ℕ) → Each Q rs → Q unknown → Q (get_or rs k unknown)
each_at Q [] k end u = u
each_at Q (r ∷ rs) zero (p ▹ ps) u = p
each_at Q (r ∷ rs) (suc k) (p ▹ ps) u = each_at Q rs k ps u

-- a fact of every row
pub every : (Q : Row → Type 0) → Each Q rows → Q unknown → (k : ℕ) → Q (row_of k)
unfolding row_of
every Q p u k = each_at Q rows k p u

-- ---- the first child decides

abbrev Decided : Row → Type 0
Decided r =
    (w : Record ℤ) (facts : List FactValue) (verdicts : List ℤ) (e x y : ℤ) (body : ℤ → ℤ) → r.decides x ≡ true
    → r.value (seen w facts verdicts e x y body) ≡ x

and_decided : Decided conjunction
unfolding eq_z
and_decided w facts verdicts e x y b p = rw (eq_true x (pos 0) p)

or_decided : Decided disjunction
unfolding eq_z
or_decided w facts verdicts e x y b p = rw (eq_true x (pos 1) p)

-- a row that no child decides
never : (r : Row) → ((x : ℤ) → r.decides x ≡ false) → Decided r
never r n w facts verdicts e x y b p = absurd (true_false p (n x))

pub decided : (k : ℕ) → Decided (row_of k)
decided =
    every Decided
    (never int_literal (λ x. refl) ▹ never bool_literal (λ x. refl) ▹ never enum_literal (λ x. refl) ▹ never fact_named (λ x. refl)
    ▹ never sums (λ x. refl) ▹ never differences (λ x. refl) ▹ never product (λ x. refl) ▹ never comparison (λ x. refl)
    ▹ never present (λ x. refl)
    ▹ and_decided ▹ or_decided ▹ never negated (λ x. refl) ▹ never money_literal (λ x. refl) ▹ never duration_literal (λ x. refl)
    ▹ never for_all (λ x. refl)
    ▹ never exists (λ x. refl) ▹ never list_length (λ x. refl) ▹ never list_element (λ x. refl) ▹ end)
    (never unknown (λ x. refl))

-- and the node is of type Bool
abbrev BoolDecided : Row → Type 0
BoolDecided r = (g : Given) (x : ℤ) → r.decides x ≡ true → (r.gives g).sort ≡ 0

never_bool : (r : Row) → ((x : ℤ) → r.decides x ≡ false) → BoolDecided r
never_bool r n g x p = absurd (true_false p (n x))

pub decided_bool : (k : ℕ) → BoolDecided (row_of k)
decided_bool =
    every BoolDecided
    (never_bool int_literal (λ x. refl) ▹ never_bool bool_literal (λ x. refl) ▹ never_bool enum_literal (λ x. refl) ▹ never_bool fact_named (λ x. refl)
    ▹ never_bool sums (λ x. refl) ▹ never_bool differences (λ x. refl) ▹ never_bool product (λ x. refl) ▹ never_bool comparison (λ x. refl)
    ▹ never_bool present (λ x. refl)
    ▹ (λ g x e. refl) ▹ (λ g x e. refl) ▹ never_bool negated (λ x. refl) ▹ never_bool money_literal (λ x. refl)
    ▹ never_bool duration_literal (λ x. refl) ▹ never_bool for_all (λ x. refl)
    ▹ never_bool exists (λ x. refl) ▹ never_bool list_length (λ x. refl) ▹ never_bool list_element (λ x. refl) ▹ end)
    (never_bool unknown (λ x. refl))

-- ---- the verdicts that matter

-- two lists of verdicts that agree where P says so give one value, if P says so of each rule that is cited
abbrev Cited : Row → Type 0
Cited r =
    (P : ℕ → Bool) (w : Record ℤ) (facts : List FactValue) (u v : List ℤ) (e x y : ℤ) (body : ℤ → ℤ) → all_of P (r.cites w) ≡ true
    → ((c : ℕ) → P c ≡ true → get_or u c (pos 0) ≡ get_or v c (pos 0))
    → r.value (seen w facts u e x y body) ≡ r.value (seen w facts v e x y body)

present_cited : Cited present
unfolding all_of
present_cited P w facts u v e x y b a h = h (num w.w1) (and_left (P (num w.w1)) true a)

pub cited : (k : ℕ) → Cited (row_of k)
cited =
    every Cited
    ((λ P w f u v e x y b a h. refl) ▹ (λ P w f u v e x y b a h. refl) ▹ (λ P w f u v e x y b a h. refl) ▹ (λ P w f u v e x y b a h. refl)
    ▹ (λ P w f u v e x y b a h. refl) ▹ (λ P w f u v e x y b a h. refl) ▹ (λ P w f u v e x y b a h. refl) ▹ (λ P w f u v e x y b a h. refl)
    ▹ present_cited ▹ (λ P w f u v e x y b a h. refl) ▹ (λ P w f u v e x y b a h. refl) ▹ (λ P w f u v e x y b a h. refl) ▹ (λ P w f u v e x y b a h. refl)
    ▹ (λ P w f u v e x y b a h. refl) ▹ (λ P w f u v e x y b a h. refl) ▹ (λ P w f u v e x y b a h. refl) ▹ (λ P w f u v e x y b a h. refl)
    ▹ (λ P w f u v e x y b a h. refl) ▹ end)
    (λ P w f u v e x y b a h. refl)

-- ---- only "and" and "or" are decided

pub undecided : (k : Kind) → (k ≡ And → ⊥) → (k ≡ Or → ⊥) → (x : ℤ) → (row_of (kind_number k)).decides x ≡ false
unfolding row_of
undecided IntLiteral d e x = refl
undecided BoolLiteral d e x = refl
undecided EnumLiteral d e x = refl
undecided Fact d e x = refl
undecided Sum d e x = refl
undecided Difference d e x = refl
undecided Product d e x = refl
undecided Comparison d e x = refl
undecided Present d e x = refl
undecided And d e x = absurd (d refl)
undecided Or d e x = absurd (e refl)
undecided Not d e x = refl
undecided MoneyLiteral d e x = refl
undecided DurationLiteral d e x = refl
undecided ForAll d e x = refl
undecided Exists d e x = refl
undecided Length d e x = refl
undecided Element d e x = refl
