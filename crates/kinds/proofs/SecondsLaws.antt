-- Every kind over values with each duration in seconds: what comes of it is the node's value, a duration in seconds. So the evaluator converts
-- at the leaves alone, and asks no node for its type.
-- Assumes nothing.
use mathlib.Core.Path.{◌≡◌, refl, sym, ap, ap₂, ◌∙◌}
use mathlib.Core.Bool.{Bool, true, not, ◌&&◌, ◌||◌}
use mathlib.Core.List.{List}
use Prim.Native.Nat.{ℕ, ◌+◌, ◌≤◌, ◌<◌}
use native.Mathlib.Omega.{arith}
use lib.IntN.{ℤ, pos, negsuc, nat_abs, ◌+ℤ◌, ◌-ℤ◌, ◌*ℤ◌}
use lib.Dec.{leb, ltb, eqb}
use mir.Syntax.{w64}
use mir.Val.{SFits}
use borrow.Author.Tests.{eqb-true}
use Rattle.tables.proofs.Bools.{true_false, and_left, and_right}
use Rattle.signed.specs.Words.{num, bounded}
use Rattle.signed.specs.Compare.{holds}
use Rattle.signed.proofs.Parts.{P, N}
use Rattle.signed.proofs.Bounds.{read_small}
use Rattle.signed.proofs.Fit.{fits_size}
use Rattle.signed.proofs.Scaled.{holds_scaled, plus_scaled, minus_scaled}
use Rattle.words.specs.declared.Record.{Record}
use Rattle.item.specs.Sorts.{is_number}
use Rattle.item.specs.Units.{factor, shared, converted}
use Rattle.item.proofs.Units.{factor_least, shared_low, converted_low, converted_on, converted_size, converted_most}
use Rattle.item.proofs.Products.{multiple_sort}
use Rattle.node.specs.declared.Given.{Given}
use Rattle.node.specs.FactValues.{FactValue}
use Rattle.node.specs.Rows.{Row, row_of, bit, is_true, sums, differences, product, comparison, conjunction, disjunction, negated}
use Rattle.node.specs.Judged.{seen}
use Rattle.node.proofs.Judged.{row_past}
use Rattle.kinds.specs.Inner.{leaf_of, seconds_from, Wide}
use Rattle.kinds.proofs.KindLaws.{end, ◌▹◌, every, decided, decided_bool}

-- ---- what fits a word

size_abs : (z : ℤ) → nat_abs z ≡ P z + N z
size_abs (pos n) = omega arith
size_abs (negsuc n) = omega arith

pub fits_wide : {z : ℤ} → Wide z → SFits w64 z
fits_wide {z} h = fits_size z (omega (arith, h.wide, size_abs z))

-- ---- the rows

-- two children of the types a and b, of the values x and y
module _ (a b : ℕ) (x y : ℤ) (p : a ≤ 261) (q : b ≤ 261) where
  -- what a row sees of them, and what the evaluator has of them
  abbrev cx : ℤ
  cx = converted a b x

  abbrev cy : ℤ
  cy = converted b a y

  abbrev sx : ℤ
  sx = converted a 261 x

  abbrev sy : ℤ
  sy = converted b 261 y

  abbrev m : ℕ
  m = shared a b

  abbrev f : ℕ
  f = factor m (shared m 261)

  module _ (e : m ≡ shared b a) where
    first : cx *ℤ pos f ≡ sx
    unfolding converted
    first = converted_on a b x p q

    second : cy *ℤ pos f ≡ sy
    unfolding converted
    second = rw e (converted_on b a y q p)

    pub both_held : (op : ℕ) → holds op cx cy ≡ holds op sx sy
    both_held op = sym (holds_scaled f (factor_least m (shared m 261)) op cx cy) ∙ ap₂ (holds op) first second

    pub both_added : converted m 261 (cx +ℤ cy) ≡ (sx +ℤ sy)
    unfolding converted
    both_added = plus_scaled f cx cy ∙ ap₂ ◌+ℤ◌ first second

    pub both_taken : converted m 261 (cx -ℤ cy) ≡ (sx -ℤ sy)
    unfolding converted
    both_taken = minus_scaled f cx cy ∙ ap₂ ◌-ℤ◌ first second

abbrev Settled : Row → Type 0
Settled r =
    (g : Given) (facts : List FactValue) (verdicts : List ℤ) (i : ℤ) (a b : ℕ) (x y : ℤ) (body : ℤ → ℤ) → a ≤ 261 → b ≤ 261
    → g.x.sort ≡ shared a b → g.y.sort ≡ shared b a → r.takes g ≡ true
    → converted (r.gives g).sort 261 (r.value (seen g.words facts verdicts i (converted a b x) (converted b a y) body))
    ≡ converted (r.gives (leaf_of g.words g.fact.item.sort)).sort 261
    (r.value (seen g.words facts verdicts i (converted a 261 x) (converted b 261 y) body))

sums_settled : Settled sums
sums_settled g u v i a b x y d p q ex ey t =
    let e = sym ex ∙ eqb-true _ _ (and_left (eqb g.x.sort g.y.sort) (is_number g.x.sort) t) ∙ ey in
    rw ex (both_added a b x y p q e) ∙ sym (converted_low 0 261 _ (omega arith))

differences_settled : Settled differences
differences_settled g u v i a b x y d p q ex ey t =
    let e = sym ex ∙ eqb-true _ _ (and_left (eqb g.x.sort g.y.sort) (is_number g.x.sort) t) ∙ ey in
    rw ex (both_taken a b x y p q e) ∙ sym (converted_low 0 261 _ (omega arith))

-- a child that is no duration
plain : (a b t : ℕ) (x : ℤ) → t ≡ shared a b → t < 258 → converted a b x ≡ converted a 261 x
plain a b t x e l =
    let z : a < 258 = omega (arith, shared_low a b (rw (sym e) l), e) in
    converted_low a b x z ∙ sym (converted_low a 261 x z)

product_settled : Settled product
product_settled g u v i a b x y d p q ex ey t =
    let n = g.words.w2 in
    let one = eqb-true g.x.sort 1 (and_right (bounded n) (eqb g.x.sort 1) t) in
    converted_low _ 261 _ (omega (arith, multiple_sort n g.x, one))
    ∙ ap (λ (z : ℤ). z *ℤ n) (plain a b g.x.sort x ex (omega (arith, one)))
    ∙ sym (converted_low _ 261 _ (omega (arith, multiple_sort n (leaf_of g.words g.fact.item.sort).x)))

comparison_settled : Settled comparison
comparison_settled g u v i a b x y d p q ex ey t =
    let op = num g.words.w1 in
    let e =
    sym ex
    ∙ eqb-true _ _ (and_right (leb op 5) _ (and_left (leb op 5 && eqb g.x.sort g.y.sort) (ltb op 2 || is_number g.x.sort) t))
    ∙ ey in
    ap (λ (z : Bool). converted 0 261 (bit z)) (both_held a b x y p q e op)

-- two children of type Bool
bools_plain : (g : Given) (a b : ℕ) (x y : ℤ) → g.x.sort ≡ shared a b → g.y.sort ≡ shared b a
    → (eqb g.x.sort 0 && eqb g.y.sort 0) ≡ true
    → (converted a b x ≡ converted a 261 x) × (converted b a y ≡ converted b 261 y)
bools_plain g a b x y ex ey t = (
  plain a b g.x.sort x ex (omega (arith, eqb-true g.x.sort 0 (and_left (eqb g.x.sort 0) (eqb g.y.sort 0) t))),
  plain b a g.y.sort y ey (omega (arith, eqb-true g.y.sort 0 (and_right (eqb g.x.sort 0) (eqb g.y.sort 0) t))),
)

conjunction_settled : Settled conjunction
conjunction_settled g u v i a b x y d p q ex ey t =
    let z = bools_plain g a b x y ex ey t in
    ap₂ (λ (x y : ℤ). converted 0 261 (bit (is_true x && is_true y))) z.0 z.1

disjunction_settled : Settled disjunction
disjunction_settled g u v i a b x y d p q ex ey t =
    let z = bools_plain g a b x y ex ey t in
    ap₂ (λ (x y : ℤ). converted 0 261 (bit (is_true x || is_true y))) z.0 z.1

negated_settled : Settled negated
negated_settled g u v i a b x y d p q ex ey t =
    ap (λ (x : ℤ). converted 0 261 (bit (not (is_true x)))) (plain a b g.x.sort x ex (omega (arith, eqb-true g.x.sort 0 t)))

settled : (k : ℕ) → Settled (row_of k)
settled =
    every Settled
    ((λ g u v i a b x y d p q ex ey t. refl) ▹ (λ g u v i a b x y d p q ex ey t. refl) ▹ (λ g u v i a b x y d p q ex ey t. refl)
    ▹ (λ g u v i a b x y d p q ex ey t. refl) ▹ sums_settled ▹ differences_settled ▹ product_settled ▹ comparison_settled
    ▹ (λ g u v i a b x y d p q ex ey t. refl) ▹ conjunction_settled ▹ disjunction_settled ▹ negated_settled
    ▹ (λ g u v i a b x y d p q ex ey t. refl) ▹ (λ g u v i a b x y d p q ex ey t. refl) ▹ (λ g u v i a b x y d p q ex ey t. refl)
    ▹ (λ g u v i a b x y d p q ex ey t. refl) ▹ (λ g u v i a b x y d p q ex ey t. refl) ▹ (λ g u v i a b x y d p q ex ey t. refl) ▹ end)
    (λ g u v i a b x y d p q ex ey t. absurd (true_false t refl))

-- the value of a node in seconds, from those of its children
pub seconds_from_lem : (k : ℕ) (g : Given) (facts : List FactValue) (verdicts : List ℤ) (e : ℤ) (a b : ℕ) (x y : ℤ) (body : ℤ → ℤ) → a ≤ 261
    → b ≤ 261 → g.x.sort ≡ shared a b → g.y.sort ≡ shared b a → (row_of k).takes g ≡ true
    → converted ((row_of k).gives g).sort 261 ((row_of k).value (seen g.words facts verdicts e (converted a b x) (converted b a y) body))
    ≡ seconds_from k g.words g.fact.item.sort facts verdicts e (converted a 261 x) (converted b 261 y) body
unfolding seconds_from
seconds_from_lem k = settled k

-- the value as it stands, where the node is no duration or has children
pub settle : {r : ℤ} (k : ℕ) (w : Record ℤ) (f : ℕ) (facts : List FactValue) (verdicts : List ℤ) (e x y : ℤ) (body : ℤ → ℤ)
    → ((row_of k).gives (leaf_of w f)).sort < 258 → r ≡ (row_of k).value (seen w facts verdicts e x y body)
    → r ≡ seconds_from k w f facts verdicts e x y body
unfolding seconds_from
settle k w f facts verdicts e x y b l p = p ∙ sym (converted_low _ 261 _ l)

-- a node of an unknown kind comes to 0
pub unknown_seconds : (k : ℕ) → 17 < k → (w : Record ℤ) (f : ℕ) (facts : List FactValue) (verdicts : List ℤ) (e x y : ℤ) (body : ℤ → ℤ)
    → pos 0 ≡ seconds_from k w f facts verdicts e x y body
unknown_seconds k h w f facts verdicts e x y b =
    settle k w f facts verdicts e x y b (rw (row_past k h) (omega arith)) (rw (row_past k h))

-- where the first child decides, it is the value
pub decided_seconds : (k : ℕ) (w : Record ℤ) (f : ℕ) (facts : List FactValue) (verdicts : List ℤ) (e x y : ℤ) (body : ℤ → ℤ)
    → (row_of k).decides x ≡ true → seconds_from k w f facts verdicts e x y body ≡ x
unfolding seconds_from
decided_seconds k w f facts verdicts e x y b d =
    converted_low _ 261 _ (omega (arith, decided_bool k (leaf_of w f) x d)) ∙ decided k w facts verdicts e x y b d

-- what a node has to work out is no larger
pub value_wide : (k : ℕ) (w : Record ℤ) (f : ℕ) (facts : List FactValue) (verdicts : List ℤ) (e x y : ℤ) (body : ℤ → ℤ)
    → Wide (seconds_from k w f facts verdicts e x y body) → Wide ((row_of k).value (seen w facts verdicts e x y body))
unfolding seconds_from
value_wide k w f facts verdicts e x y b h =
    let v = (row_of k).value (seen w facts verdicts e x y b) in
    record {
      wide = omega (
        arith,
        h.wide,
        size_abs v,
        size_abs (seconds_from k w f facts verdicts e x y b),
        converted_size ((row_of k).gives (leaf_of w f)).sort 261 v,
      );
    }

pub wide_of : (t : ℕ) (v : ℤ) → bounded v ≡ true → Wide (converted t 261 v)
wide_of t v e = record { wide = omega (arith, size_abs (converted t 261 v), converted_most t 261 v, read_small v e) }
