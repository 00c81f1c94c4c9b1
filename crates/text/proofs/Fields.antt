-- A text as its loops pass it: words one after the other, each with the byte that ends it. Such bytes say their words one by one.
-- Assumes nothing.
use Prim.Native.Nat.{ℕ, zero, suc, ◌+◌, ◌*◌, ◌/◌, ◌%◌, ◌≤◌, ◌<◌}
use mathlib.Core.Path.{◌≡◌, refl, sym, ◌∙◌, ap, subst}
use mathlib.Core.Bool.{Bool, true, false, cond}
use mathlib.Core.List.{List, [], ◌∷◌, ◌++◌, append_assoc, map}
use native.Mathlib.Omega.{arith}
use borrow.Author.Tests.{eq-eqb, ne_eqb}
use lib.Dec.{eqb}
use lib.IntN.{ℤ}
use lib.ListN.{length, take, drop, length-append, length-drop, take-append-drop}
use Rattle.decimal.specs.Decimal.{decimal, has_text, is_digit}
use Rattle.decimal.proofs.Reading.{decimal_unique}
use Rattle.decimal.proofs.Writing.{decimal_small}
use Rattle.text.specs.Lines.{all, join, line, good_row, rows, rows_of, text_of}
use Rattle.text.specs.Steps.{end_of}
use Rattle.text.proofs.Rows.{all_cons, row_is}

-- words from number i on
unfoldable pub fields : ℕ → List ℤ → List ℕ
fields i [] = []
fields i (w ∷ ws) = decimal w ++ (end_of i ∷ fields (i + 1) ws)

pub end_plain : (i : ℕ) → is_digit (end_of i) ≡ false
end_plain i = go (eqb (i % 8) 7)
  where
    go : (t : Bool) → is_digit (cond t 10 9) ≡ false
    go true = refl
    go false = refl

-- ---- lines

line_fields : (ws : List ℤ) (i : ℕ) → length ws + i % 8 ≡ 8 → 0 < length ws → line ws ≡ fields i ws
unfolding line fields
line_fields [] i h p = absurd (omega arith)
line_fields (w ∷ []) i h p = rw (eq-eqb (i % 8) 7 (omega arith))
line_fields (w ∷ (v ∷ vs)) i h p =
    rw (ne_eqb (i % 8) 7 (λ e. omega arith)) (ap (λ (l : List ℕ). decimal w ++ 9 ∷ l) (line_fields (v ∷ vs) (i + 1) (omega arith) (omega arith)))

pub row_fields : (ws : List ℤ) (i : ℕ) → length ws ≡ 8 → i % 8 ≡ 0 → line ws ≡ fields i ws
row_fields ws i h e = line_fields ws i (omega arith) (omega arith)

pub fields_append : (xs ys : List ℤ) (i : ℕ) → fields i (xs ++ ys) ≡ fields i xs ++ fields (i + length xs) ys
unfolding fields
fields_append [] ys i = ap (λ (k : ℕ). fields k ys) (omega arith)
fields_append (x ∷ xs) ys i =
    ap (λ (l : List ℕ). decimal x ++ end_of i ∷ l) (fields_append xs ys (i + 1) ∙ ap (λ (k : ℕ). fields (i + 1) xs ++ fields k ys) (omega arith))
    ∙ sym (append_assoc (decimal x) (end_of i ∷ fields (i + 1) xs) (fields (i + suc (length xs)) ys))

fields_rows : (n : ℕ) (ws : List ℤ) (i : ℕ) → length ws ≤ n * 8 → i % 8 ≡ 0 → all good_row (rows n ws) ≡ true
    → join (map line (rows n ws)) ≡ fields i ws
unfolding rows join fields
fields_rows zero [] i h e g = refl
fields_rows zero (w ∷ ws) i h e g = absurd (omega arith)
fields_rows (suc n) ws i h e g =
    let parts = all_cons good_row (take 8 ws) (rows n (drop 8 ws)) g in
    let eight : length (take 8 ws) ≡ 8 = (row_is (take 8 ws) parts.0).0 in
    ap (λ (l : List ℕ). l ++ join (map line (rows n (drop 8 ws)))) (row_fields (take 8 ws) i eight e)
    ∙ ap (λ (l : List ℕ). fields i (take 8 ws) ++ l)
    (fields_rows n (drop 8 ws) (i + length (take 8 ws)) (omega (arith, length-drop 8 ws)) (omega arith) parts.1)
    ∙ sym (fields_append (take 8 ws) (drop 8 ws) i)
    ∙ ap (fields i) (take-append-drop 8 ws)

-- the text of good rows
pub text_fields : (ws : List ℤ) → all good_row (rows_of ws) ≡ true → text_of ws ≡ fields 0 ws
unfolding text_of rows_of
text_fields ws g = fields_rows ((length ws + 7) / 8) ws 0 (omega arith) refl g

-- ---- lengths

pub length_field : (w : ℤ) (ws : List ℤ) (i : ℕ) → length (fields i (w ∷ ws)) ≡ length (decimal w) + 1 + length (fields (i + 1) ws)
unfolding fields
length_field w ws i = omega (arith, length-append (decimal w) (end_of i ∷ fields (i + 1) ws))

-- a word takes at least a byte, and at most twelve
pub fields_most : (ws : List ℤ) (i : ℕ) → all has_text ws ≡ true → length (fields i ws) ≤ 12 * length ws
unfolding fields
fields_most [] i e = omega arith
fields_most (w ∷ ws) i e =
    let parts = all_cons has_text w ws e in
    omega (arith, length_field w ws i, decimal_small w parts.0, fields_most ws (i + 1) parts.1)

pub fields_least : (ws : List ℤ) (i : ℕ) → length ws ≤ length (fields i ws)
unfolding fields
fields_least [] i = omega arith
fields_least (w ∷ ws) i = omega (arith, length_field w ws i, fields_least ws (i + 1))

-- ---- the next word

pub record Following (l : List ℕ) (i : ℕ) : Type 0 where
  pub word : ℤ
  pub rest : List ℕ
  pub permitted : has_text word ≡ true
  pub split : l ≡ decimal word ++ end_of i ∷ rest

-- where the same bytes say some words, and more words, one of these follows the first ones
pub following : (xs ys : List ℤ) (i : ℕ) (l r : List ℕ) → all has_text xs ≡ true → all has_text ys ≡ true → length xs < length ys
    → fields i xs ++ l ≡ fields i ys ++ r → Following l (i + length xs)
unfolding fields
following [] [] i l r p q h e = absurd (omega arith)
following (x ∷ xs) [] i l r p q h e = absurd (omega arith)
following [] (y ∷ ys) i l r p q h e =
    let here : i ≡ i + length {A = ℤ} [] = omega arith in
    record {
      word = y;
      rest = fields (i + 1) ys ++ r;
      permitted = (all_cons has_text y ys q).0;
      split = e ∙ append_assoc (decimal y) (end_of i ∷ fields (i + 1) ys) r ∙ ap (λ (k : ℕ). decimal y ++ end_of k ∷ (fields (i + 1) ys ++ r)) here;
    }
following (x ∷ xs) (y ∷ ys) i l r p q h e =
    let px = all_cons has_text x xs p in
    let py = all_cons has_text y ys q in
    let split = sym (append_assoc (decimal x) (end_of i ∷ fields (i + 1) xs) l) ∙ e ∙ append_assoc (decimal y) (end_of i ∷ fields (i + 1) ys) r in
    let one = decimal_unique x y (end_of i) (fields (i + 1) xs ++ l) (fields (i + 1) ys ++ r) px.0 py.0 (end_plain i) split in
    subst (Following l) (omega arith) (following xs ys (i + 1) l r px.1 py.1 (omega arith) one.1)
