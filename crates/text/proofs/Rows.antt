-- Lines of words and lines of bytes: which are good, and that each is made of the other.
-- Assumes nothing.
use Prim.Native.Nat.{ℕ, zero, suc, ◌+◌, ◌*◌, ◌/◌, ◌%◌, ◌≤◌, ◌<◌}
use mathlib.Core.Path.{◌≡◌, refl, sym, ◌∙◌, ap, subst}
use mathlib.Core.Bool.{Bool, true, ◌&&◌, and-eq-true_iff, true≢false}
use mathlib.Core.List.{List, [], ◌∷◌, ◌++◌, map}
use native.Mathlib.Omega.{arith}
use borrow.Author.Tests.{eq-eqb, eqb-true}
use lib.Dec.{eqb}
use lib.IntN.{ℤ}
use lib.ListN.{length, take, drop, length-append, length-take, length-drop, take-append-drop}
use lib.Seq.{take_at, drop_at}
use Rattle.decimal.specs.Decimal.{has_text}
use Rattle.text.specs.Lines.{all, join, line, good_row, rows, rows_of, text_of, cut, lines_of, numbers, words_of, same, good_line}
use Rattle.text.proofs.Cut.{join_cut, cut_line, numbers_line_lem}

-- both parts of a test
pub both : (s t : Bool) → s && t ≡ true → (s ≡ true) × (t ≡ true)
both s t e = (and-eq-true_iff s t).0 e

pub both_true : {s t : Bool} → s ≡ true → t ≡ true → s && t ≡ true
both_true {s} {t} p q = (and-eq-true_iff s t).1 (p, q)

module _ {X : Type 0} (ok : X → Bool) where
  pub all_cons : (x : X) (xs : List X) → all ok (x ∷ xs) ≡ true → (ok x ≡ true) × (all ok xs ≡ true)
  unfolding all
  all_cons x xs e = both (ok x) (all ok xs) e

  pub all_more : (x : X) (xs : List X) → ok x ≡ true → all ok xs ≡ true → all ok (x ∷ xs) ≡ true
  unfolding all
  all_more x xs p q = both_true p q

  pub all_append : (xs ys : List X) → all ok xs ≡ true → all ok ys ≡ true → all ok (xs ++ ys) ≡ true
  all_append [] ys p q = q
  all_append (x ∷ xs) ys p q =
      all_more x (xs ++ ys) (all_cons x xs p).0 (all_append xs ys (all_cons x xs p).1 q)

  pub all_take : (n : ℕ) (xs : List X) → all ok xs ≡ true → all ok (take n xs) ≡ true
  unfolding all
  all_take zero xs p = refl
  all_take (suc n) [] p = refl
  all_take (suc n) (x ∷ xs) p = all_more x (take n xs) (all_cons x xs p).0 (all_take n xs (all_cons x xs p).1)

  pub all_drop : (n : ℕ) (xs : List X) → all ok xs ≡ true → all ok (drop n xs) ≡ true
  unfolding all
  all_drop zero xs p = p
  all_drop (suc n) [] p = refl
  all_drop (suc n) (x ∷ xs) p = all_drop n xs (all_cons x xs p).1

-- ---- one line

pub row_is : (ws : List ℤ) → good_row ws ≡ true → (length ws ≡ 8) × (all has_text ws ≡ true)
unfolding good_row
row_is ws e =
    let parts = both (eqb (length ws) 8) (all has_text ws) e in
    (eqb-true (length ws) 8 parts.0, parts.1)

pub row_good : (ws : List ℤ) → length ws ≡ 8 → all has_text ws ≡ true → good_row ws ≡ true
unfolding good_row
row_good ws p q = both_true (eq-eqb (length ws) 8 p) q

same_refl : (xs : List ℕ) → same xs xs ≡ true
unfolding same
same_refl [] = refl
same_refl (x ∷ xs) = both_true (eq-eqb x x refl) (same_refl xs)

same_eq : (xs ys : List ℕ) → same xs ys ≡ true → xs ≡ ys
unfolding same
same_eq [] [] e = refl
same_eq [] (y ∷ ys) e = absurd (true≢false (sym e))
same_eq (x ∷ xs) [] e = absurd (true≢false (sym e))
same_eq (x ∷ xs) (y ∷ ys) e =
    let parts = both (eqb x y) (same xs ys) e in
    let head : x ≡ y = eqb-true x y parts.0 in
    let tail : xs ≡ ys = same_eq xs ys parts.1 in
    cc

-- bytes that are a good line are the line of their words
pub line_is : (l : List ℕ) → good_line l ≡ true → (good_row (numbers l) ≡ true) × (line (numbers l) ≡ l)
unfolding good_line
line_is l e =
    let parts = both (good_row (numbers l)) (same (line (numbers l)) l) e in
    (parts.0, same_eq (line (numbers l)) l parts.1)

-- the line of a good row has the row's words
pub row_words : (ws : List ℤ) → good_row ws ≡ true → numbers (line ws) ≡ ws
row_words [] e = absurd (omega (arith, (row_is [] e).0))
row_words (w ∷ ws) e = numbers_line_lem w ws

pub line_good : (ws : List ℤ) → good_row ws ≡ true → good_line (line ws) ≡ true
unfolding good_line
line_good ws e = rw (row_words ws e) (both_true e (same_refl (line ws)))

pub first_line : (ws : List ℤ) (l : List ℕ) → good_row ws ≡ true → lines_of (line ws ++ l) ≡ line ws ∷ lines_of l
unfolding lines_of
first_line [] l e = absurd (omega (arith, (row_is [] e).0))
first_line (w ∷ ws) l e = cut_line w ws l

-- ---- rows

pub rows_none : rows_of [] ≡ []
unfolding rows_of rows
rows_none = refl

pub rows_more : (ws : List ℤ) → 0 < length ws → rows_of ws ≡ take 8 ws ∷ rows_of (drop 8 ws)
unfolding rows_of rows
rows_more ws h =
    let n : ℕ = (length (drop 8 ws) + 7) / 8 in
    let e : (length ws + 7) / 8 ≡ suc n = omega (arith, length-drop 8 ws) in
    ap (λ (k : ℕ). rows k ws) e

-- the rows, one after the other, are the words
join_rows_in : (n : ℕ) (ws : List ℤ) → length ws ≤ n * 8 → join (rows n ws) ≡ ws
unfolding rows join
join_rows_in zero [] h = refl
join_rows_in zero (w ∷ ws) h = absurd (omega arith)
join_rows_in (suc n) ws h =
    ap (λ (xs : List ℤ). take 8 ws ++ xs) (join_rows_in n (drop 8 ws) (omega (arith, length-drop 8 ws)))
    ∙ take-append-drop 8 ws

pub join_rows : (ws : List ℤ) → join (rows_of ws) ≡ ws
unfolding rows_of
join_rows ws = join_rows_in ((length ws + 7) / 8) ws (omega arith)

-- good rows are the rows of their words
pub rows_join : (rs : List (List ℤ)) → all good_row rs ≡ true → rows_of (join rs) ≡ rs
unfolding join
rows_join [] e = rows_none
rows_join (r ∷ rs) e =
    let parts = all_cons good_row r rs e in
    let eight : length r ≡ 8 = (row_is r parts.0).0 in
    rows_more (r ++ join rs) (omega (arith, length-append r (join rs)))
    ∙ ap (λ (xs : List ℤ). xs ∷ rows_of (drop 8 (r ++ join rs))) (take_at r (join rs) 8 eight)
    ∙ ap (λ (xs : List ℤ). r ∷ rows_of xs) (drop_at r (join rs) 8 eight)
    ∙ ap (◌∷◌ r) (rows_join rs parts.1)

-- whole lines of words that have a text are good
whole_in : (n : ℕ) (ws : List ℤ) → length ws ≡ n * 8 → all has_text ws ≡ true → all good_row (rows n ws) ≡ true
unfolding rows all
whole_in zero ws h e = refl
whole_in (suc n) ws h e =
    all_more good_row (take 8 ws) (rows n (drop 8 ws))
    (row_good (take 8 ws) (omega (arith, length-take 8 ws)) (all_take has_text 8 ws e))
    (whole_in n (drop 8 ws) (omega (arith, length-drop 8 ws)) (all_drop has_text 8 ws e))

pub whole_good : (ws : List ℤ) → length ws % 8 ≡ 0 → all has_text ws ≡ true → all good_row (rows_of ws) ≡ true
unfolding rows_of
whole_good ws h e = whole_in ((length ws + 7) / 8) ws (omega arith) e

rows_texts : (rs : List (List ℤ)) → all good_row rs ≡ true → all has_text (join rs) ≡ true
unfolding join all
rows_texts [] e = refl
rows_texts (r ∷ rs) e =
    let parts = all_cons good_row r rs e in
    all_append has_text r (join rs) (row_is r parts.0).1 (rows_texts rs parts.1)

pub words_good : (ws : List ℤ) → all good_row (rows_of ws) ≡ true → all has_text ws ≡ true
words_good ws e = subst (λ (xs : List ℤ). all has_text xs ≡ true) (join_rows ws) (rows_texts (rows_of ws) e)

-- ---- lines

-- the lines of good rows
lines_rows : (rs : List (List ℤ)) → all good_row rs ≡ true → lines_of (join (map line rs)) ≡ map line rs
unfolding join lines_of cut
lines_rows [] e = refl
lines_rows (r ∷ rs) e =
    let parts = all_cons good_row r rs e in
    first_line r (join (map line rs)) parts.0 ∙ ap (◌∷◌ (line r)) (lines_rows rs parts.1)

lines_good : (rs : List (List ℤ)) → all good_row rs ≡ true → all good_line (map line rs) ≡ true
unfolding all
lines_good [] e = refl
lines_good (r ∷ rs) e =
    let parts = all_cons good_row r rs e in
    all_more good_line (line r) (map line rs) (line_good r parts.0) (lines_good rs parts.1)

numbers_rows : (rs : List (List ℤ)) → all good_row rs ≡ true → map numbers (map line rs) ≡ rs
numbers_rows [] e = refl
numbers_rows (r ∷ rs) e =
    let parts = all_cons good_row r rs e in
    let head : numbers (line r) ≡ r = row_words r parts.0 in
    let tail : map numbers (map line rs) ≡ rs = numbers_rows rs parts.1 in
    cc

rows_good : (ls : List (List ℕ)) → all good_line ls ≡ true → all good_row (map numbers ls) ≡ true
unfolding all
rows_good [] e = refl
rows_good (l ∷ ls) e =
    let parts = all_cons good_line l ls e in
    all_more good_row (numbers l) (map numbers ls) (line_is l parts.0).0 (rows_good ls parts.1)

lines_numbers : (ls : List (List ℕ)) → all good_line ls ≡ true → map line (map numbers ls) ≡ ls
lines_numbers [] e = refl
lines_numbers (l ∷ ls) e =
    let parts = all_cons good_line l ls e in
    let head : line (numbers l) ≡ l = (line_is l parts.0).1 in
    let tail : map line (map numbers ls) ≡ ls = lines_numbers ls parts.1 in
    cc

-- ---- both ways

module _ (text : List ℕ) (good : all good_line (lines_of text) ≡ true) where
  rows_of_words : rows_of (words_of text) ≡ map numbers (lines_of text)
  unfolding words_of
  rows_of_words = rows_join (map numbers (lines_of text)) (rows_good (lines_of text) good)

  pub words_of_good : all good_row (rows_of (words_of text)) ≡ true
  words_of_good = rw rows_of_words (rows_good (lines_of text) good)

  -- the text of a good text's words is the text
  pub text_of_words : text_of (words_of text) ≡ text
  unfolding text_of lines_of
  text_of_words =
      ap (λ (rs : List (List ℤ)). join (map line rs)) rows_of_words
      ∙ ap join (lines_numbers (lines_of text) good)
      ∙ join_cut 10 text

module _ (ws : List ℤ) (good : all good_row (rows_of ws) ≡ true) where
  lines_of_text : lines_of (text_of ws) ≡ map line (rows_of ws)
  unfolding text_of
  lines_of_text = lines_rows (rows_of ws) good

  pub text_of_good : all good_line (lines_of (text_of ws)) ≡ true
  text_of_good = rw lines_of_text (lines_good (rows_of ws) good)

  -- the words of good words' text are the words
  pub words_of_text : words_of (text_of ws) ≡ ws
  unfolding words_of
  words_of_text =
      ap (λ (ls : List (List ℕ)). join (map numbers ls)) lines_of_text
      ∙ ap join (numbers_rows (rows_of ws) good)
      ∙ join_rows ws
