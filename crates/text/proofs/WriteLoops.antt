-- The loops of `write`: words of a line and lines that are judged, bytes that are counted, and fields that are written, one after the other.
-- Assumes nothing.
use Rattle.std.specs.Prelude.{Err}
use Prim.Native.Nat.{ℕ, zero, suc, ◌+◌, ◌*◌, ◌/◌, ◌≤◌, ◌<◌}
use mathlib.Core.Path.{◌≡◌, refl, sym, ◌∙◌, ap}
use mathlib.Core.Bool.{Bool, true, false, cond, ◌&&◌, and_assoc, and-true}
use mathlib.Core.List.{List, [], ◌∷◌, ◌++◌}
use native.Mathlib.Omega.{arith}
use native.Mathlib.Numerals.{add-one}
use borrow.Author.Tests.{ne_eqb, eq-eqb, leb-true}
use mir.Syntax.{w64}
use mir.Val.{to_z, of_z}
use mir.ValLaws.{to_z-of_z}
use lib.IntN.{ℤ, pos}
use lib.ListN.{length, take, drop, get_or, length-take, length-drop, length-append, drop_of_length-le}
use lib.Seq.{append_snoc, sets, length-sets, drop-cons}
use Rattle.std.specs.List.{prefix_len}
use Rattle.std.proofs.lemmas.List.Sums.{prefix_len-drop_yes, prefix_len-drop_no, prefix_len-drop_all}
use Rattle.std.specs.Simd.{first_chunks}
use Rattle.answer.specs.declared.Refusal.TheVariants.{Line}
use Rattle.decimal.specs.Decimal.{decimal, has_text}
use Rattle.decimal.proofs.Signed.{fits_word}
use Rattle.decimal.proofs.Writing.{sets_append}
use Rattle.text.specs.Lines.{all, join, good_row, rows_of, text_of}
use Rattle.text.specs.Calls.{before, judged}
use Rattle.text.specs.Steps.{end_of}
use Rattle.text.proofs.Rows.{all_cons, all_more, all_drop, row_is, rows_none, rows_more, join_rows, words_good}
use Rattle.text.proofs.Fields.{fields, length_field, fields_most, text_fields}
use Rattle.text.proofs.Calls.{before_length, rows_count, ends_refused}

-- ---- a line that is judged

-- j words of a line are judged
abbrev pub Testing : List ℤ → Bool → ℕ → Type 0
Testing row good j = all has_text row ≡ good && all has_text (drop j row)

pub testing_more : (row : List ℤ) (good : Bool) (j : ℕ) → j < length row → Testing row good j
    → Testing row (good && has_text (get_or row j (pos 0))) (j + 1)
unfolding all
testing_more row good j h s =
    let rest : drop j row ≡ get_or row j (pos 0) ∷ drop (j + 1) row = rw (add-one j) (drop-cons row j (pos 0) h) in
    s
    ∙ ap (λ (ws : List ℤ). good && all has_text ws) rest
    ∙ sym (and_assoc good (has_text (get_or row j (pos 0))) (all has_text (drop (j + 1) row)))

pub testing_done : (row : List ℤ) (good : Bool) (j : ℕ) → length row ≡ 8 → length row ≤ j → Testing row good j → good_row row ≡ good
unfolding good_row all
testing_done row good j h i s =
    let none : drop j row ≡ [] = drop_of_length-le row i in
    let judged-all : all has_text row ≡ good = s ∙ ap (λ (ws : List ℤ). good && all has_text ws) none ∙ and-true good in
    rw (eq-eqb (length row) 8 h, judged-all)

pub ruleset testing_steps = (testing_more, testing_done)

-- ---- lines that are judged

row_short : (ws : List ℤ) → length ws < 8 → good_row ws ≡ false
unfolding good_row
row_short ws h = rw (ne_eqb (length ws) 8 (λ e. omega arith))

short_before : (ws : List ℤ) → length ws < 8 → before good_row (rows_of ws) ≡ 0
unfolding before
short_before [] h = rw rows_none
short_before (w ∷ ws) h =
    let some : 0 < length (w ∷ ws) = omega arith in
    let short : length (take 8 (w ∷ ws)) < 8 = omega (arith, length-take 8 (w ∷ ws)) in
    rw (rows_more (w ∷ ws) some, row_short (take 8 (w ∷ ws)) short)

chunks_before : (k : ℕ) (ws : List ℤ) → length ws / 8 ≡ k → prefix_len good_row (first_chunks 8 k ws) ≡ before good_row (rows_of ws)
unfolding before
chunks_before zero ws h = sym (short_before ws (omega arith))
chunks_before (suc k) ws h =
    rw (rows_more ws (omega arith), chunks_before k (drop 8 ws) (omega (arith, length-drop 8 ws)))
    (ap (λ (n : ℕ). cond (good_row (take 8 ws)) n 0) (omega arith))

-- the good lines at the start are the good chunks there: a short last line is no chunk, and is not good
pub rows_before : (ws : List ℤ) → prefix_len good_row (first_chunks 8 (length ws / 8) ws) ≡ before good_row (rows_of ws)
rows_before ws = chunks_before (length ws / 8) ws refl

pub ruleset passing_steps = (rows_before, prefix_len-drop_yes, prefix_len-drop_no, prefix_len-drop_all)

-- ---- whole lines

-- all are good where none comes after the good ones
all_before : {X : Type 0} (ok : X → Bool) (xs : List X) → before ok xs ≡ length xs → all ok xs ≡ true
unfolding before all
all_before ok [] h = refl
all_before ok (x ∷ xs) h = go (ok x) refl (all_before ok xs) h
  where
    go : (t : Bool) → ok x ≡ t → (before ok xs ≡ length xs → all ok xs ≡ true) → cond t (suc (before ok xs)) 0 ≡ suc (length xs)
        → all ok (x ∷ xs) ≡ true
    go true e ih h = all_more ok x xs e (ih (omega arith))
    go false e ih h = absurd (omega arith)

before_all : {X : Type 0} (ok : X → Bool) (xs : List X) → all ok xs ≡ true → before ok xs ≡ length xs
unfolding before
before_all ok [] e = refl
before_all ok (x ∷ xs) e =
    let parts = all_cons ok x xs e in
    rw (parts.0, before_all ok xs parts.1)

eights : (rs : List (List ℤ)) → all good_row rs ≡ true → length (join rs) ≡ length rs * 8
unfolding join
eights [] e = refl
eights (r ∷ rs) e =
    let parts = all_cons good_row r rs e in
    omega (arith, length-append r (join rs), (row_is r parts.0).0, eights rs parts.1)

-- k lines come before the first bad one
module _ (words : List ℤ) (k : ℕ) (e : k ≡ before good_row (rows_of words)) where
  pub lines_few : k * 8 ≤ length words + 7
  lines_few = omega (arith, before_length good_row (rows_of words), rows_count words)

  pub lines_whole : k * 8 ≡ length words → all good_row (rows_of words) ≡ true
  lines_whole h = all_before good_row (rows_of words) (omega (arith, rows_count words))

  pub lines_short : (k * 8 ≡ length words → ⊥) → (n : ℕ) → judged good_row (rows_of words) n ≡ Err (Line k)
  unfolding judged
  lines_short h n = go (all good_row (rows_of words)) refl
    where
      go : (t : Bool) → all good_row (rows_of words) ≡ t → judged good_row (rows_of words) n ≡ Err (Line k)
      go true g =
          absurd (h (omega (arith, before_all good_row (rows_of words) g, eights (rows_of words) g, ap length (join_rows words))))
      go false g = rw (g, ← e)

pub ruleset whole_lines = (lines_few, lines_whole, lines_short)

pub ruleset write_steps = (whole_lines, ends_refused, leb-true)

-- ---- fields that are counted, and written

-- i words take n bytes
abbrev pub Counting : List ℤ → ℕ → ℕ → Type 0
Counting words n i = n + length (fields i (drop i words)) ≡ length (text_of words)

module _ (words : List ℤ) (good : all good_row (rows_of words) ≡ true) where
  pub text_most : length (text_of words) ≤ 12 * length words
  text_most = omega (arith, ap length (text_fields words good), fields_most words 0 (words_good words good))

  pub counting_none : Counting words 0 0
  counting_none = omega (arith, ap length (text_fields words good))

  pub counting_done : (n i : ℕ) → length words ≤ i → Counting words n i → n ≡ length (text_of words)
  unfolding fields
  counting_done n i h p = let q = rw (drop_of_length-le words h) at p in omega arith

  module _ (i : ℕ) (h : i < length words) where
    abbrev word : ℤ
    word = get_or words i (pos 0)

    words_rest : drop i words ≡ word ∷ drop (i + 1) words
    words_rest = rw (add-one i) (drop-cons words i (pos 0) h)

    pub word_permitted : has_text word ≡ true
    word_permitted =
        (all_cons has_text word (drop (i + 1) words) (rw words_rest at (all_drop has_text i words (words_good words good)))).0

    -- it is one that a machine word holds
    pub word_told : to_z w64 (of_z w64 word) ≡ word
    word_told = to_z-of_z w64 word (fits_word word word_permitted)

    pub counting_more : (n : ℕ) → Counting words n i → Counting words (n + (length (decimal word) + 1)) (i + 1)
    counting_more n p =
        omega (arith, ap (λ (l : List ℤ). length (fields i l)) words_rest, length_field word (drop (i + 1) words) i)

pub ruleset counting_steps = (text_most, counting_none, counting_done, word_permitted, word_told, counting_more)

-- i words are written, and `at` is the place of the next
pub record Putting (words : List ℤ) (lent text : List ℕ) (at i : ℕ) : Type 0 where
  pub put : sets text at (fields i (drop i words)) ≡ sets lent 0 (text_of words)
  pub place : Counting words at i
  pub room : length (text_of words) ≤ length text
  pub size : length text ≡ length lent

module _ (words : List ℤ) (good : all good_row (rows_of words) ≡ true) (lent : List ℕ) where
  pub putting_none : length (text_of words) ≤ length lent → Putting words lent lent 0 0
  putting_none h =
      record { put = ap (sets lent 0) (sym (text_fields words good)); place = counting_none words good; room = h; size = refl }

  module _ (text : List ℕ) (at i : ℕ) (p : Putting words lent text at i) (h : i < length words) where
    pub putting_room : at + length (decimal (get_or words i (pos 0))) < length text
    putting_room = omega (arith, p.room, counting_more words good i h at p.place)

    pub putting_more : (text' : List ℕ) (next : ℕ) → next ≡ at + length (decimal (get_or words i (pos 0))) + 1
        → text' ≡ sets text at (decimal (get_or words i (pos 0)) ++ (end_of i ∷ [])) → Putting words lent text' next (i + 1)
    unfolding fields
    putting_more text' next e f =
        let here : List ℕ = decimal (get_or words i (pos 0)) in
        let later : List ℕ = fields (i + 1) (drop (i + 1) words) in
        let place : next ≡ at + length (here ++ (end_of i ∷ [])) = omega (arith, e, length-append here (end_of i ∷ [])) in
        let kept : length text' ≡ length text = ap length f ∙ length-sets text at (here ++ (end_of i ∷ [])) in
        record {
          put =
              rw (f, place)
              (sets_append (here ++ (end_of i ∷ [])) later text at
              ∙ ap (sets text at) (append_snoc here (end_of i) later ∙ sym (ap (fields i) (words_rest words good i h)))
              ∙ p.put);
          place = omega (arith, e, counting_more words good i h at p.place);
          room = omega (arith, p.room);
          size = kept ∙ p.size;
        }

  pub putting_done : (text : List ℕ) (at i : ℕ) → length words ≤ i → Putting words lent text at i → text ≡ sets lent 0 (text_of words)
  unfolding fields
  putting_done text at i h p =
      ap (λ (l : List ℤ). sets text at (fields i l)) (sym (drop_of_length-le words h)) ∙ p.put

pub ruleset putting_steps = (word_permitted, word_told, counting_done, putting_none, putting_room, putting_more, putting_done)
