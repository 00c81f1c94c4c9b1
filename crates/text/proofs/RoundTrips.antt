-- Both round trips, on the definitions that the contracts of `read` and `write` cite: `read_answer` and `read_buffer`, `write_answer` and
-- `write_buffer`. They hold for every text, all words and every lent slice.
-- Assumes nothing.
use Rattle.std.specs.Prelude.{Ok}
use Prim.Native.Nat.{ℕ, ◌*◌, ◌%◌, ◌≤◌}
use mathlib.Core.Path.{◌≡◌, sym, ◌∙◌, ap, subst}
use mathlib.Core.Bool.{true}
use mathlib.Core.List.{List}
use mathlib.Core.Logic.{◌↔◌}
use lib.IntN.{ℤ}
use lib.ListN.{length, take}
use Rattle.decimal.specs.Decimal.{has_text}
use Rattle.text.specs.Lines.{all, line, numbers, good_row, rows_of, text_of, good_line, lines_of, words_of}
use Rattle.text.specs.Calls.{read_answer, read_buffer, write_answer, write_buffer}
use Rattle.text.proofs.Rows.{line_is, line_good, words_of_good, text_of_words, text_of_good, words_of_text, whole_good}
use Rattle.text.proofs.Fields.{text_fields, fields_most}
use Rattle.text.proofs.Calls.{Accepted, accepted, accepts, filled_take}

-- ---- what a call that goes through leaves

read_is : (text : List ℕ) (lent : List ℤ) (n : ℕ) → read_answer text (length lent) ≡ Ok n
    → Accepted good_line (lines_of text) (length (words_of text)) (length lent) n
unfolding read_answer
read_is text lent n e = accepted good_line (lines_of text) (length (words_of text)) (length lent) n e

reads : (text : List ℕ) (room : ℕ) → all good_line (lines_of text) ≡ true → length (words_of text) ≤ room
    → read_answer text room ≡ Ok (length (words_of text))
unfolding read_answer
reads text room h r = accepts good_line (lines_of text) (length (words_of text)) room h r

read_words : (text : List ℕ) (lent : List ℤ) (n : ℕ) → read_answer text (length lent) ≡ Ok n → take n (read_buffer text lent) ≡ words_of text
unfolding read_buffer
read_words text lent n e =
    let count : n ≡ length (words_of text) = (read_is text lent n e).count in
    rw (e, count) (filled_take (words_of text) lent)

write_is : (words : List ℤ) (lent : List ℕ) → all good_row (rows_of words) ≡ true → length (text_of words) ≤ length lent
    → write_answer words (length lent) ≡ Ok (length (text_of words))
unfolding write_answer
write_is words lent h r = accepts good_row (rows_of words) (length (text_of words)) (length lent) h r

write_text : (words : List ℤ) (lent : List ℕ) → all good_row (rows_of words) ≡ true → length (text_of words) ≤ length lent
    → take (length (text_of words)) (write_buffer words lent) ≡ text_of words
unfolding write_buffer
write_text words lent h r = rw (write_is words lent h r) (filled_take (text_of words) lent)

-- ---- the theorems

-- the reader takes bytes for a line exactly where they are the line that the writer writes for eight words within −M..M
pub one_line : (l : List ℕ) → (good_line l ≡ true) ↔ ((ws : List ℤ) × (good_row ws ≡ true) × (l ≡ line ws))
one_line l = (
  λ e. (numbers l, (line_is l e).0, sym (line_is l e).1),
  λ r. subst (λ (x : List ℕ). good_line x ≡ true) (sym r.2) (line_good r.0 r.1),
)

-- a text that is read, its words written again with room enough: the answer is the text's length, and the bytes are the text
pub text_again : (text : List ℕ) (lent_words : List ℤ) (n : ℕ) (lent_text : List ℕ)
    → read_answer text (length lent_words) ≡ Ok n
    → length text ≤ length lent_text
    → (write_answer (take n (read_buffer text lent_words)) (length lent_text) ≡ Ok (length text))
    × (take (length text) (write_buffer (take n (read_buffer text lent_words)) lent_text) ≡ text)
text_again text lent_words n lent_text e r =
    let good : all good_line (lines_of text) ≡ true = (read_is text lent_words n e).good in
    let rows : all good_row (rows_of (words_of text)) ≡ true = words_of_good text good in
    let again : text_of (words_of text) ≡ text = text_of_words text good in
    let room : length (text_of (words_of text)) ≤ length lent_text = rw again r in
    rw (read_words text lent_words n e) (
      write_is (words_of text) lent_text rows room ∙ ap (λ (t : List ℕ). Ok (length t)) again,
      ap (λ (t : List ℕ). take (length t) (write_buffer (words_of text) lent_text)) (sym again) ∙ write_text (words_of text) lent_text rows room ∙ again,
    )

-- whole lines of words within −M..M that are written, and their text read again with room enough: the answer is the words' count, and
-- they are the words
pub words_again : (words : List ℤ) (lent_text : List ℕ) (lent_words : List ℤ)
    → length words % 8 ≡ 0
    → all has_text words ≡ true
    → length (text_of words) ≤ length lent_text
    → length words ≤ length lent_words
    → (n : ℕ)
    × (write_answer words (length lent_text) ≡ Ok n)
    × (read_answer (take n (write_buffer words lent_text)) (length lent_words) ≡ Ok (length words))
    × (take (length words) (read_buffer (take n (write_buffer words lent_text)) lent_words) ≡ words)
words_again words lent_text lent_words whole texts room_text room_words =
    let rows : all good_row (rows_of words) ≡ true = whole_good words whole texts in
    let again : words_of (text_of words) ≡ words = words_of_text words rows in
    let read : read_answer (text_of words) (length lent_words) ≡ Ok (length words) =
    reads (text_of words) (length lent_words) (text_of_good words rows) (rw again room_words) ∙ ap (λ (ws : List ℤ). Ok (length ws)) again in (
      length (text_of words),
      write_is words lent_text rows room_text,
      rw (write_text words lent_text rows room_text) read,
      rw (write_text words lent_text rows room_text) (read_words (text_of words) lent_words (length words) read ∙ again),
    )

-- twelve bytes for each word are room enough
pub room_enough : (words : List ℤ) → length words % 8 ≡ 0 → all has_text words ≡ true → length (text_of words) ≤ 12 * length words
room_enough words whole texts = rw (text_fields words (whole_good words whole texts)) (fields_most words 0 texts)

-- no two texts have the same words
pub one_text : (text text' : List ℕ) (lent lent' : List ℤ) (n : ℕ)
    → read_answer text (length lent) ≡ Ok n
    → read_answer text' (length lent') ≡ Ok n
    → take n (read_buffer text lent) ≡ take n (read_buffer text' lent')
    → text ≡ text'
one_text text text' lent lent' n e e' s =
    let words : words_of text ≡ words_of text' = sym (read_words text lent n e) ∙ s ∙ read_words text' lent' n e' in
    sym (text_of_words text (read_is text lent n e).good) ∙ ap text_of words ∙ text_of_words text' (read_is text' lent' n e').good
