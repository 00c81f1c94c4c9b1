-- How a text is opened: every text of at most 16,000 bytes has room in 8,000 words, and a refusal's line is short.
-- Assumes nothing.
use Rattle.std.specs.Prelude.{Ok, Err}
use Prim.Native.Nat.{ℕ, ◌+◌, ◌*◌, ◌≤◌, ◌<◌}
use mathlib.Core.Path.{◌≡◌, refl, sym, ◌∙◌, ap}
use mathlib.Core.Bool.{Bool, true, false, cond}
use mathlib.Core.List.{List, [], ◌∷◌}
use native.Mathlib.Omega.{arith}
use native.Mathlib.Decide.{dec_lt}
use borrow.Author.Tests.{le-leb, lt-leb}
use lib.IntN.{ℤ, nat_abs}
use lib.ListN.{length, take, length-append}
use Rattle.answer.specs.Number.{number, place}
use Rattle.answer.proofs.Numbers.{number_range}
use Rattle.answer.specs.declared.Refusal.{Refusal}
use Rattle.answer.specs.declared.Refusal.TheVariants.{Line, NoRoom}
use Rattle.answer.specs.Answers.{Count}
use Rattle.layout.specs.declared.Header.{Header}
use Rattle.records.specs.Accepted.{Accepted}
use Rattle.ladder.specs.Ladder.{Climbed, opened, by}
use Rattle.ladder.proofs.ClimbLaws.{opened_at}
use Rattle.ladder.proofs.Small.{opened_low}
use Rattle.decimal.specs.Decimal.{digits}
use Rattle.decimal.proofs.Writing.{width_one, width_more, length_decimal}
use Rattle.text.specs.Lines.{all, good_line, lines_of, words_of}
use Rattle.text.specs.Calls.{before, judged, fitted, filled, read_answer, read_buffer}
use Rattle.text.proofs.Cut.{length_cut}
use Rattle.text.proofs.Rows.{words_of_good, text_of_words}
use Rattle.text.proofs.Fields.{fields, length_field, text_fields}
use Rattle.text.proofs.Calls.{accepted, before_length, filled_take}
use Rattle.path_lines.specs.Output.{Entrance, numbers_line, refused_line, longest, text_count, sheet_entrance, words_entrance, entrance, words_left}
use Rattle.path_lines.specs.Steps.{number_field, refused_field}
use Rattle.path_lines.proofs.Writing.{line_first, line_last, refused_start}
use Rattle.path_lines.proofs.Bounds.{number_size}

-- ---- a word takes at least two bytes

digits_some : (n : ℕ) → 1 ≤ length (digits n)
digits_some n = go (dec_lt n 10)
  where
    go : Dec (n < 10) → 1 ≤ length (digits n)
    go (yes l) = omega (arith, width_one n l)
    go (no l) = omega (arith, width_more n (omega arith))

fields_twice : (ws : List ℤ) (i : ℕ) → 2 * length ws ≤ length (fields i ws)
unfolding fields
fields_twice [] i = omega arith
fields_twice (w ∷ ws) i =
    omega (arith, length_field w ws i, length_decimal w, digits_some (nat_abs w), fields_twice ws (i + 1))

text_words : (text : List ℕ) → all good_line (lines_of text) ≡ true → 2 * length (words_of text) ≤ length text
text_words text g =
    let ws = words_of text in
    omega (arith, ap length (text_of_words text g), ap length (text_fields ws (words_of_good text g)), fields_twice ws 0)

-- ---- the text's words

count_short : (text : List ℕ) → length text ≤ longest → text_count text ≡ judged good_line (lines_of text) (length (words_of text))
unfolding text_count
count_short text l = rw (le-leb (length text) longest l, text_count)

count_long : (text : List ℕ) → longest < length text → text_count text ≡ Err NoRoom
unfolding text_count
count_long text l = rw (lt-leb (length text) longest l, text_count)

-- in 8,000 words every text that is short enough is read as if there were no limit
pub read_count : (text : List ℕ) (room : ℕ) → length text ≤ longest → 8000 ≤ room → read_answer text room ≡ text_count text
unfolding read_answer judged fitted
read_count text room l k = go (all good_line (lines_of text)) refl ∙ sym (count_short text l)
  where
    n : ℕ
    n = length (words_of text)

    go : (t : Bool) → all good_line (lines_of text) ≡ t
        → fitted room (cond t (Ok n) (Err (Line (before good_line (lines_of text))))) ≡ cond t (Ok n)
        (Err (Line (before good_line (lines_of text))))
    go true g = rw (le-leb n room (omega (arith, text_words text g)))
    go false g = refl

-- what a text that is read says
pub record Counted (text : List ℕ) (n : ℕ) : Type 0 where
  pub count : n ≡ length (words_of text)
  pub few : n ≤ 8000

counted : (text : List ℕ) (n : ℕ) → text_count text ≡ Ok n → Counted text n
unfolding read_answer
counted text n e = go (dec_lt longest (length text))
  where
    go : Dec (longest < length text) → Counted text n
    go (yes l) = let z : ◌≡◌ {A = ℕ} 0 1 = cc (sym (count_long text l) ∙ e) in absurd (omega arith)
    go (no l) =
        let a = accepted good_line (lines_of text) (length (words_of text)) 8000 n (read_count text 8000 (omega arith) (omega arith) ∙ e) in
        record { count = a.count; few = a.fits }

left_words : (text : List ℕ) (lent : List ℤ) (n : ℕ) → text_count text ≡ Ok n → take n (words_left text lent) ≡ words_of text
unfolding words_left
left_words text lent n e = let z = (counted text n e).count in rw (e, z) (filled_take (words_of text) lent)

-- ---- the ways out of `open_text`

pub open_long : (text : List ℕ) (lent : List ℤ) → longest < length text → (◌≡◌ {A = Entrance} (Err NoRoom) (entrance text)) × (lent ≡ words_left text lent)
unfolding entrance words_entrance words_left filled
open_long text lent l = rw (count_long text l, words_entrance, filled) (refl, refl)

module _ (text : List ℕ) (lent : List ℤ) (l : length text ≤ longest) (k : 8000 ≤ length lent) {x : Count} {y : List ℤ}
    (e : x ≡ read_answer text (length lent)) (b : y ≡ read_buffer text lent) where
  counts : x ≡ text_count text
  counts = e ∙ read_count text (length lent) l k

  leaves : y ≡ words_left text lent
  unfolding read_buffer words_left
  leaves = b ∙ ap (λ (t : Count). filled t (words_of text) lent) (read_count text (length lent) l k)

  pub open_refused : {r : Refusal} → x ≡ Err r → (◌≡◌ {A = Entrance} (Err r) (entrance text)) × (y ≡ words_left text lent)
  unfolding entrance words_entrance
  open_refused {r} p = (rw (sym counts ∙ p, words_entrance), leaves)

  module _ {n : ℕ} (p : x ≡ Ok n) where
    is_count : text_count text ≡ Ok n
    is_count = sym counts ∙ p

    pub open_room : length y ≡ length lent → n ≤ length y
    open_room z = omega (arith, (counted text n is_count).few)

    pub open_words : {r : Entrance} → r ≡ sheet_entrance n (opened (take n y)) → (r ≡ entrance text) × (y ≡ words_left text lent)
    unfolding entrance words_entrance
    open_words {r} q =
        let z : take n y ≡ words_of text = ap (take n) leaves ∙ left_words text lent n is_count in
        (q ∙ ap (λ (w : List ℤ). sheet_entrance n (opened w)) z ∙ rw (is_count, words_entrance), leaves)

-- ---- what follows from the answer of `open_text`

-- the first n words are the sheet
pub record Entered (text : List ℕ) (left : List ℤ) (h : Header) (n : ℕ) : Type 0 where
  pub words : take n left ≡ words_of text
  pub sheet : Accepted (take n left) h
  pub room : n ≤ 8000

entered_sheet : (text : List ℕ) (lent : List ℤ) (h : Header) (n m : ℕ) (o : Climbed) → text_count text ≡ Ok m → opened (words_of text) ≡ o
    → sheet_entrance m o ≡ Ok (h, n) → Entered text (words_left text lent) h n
unfolding by
entered_sheet text lent h n m (Ok g) c p e =
    let z : ◌≡◌ {A = Header × ℕ} (g, m) (h, n) = cc in
    let same : m ≡ n = ap (λ (x : Header × ℕ). x.1) z in
    let head : g ≡ h = ap (λ (x : Header × ℕ). x.0) z in
    let is : text_count text ≡ Ok n = c ∙ ap Ok same in
    let z = left_words text lent n is in
    record {
      words = z;
      sheet = rw z (opened_at (words_of text) {h = h} refl (p ∙ ap Ok head)).sheet;
      room = (counted text n is).few;
    }
entered_sheet text lent h n m (Err r) c p e = let z : ◌≡◌ {A = ℕ} 0 1 = cc in absurd (omega arith)

pub entered : (text : List ℕ) (lent : List ℤ) {h : Header} {n : ℕ} {x : Entrance} {left : List ℤ} → x ≡ entrance text → left ≡ words_left text lent
    → x ≡ Ok (h, n) → Entered text left h n
unfolding entrance words_entrance
entered text lent {h} {n} {x} {left} e f p = rw f (go (text_count text) refl (sym e ∙ p))
  where
    go : (c : Count) → text_count text ≡ c → words_entrance c (words_of text) ≡ Ok (h, n) → Entered text (words_left text lent) h n
    go (Ok m) q z = entered_sheet text lent h n m (opened (words_of text)) q refl z
    go (Err r) q z = let y : ◌≡◌ {A = ℕ} 0 1 = cc in absurd (omega arith)

-- ---- a refusal's place is small

sheet_low : (s : List ℤ) (n : ℕ) (r : Refusal) (o : Climbed) → opened s ≡ o → sheet_entrance n o ≡ Err r → place r < 100000
unfolding by
sheet_low s n r (Ok h) p e = let z : ◌≡◌ {A = ℕ} 0 1 = cc in absurd (omega arith)
sheet_low s n r (Err q) p e = let z : q ≡ r = cc in opened_low s (p ∙ ap Err z)

text_low : (text : List ℕ) (r : Refusal) → text_count text ≡ Err r → place r < 100000
unfolding judged lines_of
text_low text r e = go (dec_lt longest (length text))
  where
    line : (t : Bool) → cond t (Ok (length (words_of text))) (Err (Line (before good_line (lines_of text)))) ≡ Err r → length text ≤ longest
        → place r < 100000
    line true p l = let z : ◌≡◌ {A = ℕ} 0 1 = cc in absurd (omega arith)
    line false p l =
        let z : Line (before good_line (lines_of text)) ≡ r = cc in
        omega (arith, ap place z, before_length good_line (lines_of text), length_cut 10 text)

    go : Dec (longest < length text) → place r < 100000
    go (yes l) = let z : NoRoom ≡ r = cc (sym (count_long text l) ∙ e) in omega (arith, ap place z)
    go (no l) = line (all good_line (lines_of text)) (sym (count_short text (omega arith)) ∙ e) (omega arith)

pub entrance_low : (text : List ℕ) {r : Refusal} {x : Entrance} → x ≡ entrance text → x ≡ Err r → place r < 100000
unfolding entrance words_entrance
entrance_low text {r} e p = go (text_count text) refl (sym e ∙ p)
  where
    go : (c : Count) → text_count text ≡ c → words_entrance c (words_of text) ≡ Err r → place r < 100000
    go (Ok n) q z = sheet_low (words_of text) n r (opened (words_of text)) refl z
    go (Err w) q z = let y : w ≡ r = cc in text_low text r (q ∙ ap Err y)

-- the line of such a refusal is short
pub refused_short : (r : Refusal) → place r < 100000 → length (refused_line r) ≤ 17
refused_short r l =
    let n = number r in
    let k = place r in
    omega (
      arith,
      ap length (refused_start r),
      length-append refused_field (numbers_line (n ∷ k ∷ [])),
      ap length (line_first n k []),
      length-append (number_field n false) (numbers_line (k ∷ [])),
      ap length (line_last k),
      length-append (number_field k true) [],
      number_size n 1 false (omega (arith, (number_range r).1)),
      number_size k 4 true (omega arith),
    )
