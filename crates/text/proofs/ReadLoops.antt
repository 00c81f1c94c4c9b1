-- The loops of `read`: lines that are judged one after the other, and words that are stored one after the other.
-- Assumes nothing.
use Rattle.std.specs.Prelude.{Ok, Err, Some, None, IsSome}
use Prim.Native.Nat.{ℕ, ◌+◌, ◌*◌, ◌≤◌, ◌<◌}
use mathlib.Core.Path.{◌≡◌, refl, sym, ◌∙◌, ap}
use mathlib.Core.Bool.{Bool, true, false, cond}
use mathlib.Core.List.{List, [], ◌∷◌, ◌++◌, append-nil}
use native.Mathlib.Omega.{arith}
use native.Mathlib.Numerals.{add-one}
use lib.IntN.{ℤ, pos}
use lib.ListN.{length, drop, get_or, set, length-drop, drop_of_length-le}
use lib.Seq.{sets, drop-cons, sets-eq}
use Rattle.answer.specs.declared.Refusal.TheVariants.{Line}
use Rattle.decimal.specs.Decimal.{decimal, has_text}
use Rattle.decimal.specs.Scan.{field_at}
use Rattle.decimal.specs.declared.Field.{Field}
use Rattle.decimal.proofs.Reading.{FieldIs, field_sound, field_complete, decimal_unique}
use Rattle.text.specs.Lines.{all, join, cut, lines_of, numbers, words_of, good_line}
use Rattle.text.specs.Calls.{judged}
use Rattle.text.specs.Steps.{end_of, first_end, line_end}
use Rattle.text.proofs.Cut.{join_cut}
use Rattle.text.proofs.Rows.{all_cons, all_drop, row_is, line_is, words_good, words_of_good, text_of_words}
use Rattle.text.proofs.Fields.{fields, end_plain, text_fields}
use Rattle.text.proofs.Judging.{Judged, judged_none, judged_more, judged_bad, judged_done}
use Rattle.text.proofs.LineSteps.{LineIs, line_next}

-- ---- lines that are judged

-- k good lines end at `at`
pub record Counting (text : List ℕ) (at k : ℕ) : Type 0 where
  pub within : at ≤ length text
  pub most : k * 8 ≤ at
  pub lines : Judged good_line numbers (lines_of text) (lines_of (drop at text)) k (k * 8)

pub counting_none : (text : List ℕ) → Counting text 0 0
counting_none text =
    record { within = omega arith; most = omega arith; lines = judged_none good_line numbers (lines_of text) }

pub counting_more : (text : List ℕ) (at k next : ℕ) → Counting text at k → line_end at (drop at text) ≡ Some next
    → (at < next) × Counting text next (k + 1)
counting_more text at k next c e =
    let l : LineIs text at next = line_next text at next c.within e in
    let eight : length (numbers l.bytes) ≡ 8 = (row_is (numbers l.bytes) (line_is l.bytes l.good).0).0 in
    let count : k * 8 + length (numbers l.bytes) ≡ (k + 1) * 8 = omega arith in (
      omega (arith, l.later),
      record {
        within = l.within;
        most = omega (arith, l.later, c.most);
        lines =
            rw (← count)
            (judged_more good_line numbers (lines_of text) l.bytes (lines_of (drop next text)) k (k * 8) l.good (rw l.lines at c.lines));
      },
    )

-- a text that is not at its end has a next line
next_line : (l : List ℕ) → 0 < length l → (x : List ℕ) × (xs : List (List ℕ)) × (lines_of l ≡ x ∷ xs)
unfolding lines_of join
next_line l h = go (lines_of l) refl
  where
    go : (ls : List (List ℕ)) → lines_of l ≡ ls → (x : List ℕ) × (xs : List (List ℕ)) × (lines_of l ≡ x ∷ xs)
    go [] e = absurd (omega (arith, ap length (sym (join_cut 10 l) ∙ ap join e)))
    go (x ∷ xs) e = (x, xs, e)

bad_line : (at : ℕ) (x : List ℕ) (xs : List (List ℕ)) → first_end at (x ∷ xs) ≡ None → good_line x ≡ false
unfolding first_end
bad_line at x xs = go (good_line x)
  where
    go : (t : Bool) → cond t (Some (at + length x)) None ≡ None → t ≡ false
    go true e = let clash : ◌≡◌ {A = ℕ} 0 1 = cc in absurd (omega arith)
    go false e = refl

pub counting_bad : (text : List ℕ) (at k : ℕ) → at < length text → Counting text at k → line_end at (drop at text) ≡ None
    → judged good_line (lines_of text) (length (words_of text)) ≡ Err (Line k)
unfolding line_end words_of
counting_bad text at k h c e =
    let next = next_line (drop at text) (omega (arith, length-drop at text)) in
    judged_bad good_line numbers (lines_of text) next.0 next.1 k (k * 8) (bad_line at next.0 next.1 (rw next.2 at e))
    (rw next.2 at c.lines)

pub counting_done : (text : List ℕ) (at k : ℕ) → length text ≤ at → Counting text at k
    → judged good_line (lines_of text) (length (words_of text)) ≡ Ok (k * 8)
unfolding words_of lines_of cut
counting_done text at k h c =
    judged_done good_line numbers (lines_of text) k (k * 8) (rw (drop_of_length-le text h) at c.lines)

pub ruleset counting_steps = (counting_none, counting_more, counting_bad, counting_done)

-- ---- words that are stored

sets_all : (result lent : List ℤ) → length lent ≡ length result → sets lent 0 result ≡ result
sets_all result lent h =
    let room : 0 + length result ≤ length lent = omega arith in
    let none : length lent ≤ 0 + length result = omega arith in
    sets-eq result lent 0 room ∙ ap (λ (l : List ℤ). result ++ l) (drop_of_length-le lent none) ∙ append-nil result

-- i words of a text are stored, and `at` is the place of the next
pub record Storing (text : List ℕ) (words : List ℤ) (at i : ℕ) : Type 0 where
  pub split : drop at text ≡ fields i (drop i (words_of text))
  pub stored : sets words i (drop i (words_of text)) ≡ words_of text

module _ (text : List ℕ) (good : all good_line (lines_of text) ≡ true) where
  pub storing_none : (words : List ℤ) → length words ≡ length (words_of text) → Storing text words 0 0
  storing_none words h =
      record {
        split = sym (text_of_words text good) ∙ text_fields (words_of text) (words_of_good text good);
        stored = sets_all (words_of text) words h;
      }

  module _ (words : List ℤ) (at i : ℕ) (s : Storing text words at i) (h : i < length (words_of text)) where
    -- the word that is next
    abbrev here : ℤ
    here = get_or (words_of text) i (pos 0)

    rest : drop i (words_of text) ≡ here ∷ drop (i + 1) (words_of text)
    rest = rw (add-one i) (drop-cons (words_of text) i (pos 0) h)

    permitted : has_text here ≡ true
    permitted =
        (all_cons has_text here (drop (i + 1) (words_of text))
        (rw rest at (all_drop has_text i (words_of text) (words_good (words_of text) (words_of_good text good))))).0

    field : drop at text ≡ decimal here ++ end_of i ∷ fields (i + 1) (drop (i + 1) (words_of text))
    unfolding fields
    field = s.split ∙ ap (fields i) rest

    pub storing_read : IsSome (field_at text at (end_of i))
    storing_read =
        rw (field_complete text at (end_of i) here (fields (i + 1) (drop (i + 1) (words_of text))) permitted (end_plain i) field)

    pub storing_more : (w : Field) → field_at text at (end_of i) ≡ Some w → Storing text (set words i w.value) w.next (i + 1)
    storing_more w e =
        let read : FieldIs text at (end_of i) w.value w.next = field_sound text at (end_of i) w e in
        let one =
        decimal_unique w.value here (end_of i) (drop w.next text) (fields (i + 1) (drop (i + 1) (words_of text))) read.permitted permitted
        (end_plain i)
        (sym read.split ∙ field) in
        record {
          split = one.1;
          stored = rw (one.0, add-one i) (ap (sets words i) (sym (drop-cons (words_of text) i (pos 0) h)) ∙ s.stored);
        }

  pub storing_done : (words : List ℤ) (at i : ℕ) → length (words_of text) ≤ i → Storing text words at i → words ≡ words_of text
  storing_done words at i h s = ap (sets words i) (sym (drop_of_length-le (words_of text) h)) ∙ s.stored

pub ruleset storing_steps = (storing_none, storing_read, storing_more, storing_done)
