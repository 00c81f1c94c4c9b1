-- The steps of `read`: a line that is read field by field, and the next line of a text.
-- Assumes nothing.
use Rattle.std.specs.Prelude.{Option, Some, None}
use Prim.Native.Nat.{ℕ, ◌+◌, ◌≤◌, ◌<◌}
use mathlib.Core.Path.{◌≡◌, refl, sym, ◌∙◌, ap, subst}
use mathlib.Core.Bool.{Bool, true, false, cond}
use mathlib.Core.List.{List, [], ◌∷◌, ◌++◌, append_assoc}
use native.Mathlib.Omega.{arith}
use lib.IntN.{ℤ}
use lib.ListN.{length, drop, length-append, length-drop}
use lib.Seq.{drop-append_seam, drop-drop}
use Rattle.decimal.specs.Decimal.{decimal, has_text}
use Rattle.decimal.specs.Scan.{field_at}
use Rattle.decimal.specs.declared.Field.{Field}
use Rattle.decimal.proofs.Reading.{FieldIs, field_sound, field_complete}
use Rattle.text.specs.Lines.{all, join, line, good_row, lines_of, numbers, good_line}
use Rattle.text.specs.Steps.{end_of, first_end, line_end}
use Rattle.text.proofs.Cut.{join_cut}
use Rattle.text.proofs.Rows.{all_more, all_append, row_is, row_good, line_is, line_good, first_line}
use Rattle.text.proofs.Fields.{fields, end_plain, row_fields, fields_append, fields_least, Following, following}

-- ---- a line so far

-- the line at `at` has been read up to `next`: j words
pub record SoFar (text : List ℕ) (at next j : ℕ) : Type 0 where
  pub words : List ℤ
  pub count : length words ≡ j
  pub permitted : all has_text words ≡ true
  pub split : drop at text ≡ fields 0 words ++ drop next text
  pub place : next ≡ at + length (fields 0 words)

pub so_far_none : (text : List ℕ) (at : ℕ) → SoFar text at at 0
unfolding fields all
so_far_none text at = record { words = []; count = refl; permitted = refl; split = refl; place = omega arith }

fields_snoc : (ws : List ℤ) (v : ℤ) → fields 0 (ws ++ (v ∷ [])) ≡ fields 0 ws ++ (decimal v ++ (end_of (length ws) ∷ []))
unfolding fields
fields_snoc ws v =
    let here : 0 + length ws ≡ length ws = omega arith in
    fields_append ws (v ∷ []) 0 ∙ ap (λ (k : ℕ). fields 0 ws ++ (decimal v ++ (end_of k ∷ []))) here

pub so_far_more : (text : List ℕ) (at next j : ℕ) (w : Field) → SoFar text at next j → field_at text next (end_of j) ≡ Some w
    → SoFar text at w.next (j + 1)
unfolding all
so_far_more text at next j w s e =
    let field : FieldIs text next (end_of j) w.value w.next = field_sound text next (end_of j) w e in
    let grown : fields 0 (s.words ++ (w.value ∷ [])) ≡ fields 0 s.words ++ (decimal w.value ++ (end_of j ∷ [])) =
    rw (← s.count) (fields_snoc s.words w.value) in
    record {
      words = s.words ++ (w.value ∷ []);
      count = omega (arith, s.count, length-append s.words (w.value ∷ []));
      permitted = all_append has_text s.words (w.value ∷ []) s.permitted (all_more has_text w.value [] field.permitted refl);
      split = s.split ∙ ap (λ (l : List ℕ). fields 0 s.words ++ l) field.split ∙ rw grown (simp append_assoc);
      place =
          omega (
            arith,
            s.place,
            field.later,
            field.within,
            length-drop next text,
            length-drop w.next text,
            ap length field.split,
            length-append (decimal w.value) (end_of j ∷ drop w.next text),
            ap length grown,
            length-append (fields 0 s.words) (decimal w.value ++ (end_of j ∷ [])),
            length-append (decimal w.value) (end_of j ∷ []),
          );
    }

-- ---- a line's end

-- a good line at `at` ends at `next`
pub record LineIs (text : List ℕ) (at next : ℕ) : Type 0 where
  pub bytes : List ℕ
  pub good : good_line bytes ≡ true
  pub lines : lines_of (drop at text) ≡ bytes ∷ lines_of (drop next text)
  pub later : at + 8 ≤ next
  pub within : next ≤ length text

line_ends : (text : List ℕ) (at : ℕ) (ws : List ℤ) (l : List ℕ) → good_row ws ≡ true → drop at text ≡ line ws ++ l
    → line_end at (drop at text) ≡ Some (at + length (line ws))
unfolding line_end first_end
line_ends text at ws l g e = rw (e, first_line ws l g, line_good ws g)

pub so_far_done : (text : List ℕ) (at next : ℕ) → SoFar text at next 8 → line_end at (drop at text) ≡ Some next
so_far_done text at next s =
    let row : line s.words ≡ fields 0 s.words = row_fields s.words 0 s.count refl in
    line_ends text at s.words (drop next text) (row_good s.words s.count s.permitted)
    (s.split ∙ ap (λ (l : List ℕ). l ++ drop next text) (sym row))
    ∙ ap Some (omega (arith, s.place, ap length row))

-- the first of the lines, if there is one, by its test
first_end_lem : (at : ℕ) (ls : List (List ℕ)) (R : Option ℕ → Type 0) → R None
    → ((l : List ℕ) (rest : List (List ℕ)) → ls ≡ l ∷ rest → good_line l ≡ true → R (Some (at + length l))) → R (first_end at ls)
unfolding first_end
first_end_lem at [] R bad good = bad
first_end_lem at (l ∷ rest) R bad good = go (good_line l) refl
  where
    go : (t : Bool) → good_line l ≡ t → R (cond t (Some (at + length l)) None)
    go true e = good l rest refl e
    go false e = bad

-- a text that starts with a good line
pub record Starts (bytes l rest : List ℕ) : Type 0 where
  pub row : good_row (numbers l) ≡ true
  pub eight : length (numbers l) ≡ 8
  pub permitted : all has_text (numbers l) ≡ true
  pub as_line : l ≡ line (numbers l)
  pub as_fields : l ≡ fields 0 (numbers l)
  pub split : bytes ≡ l ++ rest

starts : (bytes l : List ℕ) (rest : List (List ℕ)) → lines_of bytes ≡ l ∷ rest → good_line l ≡ true → Starts bytes l (join rest)
unfolding lines_of join
starts bytes l rest e g =
    let parts = line_is l g in
    let row = row_is (numbers l) parts.0 in
    record {
      row = parts.0;
      eight = row.0;
      permitted = row.1;
      as_line = sym parts.1;
      as_fields = sym parts.1 ∙ row_fields (numbers l) 0 row.0 refl;
      split = sym (join_cut 10 bytes) ∙ ap join e;
    }

pub no_end : (text : List ℕ) (next j : ℕ) → Following (drop next text) j → field_at text next (end_of j) ≡ None → ⊥
no_end text next j f e =
    let read = field_complete text next (end_of j) f.word f.rest f.permitted (end_plain j) f.split in
    let clash : ◌≡◌ {A = ℕ} 0 1 = cc in
    omega arith

pub so_far_bad : (text : List ℕ) (at next j : ℕ) → j < 8 → SoFar text at next j → field_at text next (end_of j) ≡ None
    → line_end at (drop at text) ≡ None
unfolding line_end
so_far_bad text at next j h s e =
    first_end_lem at (lines_of (drop at text)) (λ (x : Option ℕ). x ≡ None) refl
    (λ l rest q g.
    let start = starts (drop at text) l rest q g in
    let split : fields 0 s.words ++ drop next text ≡ fields 0 (numbers l) ++ join rest =
    sym s.split ∙ start.split ∙ ap (λ (x : List ℕ). x ++ join rest) start.as_fields in
    let next_word =
    following s.words (numbers l) 0 (drop next text) (join rest) s.permitted start.permitted (omega (arith, s.count, start.eight))
    split in
    let here : 0 + length s.words ≡ j = omega (arith, s.count) in
    absurd (no_end text next j (subst (Following (drop next text)) here next_word) e))

pub ruleset line_steps = (so_far_none, so_far_more, so_far_bad, so_far_done)

pub line_next : (text : List ℕ) (at next : ℕ) → at ≤ length text → line_end at (drop at text) ≡ Some next → LineIs text at next
unfolding line_end
line_next text at next h =
    first_end_lem at (lines_of (drop at text)) (λ (x : Option ℕ). x ≡ Some next → LineIs text at next)
    (λ e. let clash : ◌≡◌ {A = ℕ} 0 1 = cc in absurd (omega arith))
    (λ l rest q g e.
    let start = starts (drop at text) l rest q g in
    let place : at + length l ≡ next = cc in
    let rest-is : drop next text ≡ join rest =
    ap (λ (k : ℕ). drop k text) (sym place)
    ∙ sym (drop-drop (length l) at text)
    ∙ ap (drop (length l)) start.split
    ∙ drop-append_seam l (join rest) in
    record {
      bytes = l;
      good = g;
      lines =
          ap lines_of (start.split ∙ ap (λ (x : List ℕ). x ++ join rest) start.as_line)
          ∙ first_line (numbers l) (join rest) start.row
          ∙ ap (λ (x : List ℕ). x ∷ lines_of (join rest)) (sym start.as_line)
          ∙ ap (λ (x : List ℕ). l ∷ lines_of x) (sym rest-is);
      later = omega (arith, place, fields_least (numbers l) 0, start.eight, ap length start.as_fields);
      within = omega (arith, place, length-drop at text, ap length start.split, length-append l (join rest));
    })
