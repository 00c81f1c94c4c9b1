-- The chunks that are written for a text are, one after the other, its output.
-- Assumes nothing.
use Rattle.std.specs.Prelude.{Ok, Err}
use Prim.Native.Nat.{ℕ}
use mathlib.Core.Path.{◌≡◌, refl, sym, ◌∙◌, ap}
use mathlib.Core.List.{List, ◌++◌}
use lib.IntN.{ℤ}
use lib.ListN.{take}
use Rattle.answer.specs.declared.Refusal.{Refusal}
use Rattle.layout.specs.declared.Header.{Header}
use Rattle.text.specs.Lines.{join}
use Rattle.path_lines.specs.declared.Cursor.{Cursor}
use Rattle.path_lines.specs.declared.Notice.TheVariants.{Refused as SaysRefused}
use Rattle.path_lines.specs.Output.{sheet_lines, refused_line, entrance, words_left, written, output, sheet_notice, noticed, said}
use Rattle.path_lines.specs.Chunks.{remaining, Series, done, more}
use Rattle.path_lines.proofs.Cursors.{remaining_past}
use Rattle.path_lines.proofs.Opening.{entered}

series_all : {s : List ℤ} {h : Header} {c : Cursor} {bs : List (List ℕ)} → Series s h c bs → join bs ≡ remaining s h c
unfolding join
series_all {s} {h} (done {c = c} l) = sym (remaining_past s h c l)
series_all {s} {h} (more {c = c} {n = n} {out = out} k t) = ap (λ (x : List ℕ). take n out ++ x) (series_all t) ∙ sym k.same

-- a sheet: `open_text` left its words at the start of `left`, `start` gave c, and `fill` the chunks
pub output_chunks : (text : List ℕ) (lent : List ℤ) {h : Header} {n : ℕ} {left : List ℤ} {c : Cursor} {bs : List (List ℕ)}
    → entrance text ≡ Ok (h, n)
    → left ≡ words_left text lent
    → remaining (take n left) h c ≡ sheet_lines (take n left) h
    → Series (take n left) h c bs
    → join bs ≡ output text
unfolding output written
output_chunks text lent {h} e p q t =
    series_all t ∙ q ∙ ap (λ (w : List ℤ). sheet_lines w h) (entered text lent refl p e).words ∙ rw (e, written)

-- a refusal
pub output_refused : (text : List ℕ) {r : Refusal} → entrance text ≡ Err r → refused_line r ≡ output text
unfolding output written
output_refused text e = rw (e, written)

-- what is said of a text on standard error: of a sheet, and on a refusal
pub said_sheet : (text : List ℕ) (lent : List ℤ) {h : Header} {n : ℕ} {left : List ℤ} → entrance text ≡ Ok (h, n) → left ≡ words_left text lent
    → sheet_notice (take n left) h ≡ said text
unfolding said noticed
said_sheet text lent {h} e p = ap (λ (w : List ℤ). sheet_notice w h) (entered text lent refl p e).words ∙ rw (e, noticed)

pub said_refused : (text : List ℕ) {r : Refusal} → entrance text ≡ Err r → SaysRefused ≡ said text
unfolding said noticed
said_refused text e = rw (e, noticed)
