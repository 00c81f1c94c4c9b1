-- The lines of a sheet that was read from a text are the text's output.
-- Assumes nothing.
use Rattle.std.proofs.Common.{◌≡◌, ℕ, List, ℤ, Ok, refl, ap, ◌∙◌, take}
use Rattle.layout.specs.declared.Header.{Header}
use Rattle.path_lines.specs.Output.{sheet_lines, entrance, words_left, written, output}
use Rattle.path_lines.proofs.Opening.{entered}

pub output_sheet : (text : List ℕ) (lent : List ℤ) {h : Header} {n : ℕ} {left : List ℤ} → entrance text ≡ Ok (h, n) → left ≡ words_left text lent
    → sheet_lines (take n left) h ≡ output text
unfolding output written
output_sheet text lent {h} e p = ap (λ (w : List ℤ). sheet_lines w h) (entered text lent refl p e).words ∙ rw (e, written)
