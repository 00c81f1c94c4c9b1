-- Bytes that are cut into parts: the parts are the bytes again, and a line is one part of a text, as a field is of a line.
-- Assumes nothing.
use Prim.Native.Nat.{ℕ, suc, ◌+◌, ◌≤◌, ◌<◌}
use mathlib.Core.Path.{◌≡◌, refl, sym, ◌∙◌, ap}
use mathlib.Core.Bool.{Bool, true, false, cond, true≢false}
use mathlib.Core.List.{List, [], ◌∷◌, ◌++◌, append_assoc, map}
use native.Mathlib.Omega.{arith}
use borrow.Author.Tests.{eq-eqb, ne_eqb}
use lib.Dec.{eqb}
use lib.IntN.{ℤ, pos, negsuc}
use lib.ListN.{length}
use lib.Seq.{append_snoc}
use Rattle.decimal.specs.Decimal.{digits, sign, decimal, is_digit, value}
use Rattle.decimal.proofs.Digits.{digits_one, digits_more, digit_ind}
use Rattle.decimal.proofs.Reading.{digit_byte, value_decimal}
use Rattle.text.specs.Lines.{join, line, joined, cut, numbers}

-- no byte is s
abbrev pub Free : ℕ → List ℕ → Type 0
Free s [] = Unit {0}
Free s (b ∷ bs) = (eqb b s ≡ false) × Free s bs

free_append : (s : ℕ) (xs ys : List ℕ) → Free s xs → Free s ys → Free s (xs ++ ys)
free_append s [] ys p q = q
free_append s (x ∷ xs) ys p q = (p.0, free_append s xs ys p.1 q)

free_digit : (s d : ℕ) → is_digit s ≡ false → d < 10 → Free s ((48 + d) ∷ [])
free_digit s d e h = (ne_eqb (48 + d) s (λ q. true≢false (sym (digit_byte d h) ∙ ap is_digit q ∙ e)), tt)

free_digits : (s : ℕ) → is_digit s ≡ false → (n : ℕ) → Free s (digits n)
free_digits s e =
    digit_ind (λ (n : ℕ). Free s (digits n))
    (λ d h. rw (digits_one d h) (free_digit s d e h))
    (λ m d p h ih. rw (digits_more m d p h) (free_append s (digits m) ((48 + d) ∷ []) ih (free_digit s d e h)))

free_decimal : (s : ℕ) → is_digit s ≡ false → eqb 45 s ≡ false → (w : ℤ) → Free s (decimal w)
unfolding decimal sign
free_decimal s e m (pos n) = free_digits s e n
free_decimal s e m (negsuc n) = (m, free_digits s e (suc n))

-- ---- a part and what follows it

cut_before : (s : ℕ) (xs l p : List ℕ) (ps : List (List ℕ)) → Free s xs → cut s l ≡ p ∷ ps → cut s (xs ++ l) ≡ (xs ++ p) ∷ ps
unfolding cut joined
cut_before s [] l p ps h e = e
cut_before s (x ∷ xs) l p ps h e = rw (h.0, cut_before s xs l p ps h.1 e)

cut_ended : (s : ℕ) (xs l : List ℕ) → Free s xs → cut s (xs ++ s ∷ l) ≡ (xs ++ (s ∷ [])) ∷ cut s l
unfolding cut
cut_ended s xs l h = cut_before s xs (s ∷ l) (s ∷ []) (cut s l) h (rw (eq-eqb s s refl))

cut_join_one : (b : ℕ) (ps : List (List ℕ)) → join (joined b ps) ≡ b ∷ join ps
unfolding join joined
cut_join_one b [] = refl
cut_join_one b (p ∷ ps) = refl

-- the parts, one after the other, are the bytes
pub join_cut : (s : ℕ) (l : List ℕ) → join (cut s l) ≡ l
unfolding cut join
join_cut s [] = refl
join_cut s (b ∷ bs) = go (eqb b s) (join_cut s bs)
  where
    go : (t : Bool) → join (cut s bs) ≡ bs → join (cond t ((b ∷ []) ∷ cut s bs) (joined b (cut s bs))) ≡ b ∷ bs
    go true ih = ap (◌∷◌ b) ih
    go false ih = cut_join_one b (cut s bs) ∙ ap (◌∷◌ b) ih

length_joined : (b : ℕ) (ps : List (List ℕ)) → length (joined b ps) ≤ suc (length ps)
unfolding joined
length_joined b [] = omega arith
length_joined b (p ∷ ps) = omega arith

-- there are no more parts than bytes
pub length_cut : (s : ℕ) (l : List ℕ) → length (cut s l) ≤ length l
unfolding cut
length_cut s [] = omega arith
length_cut s (b ∷ bs) = go (eqb b s) (length_cut s bs)
  where
    go : (t : Bool) → length (cut s bs) ≤ length bs → length (cond t ((b ∷ []) ∷ cut s bs) (joined b (cut s bs))) ≤ suc (length bs)
    go true ih = omega arith
    go false ih = omega (arith, length_joined b (cut s bs))

-- ---- a line

-- a line is the first part of a text that starts with it
pub cut_line : (w : ℤ) (ws : List ℤ) (l : List ℕ) → cut 10 (line (w ∷ ws) ++ l) ≡ line (w ∷ ws) ∷ cut 10 l
unfolding line cut joined
cut_line w [] l =
    ap (cut 10) (append_snoc (decimal w) 10 l) ∙ cut_ended 10 (decimal w) l (free_decimal 10 refl refl w)
cut_line w (v ∷ vs) l =
    ap (cut 10) (append_assoc (decimal w) (9 ∷ line (v ∷ vs)) l)
    ∙ cut_before 10 (decimal w) (9 ∷ (line (v ∷ vs) ++ l)) (9 ∷ line (v ∷ vs)) (cut 10 l) (free_decimal 10 refl refl w)
    (ap (joined 9) (cut_line v vs l))

-- a line's fields say its words
pub numbers_line_lem : (w : ℤ) (ws : List ℤ) → numbers (line (w ∷ ws)) ≡ w ∷ ws
unfolding numbers line cut joined
numbers_line_lem w [] =
    ap (map value) (cut_before 9 (decimal w) (10 ∷ []) (10 ∷ []) [] (free_decimal 9 refl refl w) refl)
    ∙ ap (λ (z : ℤ). z ∷ []) (value_decimal w 10 refl)
numbers_line_lem w (v ∷ vs) =
    ap (map value) (cut_ended 9 (decimal w) (line (v ∷ vs)) (free_decimal 9 refl refl w))
    ∙ ap (λ (z : ℤ). z ∷ numbers (line (v ∷ vs))) (value_decimal w 9 refl)
    ∙ ap (◌∷◌ w) (numbers_line_lem v vs)
