-- The reader's steps against the decimal: what is read is the decimal of a word that has a text (`sound`), and every such decimal that
-- no digit follows is read (`complete`).
-- Assumes nothing.
use Rattle.std.specs.Prelude.{Option, Some, None}
use Prim.Native.Nat.{ℕ, zero, suc, ◌+◌, ◌-◌, ◌*◌, ◌≤◌, ◌<◌}
use mathlib.Core.Path.{◌≡◌, refl, sym, ◌∙◌, ap, subst}
use mathlib.Core.Bool.{Bool, true, false, cond, ◌&&◌, ◌||◌, and-eq-true_iff, true≢false}
use mathlib.Core.List.{List, [], ◌∷◌, ◌++◌, append_assoc}
use native.Mathlib.Omega.{arith}
use native.Mathlib.Numerals.{add-one}
use borrow.Author.Tests.{le-leb, leb-true, eqb-true, eqb-false, eq-eqb, ne_eqb, ltb-true, ltb-false, lt-ltb, le-ltb}
use lib.Dec.{ltb, leb, eqb, eqb-suc-zero}
use lib.IntN.{ℤ, pos, negsuc, neg_ℤ}
use lib.ListN.{length, drop, get_or, length-append, length-drop}
use lib.Seq.{append_snoc, drop-append_seam, drop-drop, drop-cons, get_or-drop, get_or-append_seam}
use Rattle.decimal.specs.Decimal.{M, digits, sign, decimal, has_text, is_digit, magnitude, value}
use Rattle.decimal.specs.Scan.{goes_on, run_at, bounded_run, number_at, positive_word, negative_word, word_at, closed_word, field_at}
use Rattle.decimal.specs.declared.Run.{Run}
use Rattle.decimal.specs.declared.Field.{Field}
use Rattle.decimal.proofs.Digits.{digits_one, digits_more, digit_ind}

-- a digit's byte and its value
pub digit_byte : (d : ℕ) → d < 10 → is_digit (48 + d) ≡ true
digit_byte d h = rw (le-leb 48 (48 + d) (omega arith), le-leb (48 + d) 57 (omega arith))

pub digit_range : (b : ℕ) → is_digit b ≡ true → (48 ≤ b) × (b ≤ 57)
digit_range b e =
    let parts = (and-eq-true_iff (leb 48 b) (leb b 57)).0 e in
    (leb-true 48 b parts.0, leb-true b 57 parts.1)

pub goes_on_range : (m b : ℕ) → goes_on m b ≡ true → (48 ≤ b) × (b ≤ 57) × (m ≤ M)
goes_on_range m b e =
    let parts = (and-eq-true_iff (is_digit b) (leb m M)).0 e in
    let range = digit_range b parts.0 in
    (range.0, range.1, leb-true m M parts.1)

-- the bytes xs stand at the start of l, and next is the place after them
pub record Taken (l : List ℕ) (at next : ℕ) (xs : List ℕ) : Type 0 where
  pub rest : List ℕ
  pub split : l ≡ xs ++ rest
  pub place : next ≡ at + length xs

-- ---- digits

-- the numbers that digits say one after the other
pub magnitude_digits : (n : ℕ) (l : List ℕ) → magnitude 0 (digits n ++ l) ≡ magnitude n l
unfolding magnitude
magnitude_digits =
    digit_ind (λ (n : ℕ). (l : List ℕ) → magnitude 0 (digits n ++ l) ≡ magnitude n l)
    (λ d h l. rw (digits_one d h, digit_byte d h) (ap (λ (k : ℕ). magnitude k l) (omega arith)))
    (λ m d p h ih l. rw (digits_more m d p h, append_assoc, ih ((48 + d) ∷ l), digit_byte d h) (ap (λ (k : ℕ). magnitude k l) (omega arith)))

run_here : {m m' at at' : ℕ} (l : List ℕ) → m ≡ m' → at ≡ at' → run_at m at l ≡ run_at m' at' l
run_here l p q = rw (p, q)

pub run_digits : (n : ℕ) → n ≤ M → (at : ℕ) (l : List ℕ) → run_at 0 at (digits n ++ l) ≡ run_at n (at + length (digits n)) l
unfolding run_at
run_digits =
    digit_ind (λ (n : ℕ). n ≤ M → (at : ℕ) (l : List ℕ) → run_at 0 at (digits n ++ l) ≡ run_at n (at + length (digits n)) l)
    (λ d h s at l. rw (digits_one d h, digit_byte d h) (run_here l (omega arith) refl))
    (λ m d p h ih s at l.
    rw (digits_more m d p h, append_assoc, ih (omega arith) at ((48 + d) ∷ l), digit_byte d h, le-leb m M (omega arith), length-append)
    (run_here l (omega arith) (omega arith)))

-- the digits of the number so far, with those that a run reads, are the digits of the run's number
abbrev Ran : List ℕ → ℕ → ℕ → Run → Type 0
Ran l m at r =
    (rest : List ℕ)
    × (digits m ++ l ≡ digits r.magnitude ++ rest)
    × (r.next + length (digits m) ≡ at + length (digits r.magnitude))

run_sound : (l : List ℕ) (m at : ℕ) → 0 < m → Ran l m at (run_at m at l)
unfolding run_at
run_sound [] m at p = ([], refl, refl)
run_sound (b ∷ bs) m at p = go (goes_on m b) refl (run_sound bs (m * 10 + (b - 48)) (at + 1) (omega arith))
  where
    go : (t : Bool) → goes_on m b ≡ t → Ran bs (m * 10 + (b - 48)) (at + 1) (run_at (m * 10 + (b - 48)) (at + 1) bs)
        → Ran (b ∷ bs) m at (cond t (run_at (m * 10 + (b - 48)) (at + 1) bs) (record { magnitude = m; next = at }))
    go true e ih =
        let range = goes_on_range m b e in
        let grown : digits (m * 10 + (b - 48)) ≡ digits m ++ (b ∷ []) =
        digits_more m (b - 48) p (omega arith) ∙ ap (λ (k : ℕ). digits m ++ (k ∷ [])) (omega arith) in (
          ih.0,
          sym (append_snoc (digits m) b bs) ∙ ap (λ (xs : List ℕ). xs ++ bs) (sym grown) ∙ ih.1,
          omega (arith, ih.2, ap length grown, length-append (digits m) (b ∷ [])),
        )
    go false e ih = (b ∷ bs, refl, refl)

-- ---- numbers

-- what a number that is read says of the bytes: they are its digits
abbrev pub NumberIs : List ℕ → ℕ → Option Run → Type 0
NumberIs l at (Some n) = (n.magnitude ≤ M) × Taken l at n.next (digits n.magnitude)
NumberIs l at None = Unit {0}

neither : (s t : Bool) → s || t ≡ false → (s ≡ false) × (t ≡ false)
neither true t e = absurd (true≢false e)
neither false t e = (refl, e)

bounded_sound : (l : List ℕ) (at : ℕ) (r : Run) → (0 < r.magnitude → Taken l at r.next (digits r.magnitude)) → NumberIs l at (bounded_run r)
unfolding bounded_run
bounded_sound l at r h = go (eqb r.magnitude 0 || ltb M r.magnitude) refl
  where
    go : (t : Bool) → (eqb r.magnitude 0 || ltb M r.magnitude) ≡ t → NumberIs l at (cond t None (Some r))
    go true e = tt
    go false e =
        let parts = neither (eqb r.magnitude 0) (ltb M r.magnitude) e in
        (ltb-false M r.magnitude parts.1, h (omega (arith, eqb-false r.magnitude 0 parts.0)))

-- a run that starts with another digit than zero
start_sound : (b : ℕ) (bs : List ℕ) (at : ℕ) → eqb b 48 ≡ false → 0 < (run_at 0 at (b ∷ bs)).magnitude
    → Taken (b ∷ bs) at (run_at 0 at (b ∷ bs)).next (digits (run_at 0 at (b ∷ bs)).magnitude)
unfolding run_at
start_sound b bs at other = go (goes_on 0 b) refl
  where
    Start : Run → Type 0
    Start r = 0 < r.magnitude → Taken (b ∷ bs) at r.next (digits r.magnitude)

    go : (t : Bool) → goes_on 0 b ≡ t → Start (cond t (run_at (0 * 10 + (b - 48)) (at + 1) bs) (record { magnitude = 0; next = at }))
    go true e p =
        let range = goes_on_range 0 b e in
        let some : 0 < 0 * 10 + (b - 48) = omega (arith, eqb-false b 48 other) in
        let one : digits (0 * 10 + (b - 48)) ≡ b ∷ [] =
        digits_one (0 * 10 + (b - 48)) (omega arith) ∙ ap (λ (k : ℕ). k ∷ []) (omega arith) in
        let run = run_sound bs (0 * 10 + (b - 48)) (at + 1) some in
        record { rest = run.0; split = ap (λ (xs : List ℕ). xs ++ bs) (sym one) ∙ run.1; place = omega (arith, run.2, ap length one) }
    go false e p = absurd (omega arith)

pub number_sound : (l : List ℕ) (at : ℕ) → NumberIs l at (number_at at l)
unfolding number_at
number_sound [] at = tt
number_sound (b ∷ bs) at = go (eqb b 48) refl
  where
    go : (t : Bool) → eqb b 48 ≡ t → NumberIs (b ∷ bs) at (cond t (Some (record { magnitude = 0; next = at + 1 })) (bounded_run (run_at 0 at (b ∷ bs))))
    go true e =
        let zero-digit : digits 0 ≡ 48 ∷ [] = digits_one 0 (omega arith) in (
          omega arith,
          record { rest = bs; split = rw (zero-digit, eqb-true b 48 e); place = rw zero-digit },
        )
    go false e = bounded_sound (b ∷ bs) at (run_at 0 at (b ∷ bs)) (start_sound b bs at e)

-- the first digit is a digit, and no zero but of the number 0
pub record Headed (n : ℕ) (xs : List ℕ) : Type 0 where
  pub byte : ℕ
  pub bytes : List ℕ
  pub split : xs ≡ byte ∷ bytes
  pub digit : is_digit byte ≡ true
  pub other : 0 < n → eqb byte 48 ≡ false

pub digits_head : (n : ℕ) → Headed n (digits n)
digits_head =
    digit_ind (λ (n : ℕ). Headed n (digits n))
    (λ d h. record { byte = 48 + d; bytes = []; split = digits_one d h; digit = digit_byte d h; other = λ p. ne_eqb (48 + d) 48 (λ e. omega arith) })
    (λ m d p h ih.
    record {
      byte = ih.byte;
      bytes = ih.bytes ++ ((48 + d) ∷ []);
      split = digits_more m d p h ∙ ap (λ (xs : List ℕ). xs ++ ((48 + d) ∷ [])) ih.split;
      digit = ih.digit;
      other = λ q. ih.other p;
    })

-- a run ends before a byte that is no digit
run_stops : (m at e : ℕ) (l : List ℕ) → is_digit e ≡ false → run_at m at (e ∷ l) ≡ record { magnitude = m; next = at }
unfolding run_at
run_stops m at e l h = rw h

bounded_complete : (m next : ℕ) → 0 < m → m ≤ M → bounded_run (record { magnitude = m; next = next }) ≡ Some (record { magnitude = m; next = next })
unfolding bounded_run
bounded_complete m next p h = rw (ne_eqb m 0 (λ e. omega arith), le-ltb M m h)

number_run : (xs : List ℕ) (b : ℕ) (bs : List ℕ) (at : ℕ) → xs ≡ b ∷ bs → eqb b 48 ≡ false → number_at at xs ≡ bounded_run (run_at 0 at xs)
unfolding number_at
number_run xs b bs at p q = rw (p, q)

number_complete : (m at e : ℕ) (l : List ℕ) → m ≤ M → is_digit e ≡ false → number_at at (digits m ++ e ∷ l) ≡ Some (record { magnitude = m; next = at + length (digits m) })
unfolding number_at
number_complete zero at e l h q = rw (digits_one 0 (omega arith))
number_complete (suc m) at e l h q =
    let head = digits_head (suc m) in
    let some : 0 < suc m = omega arith in
    number_run (digits (suc m) ++ e ∷ l) head.byte (head.bytes ++ e ∷ l) at (ap (λ (xs : List ℕ). xs ++ e ∷ l) head.split) (head.other some)
    ∙ ap bounded_run (run_digits (suc m) h at (e ∷ l) ∙ run_stops (suc m) (at + length (digits (suc m))) e l q)
    ∙ bounded_complete (suc m) (at + length (digits (suc m))) some h

-- ---- words

-- what a word that is read says of the bytes: they are its decimal
abbrev pub WordIs : List ℕ → ℕ → Option Field → Type 0
WordIs l at (Some w) = (has_text w.value ≡ true) × Taken l at w.next (decimal w.value)
WordIs l at None = Unit {0}

positive_sound : (l : List ℕ) (at : ℕ) (n : Option Run) → NumberIs l at n → WordIs l at (positive_word n)
unfolding positive_word has_text decimal sign
positive_sound l at (Some n) h = (le-leb n.magnitude M h.0, h.1)
positive_sound l at None h = tt

negative_some : (m next : ℕ) → negative_word (Some (record { magnitude = suc m; next = next })) ≡ Some (record { value = negsuc m; next = next })
unfolding negative_word
negative_some m next = rw (eqb-suc-zero m)

negative_sound : (bs : List ℕ) (at : ℕ) (n : Option Run) → NumberIs bs (at + 1) n → WordIs (45 ∷ bs) at (negative_word n)
unfolding negative_word has_text decimal sign
negative_sound bs at (Some n) h = go n.magnitude n.next h
  where
    go : (m next : ℕ) → NumberIs bs (at + 1) (Some (record { magnitude = m; next = next }))
        → WordIs (45 ∷ bs) at (negative_word (Some (record { magnitude = m; next = next })))
    go zero next h = tt
    go (suc m) next h =
        rw negative_some (
          le-leb (suc m) M h.0,
          record { rest = h.1.rest; split = ap (λ (xs : List ℕ). 45 ∷ xs) h.1.split; place = omega (arith, h.1.place) },
        )
negative_sound bs at None h = tt

pub word_sound : (l : List ℕ) (at : ℕ) → WordIs l at (word_at at l)
unfolding word_at
word_sound [] at = tt
word_sound (b ∷ bs) at = go (eqb b 45) refl
  where
    go : (t : Bool) → eqb b 45 ≡ t → WordIs (b ∷ bs) at (cond t (negative_word (number_at (at + 1) bs)) (positive_word (number_at at (b ∷ bs))))
    go true e =
        rw (eqb-true b 45 e) (negative_sound bs at (number_at (at + 1) bs) (number_sound bs (at + 1)))
    go false e = positive_sound (b ∷ bs) at (number_at at (b ∷ bs)) (number_sound (b ∷ bs) at)

-- a number that a digit starts is no negative word
word_plain : (xs : List ℕ) (b : ℕ) (bs : List ℕ) (at : ℕ) → xs ≡ b ∷ bs → is_digit b ≡ true → word_at at xs ≡ positive_word (number_at at xs)
unfolding word_at
word_plain xs b bs at p q = rw (p, ne_eqb b 45 (λ e. omega (arith, (digit_range b q).0)))

pub word_complete : (v : ℤ) (at e : ℕ) (l : List ℕ) → has_text v ≡ true → is_digit e ≡ false
    → word_at at (decimal v ++ e ∷ l) ≡ Some (record { value = v; next = at + length (decimal v) })
unfolding decimal sign has_text word_at positive_word negative_word
word_complete (pos n) at e l h q =
    let head = digits_head n in
    word_plain (digits n ++ e ∷ l) head.byte (head.bytes ++ e ∷ l) at (ap (λ (xs : List ℕ). xs ++ e ∷ l) head.split) head.digit
    ∙ ap positive_word (number_complete n at e l (leb-true n M h) q)
word_complete (negsuc n) at e l h q =
    ap negative_word (number_complete (suc n) (at + 1) e l (leb-true (suc n) M h) q)
    ∙ negative_some n (at + 1 + length (digits (suc n)))
    ∙ ap (λ (k : ℕ). Some (record { value = negsuc n; next = k })) (omega arith)

-- two decimals that one byte ends, no digit, are of one word
word_of : Option Field → ℤ
word_of (Some w) = w.value
word_of None = pos 0

pub decimal_unique : (v w : ℤ) (e : ℕ) (xs ys : List ℕ) → has_text v ≡ true → has_text w ≡ true → is_digit e ≡ false
    → decimal v ++ e ∷ xs ≡ decimal w ++ e ∷ ys → (v ≡ w) × (xs ≡ ys)
unfolding word_of
decimal_unique v w e xs ys hv hw q s =
    let read : ◌≡◌ {A = Option Field} (Some (record { value = v; next = 0 + length (decimal v) })) (Some (record { value = w; next = 0 + length (decimal w) })) =
    sym (word_complete v 0 e xs hv q) ∙ ap (word_at 0) s ∙ word_complete w 0 e ys hw q in
    let one : v ≡ w = ap word_of read in
    let rest : e ∷ xs ≡ e ∷ ys =
    sym (drop-append_seam (decimal v) (e ∷ xs))
    ∙ ap (drop (length (decimal v))) (s ∙ ap (λ (z : ℤ). decimal z ++ e ∷ ys) (sym one))
    ∙ drop-append_seam (decimal v) (e ∷ ys) in
    (one, ap (drop 1) rest)

-- the word that a field says
magnitude_field : (n e : ℕ) → is_digit e ≡ false → magnitude 0 (digits n ++ (e ∷ [])) ≡ n
unfolding magnitude
magnitude_field n e q = magnitude_digits n (e ∷ []) ∙ stops
  where
    stops : magnitude n (e ∷ []) ≡ n
    stops = rw q

value_plain : (xs : List ℕ) (b : ℕ) (bs : List ℕ) → xs ≡ b ∷ bs → is_digit b ≡ true → value xs ≡ pos (magnitude 0 xs)
unfolding value
value_plain xs b bs p q = rw (p, ne_eqb b 45 (λ e. omega (arith, (digit_range b q).0)))

pub value_decimal : (v : ℤ) (e : ℕ) → is_digit e ≡ false → value (decimal v ++ (e ∷ [])) ≡ v
unfolding decimal sign value
value_decimal (pos n) e q =
    let head = digits_head n in
    value_plain (digits n ++ (e ∷ [])) head.byte (head.bytes ++ (e ∷ [])) (ap (λ (xs : List ℕ). xs ++ (e ∷ [])) head.split) head.digit
    ∙ ap pos (magnitude_field n e q)
value_decimal (negsuc n) e q = ap (λ (k : ℕ). neg_ℤ (pos k)) (magnitude_field (suc n) e q)

-- ---- fields

-- what a field that is read says of the text from its place on
pub record FieldIs (text : List ℕ) (at end : ℕ) (v : ℤ) (next : ℕ) : Type 0 where
  pub permitted : has_text v ≡ true
  pub split : drop at text ≡ decimal v ++ end ∷ drop next text
  pub later : at < next
  pub within : next ≤ length text

abbrev FieldWord : List ℕ → ℕ → ℕ → Option Field → Type 0
FieldWord text at end (Some w) = FieldIs text at end w.value w.next
FieldWord text at end None = Unit {0}

closed_sound : (text : List ℕ) (at end : ℕ) (w : Option Field) → WordIs (drop at text) at w → FieldWord text at end (closed_word text end w)
unfolding closed_word
closed_sound text at end (Some w) h = go (ltb w.next (length text) && eqb (get_or text w.next 0) end) refl
  where
    go : (t : Bool) → (ltb w.next (length text) && eqb (get_or text w.next 0) end) ≡ t
        → FieldWord text at end (cond t (Some (record { value = w.value; next = w.next + 1 })) None)
    go true e =
        let parts = (and-eq-true_iff (ltb w.next (length text)) (eqb (get_or text w.next 0) end)).0 e in
        let inside : w.next < length text = ltb-true w.next (length text) parts.0 in
        let rest : h.1.rest ≡ drop w.next text =
        sym (drop-append_seam (decimal w.value) h.1.rest)
        ∙ ap (drop (length (decimal w.value))) (sym h.1.split)
        ∙ drop-drop (length (decimal w.value)) at text
        ∙ ap (λ (k : ℕ). drop k text) (sym h.1.place) in
        let ended : drop w.next text ≡ end ∷ drop (w.next + 1) text =
        rw (add-one, ← eqb-true (get_or text w.next 0) end parts.1) (drop-cons text w.next 0 inside) in
        record {
          permitted = h.0;
          split = h.1.split ∙ ap (λ (xs : List ℕ). decimal w.value ++ xs) (rest ∙ ended);
          later = omega (arith, h.1.place);
          within = omega arith;
        }
    go false e = tt
closed_sound text at end None h = tt

pub field_sound : (text : List ℕ) (at end : ℕ) (w : Field) → field_at text at end ≡ Some w → FieldIs text at end w.value w.next
unfolding field_at
field_sound text at end w e =
    subst (FieldWord text at end) e (closed_sound text at end (word_at at (drop at text)) (word_sound (drop at text) at))

pub closed_complete : (text : List ℕ) (end : ℕ) (w : Field) → w.next < length text → get_or text w.next 0 ≡ end
    → closed_word text end (Some w) ≡ Some (record { value = w.value; next = w.next + 1 })
unfolding closed_word
closed_complete text end w p q = rw (lt-ltb w.next (length text) p, eq-eqb (get_or text w.next 0) end q)

pub field_complete : (text : List ℕ) (at end : ℕ) (v : ℤ) (l : List ℕ) → has_text v ≡ true → is_digit end ≡ false → drop at text ≡ decimal v ++ end ∷ l
    → field_at text at end ≡ Some (record { value = v; next = at + length (decimal v) + 1 })
unfolding field_at
field_complete text at end v l h q e =
    ap (λ (xs : List ℕ). closed_word text end (word_at at xs)) e
    ∙ ap (closed_word text end) (word_complete v at end l h q)
    ∙ closed_complete text end (record { value = v; next = at + length (decimal v) })
    (omega (arith, length-drop at text, ap length e, length-append (decimal v) (end ∷ l)))
    (sym (get_or-drop at text (length (decimal v)) 0) ∙ ap (λ (xs : List ℕ). get_or xs (length (decimal v)) 0) e ∙ get_or-append_seam (decimal v) end l 0)
