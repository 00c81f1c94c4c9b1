-- The answers: when a call goes through, what it then leaves, and that its numbers are small.
-- Assumes nothing.
use Rattle.std.specs.Prelude.{Ok, Err}
use Prim.Native.Nat.{ℕ, zero, suc, ◌+◌, ◌/◌, ◌≤◌, ◌<◌, ◌^◌}
use mathlib.Core.Path.{◌≡◌, refl, ◌∙◌, ap}
use mathlib.Core.Bool.{Bool, true, false, cond}
use mathlib.Core.List.{List, [], ◌∷◌, ◌++◌}
use native.Mathlib.Omega.{arith}
use borrow.Author.Tests.{le-leb, lt-leb, leb-true}
use lib.Dec.{leb}
use lib.IntN.{ℤ}
use lib.ListN.{length, take, drop}
use lib.Seq.{take_at, sets, sets-eq}
use Rattle.answer.specs.Inner.{Small}
use Rattle.answer.specs.Answers.{Count}
use Rattle.answer.specs.declared.Refusal.{Refusal}
use Rattle.answer.specs.declared.Refusal.TheVariants.{Line, NoRoom}
use Rattle.text.specs.Lines.{all, good_row, rows, rows_of, text_of, good_line, lines_of, words_of}
use Rattle.text.specs.Calls.{before, judged, fitted, filled, read_answer, write_answer}
use Rattle.text.proofs.Cut.{length_cut}

-- ---- when a call goes through

no_count : (r : Refusal) (m : ℕ) → Err r ≡ Ok m → ⊥
no_count r m e = let clash : ◌≡◌ {A = ℕ} 0 1 = cc in omega arith

judged_is : {X : Type 0} (ok : X → Bool) (lines : List X) (n m : ℕ) → judged ok lines n ≡ Ok m → (all ok lines ≡ true) × (m ≡ n)
unfolding judged
judged_is ok lines n m = go (all ok lines)
  where
    go : (t : Bool) → cond t (Ok n) (Err (Line (before ok lines))) ≡ Ok m → (t ≡ true) × (m ≡ n)
    go true e = (refl, cc)
    go false e = absurd (no_count (Line (before ok lines)) m e)

fitted_is : (room m : ℕ) (c : Count) → fitted room c ≡ Ok m → (c ≡ Ok m) × (m ≤ room)
unfolding fitted
fitted_is room m (Ok n) = go (leb n room) refl
  where
    go : (t : Bool) → leb n room ≡ t → cond t (Ok n) (Err NoRoom) ≡ Ok m → ◌≡◌ {A = Count} (Ok n) (Ok m) × (m ≤ room)
    go true h e =
        let same : n ≡ m = cc in
        (e, omega (arith, leb-true n room h))
    go false h e = absurd (no_count NoRoom m e)
fitted_is room m (Err r) = λ e. absurd (no_count r m e)

pub all_judged : {X : Type 0} (ok : X → Bool) (lines : List X) (n : ℕ) → all ok lines ≡ true → judged ok lines n ≡ Ok n
unfolding judged
all_judged ok lines n h = rw h

-- what an answer that is no refusal says
pub record Accepted {X : Type 0} (ok : X → Bool) (lines : List X) (n room m : ℕ) : Type 0 where
  pub good : all ok lines ≡ true
  pub count : m ≡ n
  pub fits : m ≤ room

module _ {X : Type 0} (ok : X → Bool) (lines : List X) (n room : ℕ) where
  pub accepted : (m : ℕ) → fitted room (judged ok lines n) ≡ Ok m → Accepted ok lines n room m
  accepted m e =
      let fit = fitted_is room m (judged ok lines n) e in
      let lines_good = judged_is ok lines n m fit.0 in
      record { good = lines_good.0; count = lines_good.1; fits = fit.1 }

  pub accepts : all ok lines ≡ true → n ≤ room → fitted room (judged ok lines n) ≡ Ok n
  unfolding judged fitted
  accepts h r = rw (h, le-leb n room r)

-- ---- the ways out of a call

-- the answer of a call that judged its lines, and what it leaves in the slice that it was lent
abbrev pub Ends : {X Y : Type 0} → (X → Bool) → List X → List Y → List Y → Count → List Y → Type 0
Ends ok lines result lent answer left =
    (answer ≡ fitted (length lent) (judged ok lines (length result)))
    × (left ≡ filled (fitted (length lent) (judged ok lines (length result))) result lent)

module _ {X Y : Type 0} (ok : X → Bool) (lines : List X) (result lent : List Y) where
  pub ends_refused : (r : Refusal) → judged ok lines (length result) ≡ Err r → Ends ok lines result lent (Err r) lent
  unfolding fitted filled
  ends_refused r e = rw e (refl, refl)

  module _ (m : ℕ) (e : judged ok lines (length result) ≡ Ok m) where
    -- what was judged, for the pass that writes
    pub judged_good : all ok lines ≡ true
    judged_good = (judged_is ok lines (length result) m e).0

    pub judged_size : m ≡ length result
    judged_size = (judged_is ok lines (length result) m e).1

    pub ends_no_room : length lent < m → Ends ok lines result lent (Err NoRoom) lent
    unfolding fitted filled
    ends_no_room h = rw (e, lt-leb m (length lent) h) (refl, refl)

    pub ends_filled : m ≤ length lent → Ends ok lines result lent (Ok m) (result ++ drop m lent)
    unfolding fitted filled
    ends_filled h = rw (e, le-leb m (length lent) h) (refl, refl)

    pub ends_done : m ≤ length lent → Ends ok lines result lent (Ok m) (sets lent 0 result)
    ends_done h = rw stored (ends_filled h)
      where
        stored : sets lent 0 result ≡ result ++ drop m lent
        stored =
            let size : m ≡ length result = judged_size in
            let room : 0 + length result ≤ length lent = omega arith in
            let all_of : 0 + length result ≡ m = omega arith in
            sets-eq result lent 0 room ∙ ap (λ (k : ℕ). result ++ drop k lent) all_of

-- the result can be taken from the slice again
pub filled_take : {Y : Type 0} (result lent : List Y) → take (length result) (filled (Ok (length result)) result lent) ≡ result
unfolding filled
filled_take result lent = take_at result (drop (length result) lent) (length result) refl

-- ---- small numbers

pub before_length : {X : Type 0} (ok : X → Bool) (xs : List X) → before ok xs ≤ length xs
unfolding before
before_length ok [] = omega arith
before_length ok (x ∷ xs) = go (ok x) (before_length ok xs)
  where
    go : (t : Bool) → before ok xs ≤ length xs → cond t (suc (before ok xs)) 0 ≤ suc (length xs)
    go true ih = omega arith
    go false ih = omega arith

-- what an answer gives that is one number
abbrev pub one_number : ℕ → ℕ × ℕ
one_number n = (n, 0)

small_answer : {X : Type 0} (ok : X → Bool) (lines : List X) (n room : ℕ) → length lines < 2 ^ 63 → room < 2 ^ 63
    → Small one_number (fitted room (judged ok lines n))
unfolding judged fitted
small_answer ok lines n room p q = go (all ok lines)
  where
    fit : (t : Bool) → leb n room ≡ t → Small one_number (cond t (Ok n) (Err NoRoom))
    fit true e = (omega (arith, leb-true n room e), omega arith)
    fit false e = omega arith

    go : (t : Bool) → Small one_number (fitted room (cond t (Ok n) (Err (Line (before ok lines)))))
    go true = fit (leb n room) refl
    go false = omega (arith, before_length ok lines)

length_rows : (n : ℕ) (ws : List ℤ) → length (rows n ws) ≡ n
unfolding rows
length_rows zero ws = refl
length_rows (suc n) ws = ap suc (length_rows n (drop 8 ws))

pub rows_count : (ws : List ℤ) → length (rows_of ws) ≡ (length ws + 7) / 8
unfolding rows_of
rows_count ws = length_rows ((length ws + 7) / 8) ws

-- the numbers of both answers fit a signed word
pub read_small : (text : List ℕ) (room : ℕ) → length text < 2 ^ 63 → room < 2 ^ 63 → Small one_number (read_answer text room)
unfolding read_answer lines_of
read_small text room p q =
    small_answer good_line (lines_of text) (length (words_of text)) room (omega (arith, length_cut 10 text)) q

pub write_small : (words : List ℤ) (room : ℕ) → length words < 2 ^ 63 → room < 2 ^ 63 → Small one_number (write_answer words room)
unfolding write_answer
write_small words room p q =
    small_answer good_row (rows_of words) (length (text_of words)) room (omega (arith, rows_count words)) q
