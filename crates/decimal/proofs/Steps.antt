-- The reader's steps, at a place of the text: what its tests make of each definition.
-- Assumes nothing.
use Rattle.std.specs.Prelude.{Option, Some, None}
use Prim.Native.Nat.{ℕ, ◌+◌, ◌-◌, ◌*◌, ◌≤◌, ◌<◌}
use mathlib.Core.Path.{◌≡◌, refl, sym, ap}
use mathlib.Core.Bool.{true, false}
use mathlib.Core.List.{List}
use native.Mathlib.Numerals.{add-one}
use lib.ListN.{length, drop, get_or, drop_of_length-le}
use lib.Seq.{drop-cons}
use borrow.Author.Tests.{eq-eqb, ne_eqb, lt-ltb, le-ltb}
use Rattle.decimal.specs.Scan.{goes_on, run_at, bounded_run, number_at, positive_word, negative_word, word_at, closed_word, Small}
use Rattle.decimal.specs.declared.Run.{Run}
use Rattle.decimal.specs.declared.Field.{Field}
use Rattle.decimal.proofs.Reading.{NumberIs, number_sound, field_sound, closed_complete}

-- ---- a run

module _ (text : List ℕ) (m at : ℕ) where
  pub run_step : at < length text → goes_on m (get_or text at 0) ≡ true
      → run_at m at (drop at text) ≡ run_at (m * 10 + (get_or text at 0 - 48)) (at + 1) (drop (at + 1) text)
  unfolding run_at
  run_step h e =
      rw (drop-cons text at 0 h, e) (ap (λ (k : ℕ). run_at (m * 10 + (get_or text at 0 - 48)) (at + 1) (drop k text)) (sym (add-one at)))

  pub run_stop : at < length text → goes_on m (get_or text at 0) ≡ false → run_at m at (drop at text) ≡ record { magnitude = m; next = at }
  unfolding run_at
  run_stop h e = rw (drop-cons text at 0 h, e)

  pub run_end : length text ≤ at → run_at m at (drop at text) ≡ record { magnitude = m; next = at }
  unfolding run_at
  run_end h = rw (drop_of_length-le text h)

pub ruleset run_steps = (run_step, run_stop, run_end)

-- ---- a number, a word, a field

module _ (text : List ℕ) (at : ℕ) where
  pub number_none : length text ≤ at → number_at at (drop at text) ≡ None
  unfolding number_at
  number_none h = rw (drop_of_length-le text h)

  pub number_zero : at < length text → get_or text at 0 ≡ 48 → number_at at (drop at text) ≡ Some (record { magnitude = 0; next = at + 1 })
  unfolding number_at
  number_zero h e = rw (drop-cons text at 0 h, eq-eqb (get_or text at 0) 48 e)

  pub number_other : at < length text → (get_or text at 0 ≡ 48 → ⊥) → number_at at (drop at text) ≡ bounded_run (run_at 0 at (drop at text))
  unfolding number_at
  number_other h e = rw (drop-cons text at 0 h, ne_eqb (get_or text at 0) 48 e)

  pub word_none : length text ≤ at → word_at at (drop at text) ≡ None
  unfolding word_at
  word_none h = rw (drop_of_length-le text h)

  pub word_minus : at < length text → get_or text at 0 ≡ 45 → word_at at (drop at text) ≡ negative_word (number_at (at + 1) (drop (at + 1) text))
  unfolding word_at
  word_minus h e =
      rw (drop-cons text at 0 h, eq-eqb (get_or text at 0) 45 e) (ap (λ (k : ℕ). negative_word (number_at (at + 1) (drop k text))) (sym (add-one at)))

  pub word_other : at < length text → (get_or text at 0 ≡ 45 → ⊥) → word_at at (drop at text) ≡ positive_word (number_at at (drop at text))
  unfolding word_at
  word_other h e = rw (drop-cons text at 0 h, ne_eqb (get_or text at 0) 45 e)

  pub number_small : Small (number_at at (drop at text))
  number_small = go (number_at at (drop at text)) (number_sound (drop at text) at)
    where
      go : (n : Option Run) → NumberIs (drop at text) at n → Small n
      go (Some n) h = h.0
      go None h = tt

pub ruleset number_steps = (number_none, number_zero, number_other)

pub ruleset word_steps = (word_none, word_minus, word_other, number_small)

module _ (text : List ℕ) (end : ℕ) (w : Field) where
  pub closed_short : length text ≤ w.next → closed_word text end (Some w) ≡ None
  unfolding closed_word
  closed_short h = rw (le-ltb w.next (length text) h)

  pub closed_other : w.next < length text → (get_or text w.next 0 ≡ end → ⊥) → closed_word text end (Some w) ≡ None
  unfolding closed_word
  closed_other h e = rw (lt-ltb w.next (length text) h, ne_eqb (get_or text w.next 0) end e)

pub closed_bad : (text : List ℕ) (end : ℕ) → closed_word text end None ≡ None
unfolding closed_word
closed_bad text end = refl

pub ruleset field_steps = (closed_short, closed_other, closed_complete, closed_bad)
