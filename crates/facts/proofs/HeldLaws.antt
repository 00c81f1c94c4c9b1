-- Facts as the code holds them.
-- Assumes nothing.
use mathlib.Core.Path.{◌≡◌, sym, ap, ◌∙◌}
use mathlib.Core.Bool.{true, false}
use mathlib.Core.List.{List}
use mathlib.Core.Logic.{⊎_elim}
use Prim.Native.Nat.{ℕ, ◌+◌, ◌*◌, ◌/◌, ◌%◌, ◌≤◌, ◌<◌}
use native.Mathlib.Omega.{arith}
use lib.IntN.{ℤ, pos}
use lib.ListN.{length, get_or}
use lib.Seq.{ext_get_or}
use Rattle.tables.specs.Table.{grown, entry}
use Rattle.tables.specs.Lists.{words_from}
use Rattle.tables.proofs.Bools.{bool_cases}
use Rattle.tables.proofs.Grown.{length_grown, grown_at}
use Rattle.signed.specs.Words.{num}
use Rattle.signed.proofs.Numbers.{num_of}
use Rattle.layout.specs.declared.Header.{Header}
use Rattle.node.specs.FactValues.{Single, Listed, no_value}
use Rattle.records.specs.Facts.{is_list}
use Rattle.facts.specs.Lent.{lent, lengths_before, slots_before}
use Rattle.facts.specs.Assembled.{value_taken, fact_taken, assembled}
use Rattle.facts.specs.Inner.{start_in, count_in, held_fact, held, held_word, LengthsIn}
use Rattle.facts.proofs.FaultLaws.{fact_at, length_facts}

packed_start : (a n : ℕ) → n ≤ 100 → (a * 128 + n) / 128 ≡ a
packed_start a n l = omega arith

packed_count : (a n : ℕ) → n ≤ 100 → (a * 128 + n) % 128 ≡ n
packed_count a n l = omega arith

module _ (s facts lists : List ℤ) where
  pub length_held : length (held s facts lists) ≡ length facts
  unfolding held
  length_held = length_grown (λ _ k. held_fact s lists k (get_or facts k (pos 0))) no_value (length facts)

  -- entry k
  pub held_at : (k : ℕ) → k < length facts → get_or (held s facts lists) k no_value ≡ held_fact s lists k (get_or facts k (pos 0))
  unfolding held entry
  held_at k l = grown_at (λ _ k. held_fact s lists k (get_or facts k (pos 0))) no_value (length facts) k l

module _ (s lists : List ℤ) (k : ℕ) (w : ℤ) where
  pub held_list : is_list s k ≡ true → held_fact s lists k w ≡ Listed (words_from lists (start_in w) (count_in w))
  unfolding held_fact
  held_list e = rw e

  pub held_single : is_list s k ≡ false → held_fact s lists k w ≡ Single w
  unfolding held_fact
  held_single e = rw e

module _ (s values given lengths : List ℤ) (k : ℕ) where
  pub word_list : is_list s k ≡ true
      → held_word s values given lengths k ≡ pos (slots_before s k * 128 + num (get_or lengths (lengths_before s k) (pos 0)))
  unfolding held_word
  word_list e = rw e

  pub word_single : is_list s k ≡ false → held_word s values given lengths k ≡ value_taken s k (get_or values k (pos 0)) (get_or given k (pos 0))
  unfolding held_word
  word_single e = rw e

  -- the word of a fact stands for what is taken of it
  word_held : (lists : List ℤ) → (is_list s k ≡ true → num (get_or lengths (lengths_before s k) (pos 0)) ≤ 100)
      → held_fact s lists k (held_word s values given lengths k) ≡ fact_taken s (lent values given lists lengths) k
  unfolding fact_taken held_fact
  word_held lists few = ⊎_elim listed (λ e. rw (word_single e, e)) (bool_cases (is_list s k))
    where
      listed : is_list s k ≡ true → held_fact s lists k (held_word s values given lengths k) ≡ fact_taken s (lent values given lists lengths) k
      listed e = rw (word_list e, e, num_of, packed_start (slots_before s k) _ (few e), packed_count (slots_before s k) _ (few e))

-- the words of all facts stand for the facts as calls see them
module _ (s : List ℤ) (h : Header) (values given lengths : List ℤ) where
  abbrev words : List ℤ
  words = grown (λ _ k. held_word s values given lengths k) (pos 0) h.facts

  long : length words ≡ h.facts
  long = length_grown (λ _ k. held_word s values given lengths k) (pos 0) h.facts

  word_at : (k : ℕ) → k < h.facts → get_or words k (pos 0) ≡ held_word s values given lengths k
  unfolding entry
  word_at k l = grown_at (λ _ k. held_word s values given lengths k) (pos 0) h.facts k l

  each : (lists : List ℤ) → LengthsIn s h lengths → (k : ℕ) → k < h.facts
      → get_or (held s words lists) k no_value ≡ get_or (assembled s h (lent values given lists lengths)) k no_value
  each lists n k l =
      held_at s words lists k (omega (arith, long))
      ∙ ap (held_fact s lists k) (word_at k l)
      ∙ word_held s values given lengths k lists (n.each k l)
      ∙ sym (fact_at s h (lent values given lists lengths) k l)

  pub words_held : LengthsIn s h lengths → (lists : List ℤ) → held s words lists ≡ assembled s h (lent values given lists lengths)
  words_held n lists =
      ext_get_or no_value (held s words lists) (assembled s h (lent values given lists lengths))
      (length_held s words lists ∙ long ∙ sym (length_facts s h (lent values given lists lengths)))
      (λ k l. each lists n k (omega (arith, length_held s words lists, long)))
