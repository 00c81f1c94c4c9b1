-- Lines that are written field by field.
-- Assumes nothing.
use Prim.Native.Nat.{ℕ, suc, ◌+◌, ◌-◌, ◌≤◌, ◌<◌}
use mathlib.Core.Path.{◌≡◌, refl, sym, ◌∙◌, ap}
use mathlib.Core.Bool.{Bool, true, false}
use mathlib.Core.List.{List, [], ◌∷◌, ◌++◌, append-nil}
use native.Mathlib.Omega.{arith}
use native.Mathlib.Numerals.{add-one}
use borrow.Author.Tests.{eq-eqb, ne_eqb, eqb-true, le-leb}
use lib.Dec.{eqb}
use lib.IntN.{pos}
use lib.ListN.{length, take, drop, get_or, length-append, length-drop, drop_of_length-le}
use lib.Seq.{append_snoc, sets, length-sets, drop-cons, get_or-take, length-take-le}
use Rattle.tables.proofs.Bools.{same_tests}
use Rattle.answer.specs.Number.{number, place}
use Rattle.answer.specs.declared.Refusal.{Refusal}
use Rattle.decimal.specs.Decimal.{M, decimal, has_text}
use Rattle.decimal.proofs.Writing.{sets_append}
use Rattle.text.specs.Lines.{line}
use Rattle.path_lines.specs.Output.{numbers_line, refused_line}
use Rattle.path_lines.specs.Steps.{ending_of, number_field, refused_field}

-- ---- bytes that are written part by part

-- `all` is to stand in out₀ from at₀ on; `rest` of it is still to be written, from `at` on
pub record Written (out₀ : List ℕ) (at₀ : ℕ) (all out : List ℕ) (at : ℕ) (rest : List ℕ) : Type 0 where
  pub put : sets out at rest ≡ sets out₀ at₀ all
  pub place : at + length rest ≡ at₀ + length all
  pub room : at + length rest ≤ length out
  pub size : length out ≡ length out₀

pub written_none : {out₀ : List ℕ} {at₀ : ℕ} {all : List ℕ} → at₀ + length all ≤ length out₀ → Written out₀ at₀ all out₀ at₀ all
written_none l = record { put = refl; place = refl; room = l; size = refl }

module _ {out₀ : List ℕ} {at₀ : ℕ} {all out : List ℕ} {at : ℕ} {rest : List ℕ} (w : Written out₀ at₀ all out at rest) where
  -- the next part is x
  module _ (x rest' : List ℕ) (e : rest ≡ x ++ rest') where
    both_sizes : length rest ≡ length x + length rest'
    both_sizes = ap length e ∙ length-append x rest'

    pub written_room : at + length x ≤ length out
    written_room = omega (arith, w.room, both_sizes)

    pub written_more : {out' : List ℕ} {at' : ℕ} → at' ≡ at + length x → out' ≡ sets out at x → Written out₀ at₀ all out' at' rest'
    written_more p q =
        let long = ap length q ∙ length-sets out at x in
        record {
          put = rw (q, p) (sets_append x rest' out at ∙ ap (sets out at) (sym e) ∙ w.put);
          place = omega (arith, w.place, p, both_sizes);
          room = omega (arith, w.room, p, both_sizes, long);
          size = long ∙ w.size;
        }

  pub written_done : rest ≡ [] → (at ≡ at₀ + length all) × (out ≡ sets out₀ at₀ all)
  written_done e = (omega (arith, w.place, ap length e), ap (sets out at) (sym e) ∙ w.put)

-- ---- numbers

pub has_text_lem : (n : ℕ) → n ≤ M → has_text (pos n) ≡ true
unfolding has_text
has_text_lem n l = le-leb n M l

pub number_room : (n : ℕ) (last : Bool) (at room : ℕ) → at + length (number_field n last) ≤ room → at + length (decimal (pos n)) < room
unfolding number_field
number_room n last at room l = omega (arith, l, length-append (decimal (pos n)) (ending_of last ∷ []))

-- what `put_field` leaves
pub number_put : (n : ℕ) (last : Bool) (at : ℕ) (out : List ℕ) {r e : ℕ} {out' : List ℕ} → e ≡ ending_of last → r ≡ at + length (decimal (pos n)) + 1
    → out' ≡ sets out at (decimal (pos n) ++ (e ∷ []))
    → (r ≡ at + length (number_field n last)) × (out' ≡ sets out at (number_field n last))
unfolding number_field
number_put n last at out z p q =
    (omega (arith, p, length-append (decimal (pos n)) (ending_of last ∷ [])), q ∙ rw z)

-- ---- lines

pub line_none : numbers_line [] ≡ []
unfolding line
line_none = refl

-- the first number of a line, which is the last where none follows
pub line_more : (n : ℕ) (ns : List ℕ) → numbers_line (n ∷ ns) ≡ number_field n (eqb (length ns) 0) ++ numbers_line ns
unfolding line number_field
line_more n [] = sym (append-nil (decimal (pos n) ++ (10 ∷ [])))
line_more n (m ∷ ms) = rw (ne_eqb (suc (length ms)) 0 (λ e. omega arith)) (sym (append_snoc (decimal (pos n)) 9 (numbers_line (m ∷ ms))))

pub line_first : (n m : ℕ) (ns : List ℕ) → numbers_line (n ∷ m ∷ ns) ≡ number_field n false ++ numbers_line (m ∷ ns)
line_first n m ns = rw (ne_eqb (suc (length ns)) 0 (λ e. omega arith)) at (line_more n (m ∷ ns))

pub line_some : (n : ℕ) (ns : List ℕ) → 1 ≤ length ns → numbers_line (n ∷ ns) ≡ number_field n false ++ numbers_line ns
line_some n ns l = rw (ne_eqb (length ns) 0 (λ e. omega arith)) at (line_more n ns)

pub line_last : (n : ℕ) → numbers_line (n ∷ []) ≡ number_field n true ++ []
line_last n = line_more n [] ∙ ap (λ (l : List ℕ). number_field n true ++ l) line_none

-- ---- the routes of a path, which stands at the start of a buffer

-- the routes from number i on
module _ (b : List ℕ) (n : ℕ) (l : n ≤ length b) where
  routes_more : (i : ℕ) → i < n → numbers_line (drop i (take n b)) ≡ number_field (get_or b i 0) (eqb (i + 1) n) ++ numbers_line (drop (i + 1) (take n b))
  routes_more i k =
      let p = take n b in
      let size : length p ≡ n = length-take-le n b l in
      let step : drop i p ≡ get_or b i 0 ∷ drop (i + 1) p =
      drop-cons p i 0 (omega arith) ∙ rw (get_or-take n b i 0 k, add-one i) refl in
      let left : length (drop (i + 1) p) ≡ n - (i + 1) = length-drop (i + 1) p ∙ ap (λ (m : ℕ). m - (i + 1)) size in
      let test : eqb (length (drop (i + 1) p)) 0 ≡ eqb (i + 1) n =
      same_tests _ _ (λ e. eq-eqb (i + 1) n (omega (arith, left, eqb-true (length (drop (i + 1) p)) 0 e)))
      (λ e. eq-eqb (length (drop (i + 1) p)) 0 (omega (arith, left, eqb-true (i + 1) n e))) in
      ap numbers_line step
      ∙ line_more (get_or b i 0) (drop (i + 1) p)
      ∙ ap (λ (t : Bool). number_field (get_or b i 0) t ++ numbers_line (drop (i + 1) p)) test

  -- route i is the next part
  module _ (i : ℕ) (k : i < n) {out₀ : List ℕ} {at₀ : ℕ} {all out : List ℕ} {at : ℕ}
      (w : Written out₀ at₀ all out at (numbers_line (drop i (take n b)))) where
    pub route_room : at + length (number_field (get_or b i 0) (eqb (i + 1) n)) ≤ length out
    route_room = written_room w (number_field (get_or b i 0) (eqb (i + 1) n)) (numbers_line (drop (i + 1) (take n b))) (routes_more i k)

    pub route_put : {at' : ℕ} {out' : List ℕ} → at' ≡ at + length (number_field (get_or b i 0) (eqb (i + 1) n))
        → out' ≡ sets out at (number_field (get_or b i 0) (eqb (i + 1) n)) → Written out₀ at₀ all out' at' (numbers_line (drop (i + 1) (take n b)))
    route_put p q = written_more w (number_field (get_or b i 0) (eqb (i + 1) n)) (numbers_line (drop (i + 1) (take n b))) (routes_more i k) p q

  pub routes_done : (i : ℕ) → n ≤ i → numbers_line (drop i (take n b)) ≡ []
  routes_done i k = ap numbers_line (drop_of_length-le (take n b) {i = i} (omega (arith, length-take-le n b l))) ∙ line_none

-- ---- a refused line

pub refused_start : (r : Refusal) → refused_line r ≡ refused_field ++ numbers_line (number r ∷ place r ∷ [])
unfolding refused_line
refused_start r = refl

-- n is the refusal's number, and k its place
module _ (r : Refusal) {n k : ℕ} (i : n ≡ number r) (j : k ≡ place r) (out : List ℕ) (room : length (refused_line r) ≤ length out) where
  refused_parts : refused_line r ≡ refused_field ++ numbers_line (n ∷ k ∷ [])
  refused_parts = refused_start r ∙ rw (i, j) refl

  refused_none : Written out 0 (refused_line r) out 0 (refused_line r)
  refused_none = written_none (omega arith)

  pub refused_room : 8 ≤ length out
  refused_room = omega (arith, written_room refused_none refused_field (numbers_line (n ∷ k ∷ [])) refused_parts)

  module _ {out₁ : List ℕ} (e₁ : out₁ ≡ sets out 0 refused_field) where
    refused_word_lem : Written out 0 (refused_line r) out₁ 8 (numbers_line (n ∷ k ∷ []))
    refused_word_lem = written_more refused_none refused_field (numbers_line (n ∷ k ∷ [])) refused_parts refl e₁

    pub refused_number : 8 + length (number_field n false) ≤ length out₁
    refused_number = written_room refused_word_lem (number_field n false) (numbers_line (k ∷ [])) (line_first n k [])

    module _ {at : ℕ} {out₂ : List ℕ} (p : at ≡ 8 + length (number_field n false)) (e₂ : out₂ ≡ sets out₁ 8 (number_field n false)) where
      refused_first : Written out 0 (refused_line r) out₂ at (numbers_line (k ∷ []))
      refused_first = written_more refused_word_lem (number_field n false) (numbers_line (k ∷ [])) (line_first n k []) p e₂

      pub refused_place : at + length (number_field k true) ≤ length out₂
      refused_place = written_room refused_first (number_field k true) [] (line_last k)

      pub refused_done : {m : ℕ} {out₃ : List ℕ} → m ≡ at + length (number_field k true) → out₃ ≡ sets out₂ at (number_field k true)
          → (m ≡ length (refused_line r)) × (out₃ ≡ sets out 0 (refused_line r))
      refused_done q e₃ =
          let z = written_done (written_more refused_first (number_field k true) [] (line_last k) q e₃) refl in
          (omega (arith, z.0), z.1)

-- ---- the line of a path

module _ (flow terminal : ℕ) (b : List ℕ) (n : ℕ) (out : List ℕ) (from : ℕ) (some : 1 ≤ n) (l : n ≤ length b)
    (room : from + length (numbers_line (flow ∷ terminal ∷ take n b)) ≤ length out) where
  abbrev whole : List ℕ
  whole = numbers_line (flow ∷ terminal ∷ take n b)

  first_part : whole ≡ number_field flow false ++ numbers_line (terminal ∷ take n b)
  first_part = line_first flow terminal (take n b)

  second_part : numbers_line (terminal ∷ take n b) ≡ number_field terminal false ++ numbers_line (take n b)
  second_part = line_some terminal (take n b) (omega (arith, length-take-le n b l))

  pub line_one : from + length (number_field flow false) ≤ length out
  line_one = written_room (written_none {out₀ = out} room) (number_field flow false) (numbers_line (terminal ∷ take n b)) first_part

  module _ {at₁ : ℕ} {out₁ : List ℕ} (p₁ : at₁ ≡ from + length (number_field flow false)) (e₁ : out₁ ≡ sets out from (number_field flow false)) where
    after_one : Written out from whole out₁ at₁ (numbers_line (terminal ∷ take n b))
    after_one = written_more (written_none room) (number_field flow false) (numbers_line (terminal ∷ take n b)) first_part p₁ e₁

    pub line_two : at₁ + length (number_field terminal false) ≤ length out₁
    line_two = written_room after_one (number_field terminal false) (numbers_line (take n b)) second_part

    module _ {at₂ : ℕ} {out₂ : List ℕ} (p₂ : at₂ ≡ at₁ + length (number_field terminal false)) (e₂ : out₂ ≡ sets out₁ at₁ (number_field terminal false))
      where
        after_two : Written out from whole out₂ at₂ (numbers_line (take n b))
        after_two = written_more after_one (number_field terminal false) (numbers_line (take n b)) second_part p₂ e₂

        pub line_three : at₂ + length (numbers_line (take n b)) ≤ length out₂
        line_three = after_two.room

        pub line_done : {r : ℕ} {out₃ : List ℕ} → r ≡ at₂ + length (numbers_line (take n b)) → out₃ ≡ sets out₂ at₂ (numbers_line (take n b))
            → (r ≡ from + length whole) × (out₃ ≡ sets out from whole)
        line_done p₃ e₃ = written_done (written_more after_two (numbers_line (take n b)) [] (sym (append-nil (numbers_line (take n b)))) p₃ e₃) refl
