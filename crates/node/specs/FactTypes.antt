-- 01, "Fact", and 02, CR 4: one row for each type: 0 Bool, 1 Int, 2 Enum, 3 Money, 4 Duration.
-- Assumes nothing.
use Rattle.std.specs.Prelude.{ℕ, ◌+◌, ℤ, pos, Bool, false, ◌&&◌, [], ◌∷◌, get_or, leb, eqb}
use Rattle.std.specs.Int.Signed.{le_z}
use Rattle.signed.specs.Words.{eq_z, within, bounded}

pub record FactType : Type 0 where
  pub bounds : ℤ → ℤ → Bool  -- its min and max are as the type wants them
  pub takes_set : ℕ → Bool  -- so is its value set
  pub sort : ℕ → ℕ  -- the type of its values, from its value set

-- 0, 1; the set is 0
abbrev pub bool_fact : FactType
bool_fact = record { bounds = λ min max. eq_z min (pos 0) && eq_z max (pos 1); takes_set = λ t. eqb t 0; sort = λ t. 0 }

-- a type of numbers: −M ≤ min ≤ max ≤ M; the set is at most m, and is added to t
abbrev pub number_fact : ℕ → ℕ → FactType
number_fact t m =
    record { bounds = λ min max. bounded min && le_z min max && bounded max; takes_set = λ u. leb u m; sort = λ u. t + u }

-- the set is 0
abbrev pub int_fact : FactType
int_fact = number_fact 1 0

-- min 0, max 0..255; the set is 0..127
abbrev pub enum_fact : FactType
enum_fact = record { bounds = λ min max. eq_z min (pos 0) && within (pos 0) max (pos 255); takes_set = λ t. leb t 127; sort = λ t. 2 + t }

-- the set is a currency, 0..127
abbrev pub money_fact : FactType
money_fact = number_fact 130 127

-- the set is a unit, 0..3
abbrev pub duration_fact : FactType
duration_fact = number_fact 258 3

abbrev pub unknown_fact : FactType
unknown_fact = record { bounds = λ min max. false; takes_set = λ t. false; sort = λ t. 0 }

unfoldable pub fact_type_of : ℕ → FactType
fact_type_of n = get_or (bool_fact ∷ int_fact ∷ enum_fact ∷ money_fact ∷ duration_fact ∷ []) n unknown_fact
