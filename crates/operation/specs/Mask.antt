-- 01, "Operation": the persona mask, and refusal 9.
-- Assumes nothing.
use Rattle.std.specs.Prelude.{ℕ, ◌/◌, ◌%◌, ◌^◌, ℤ, Bool, List, eqb}
use Rattle.layout.specs.declared.Header.{Header}
use Rattle.layout.specs.Tables.{operation, mask_of}

-- "bit p is persona p"
abbrev pub in_mask : ℕ → ℕ → Bool
in_mask mask p = eqb (mask / 2 ^ p % 2) 1

-- refusal 9 is given exactly where this is false: persona p is in the mask of operation o
unfoldable pub allowed : List ℤ → Header → ℕ → ℕ → Bool
allowed s h o p = in_mask (mask_of (operation s h o)) p
