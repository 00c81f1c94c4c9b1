-- 02, CR 4: "two units being taken to the smaller, the result's too, a day being 24 hours". The smaller unit's type has the greater number.
-- Assumes nothing.
use Rattle.std.specs.Prelude.{ℕ, ◌*◌, max, ℤ, pos, ◌*ℤ◌, cond, ◌&&◌, leb, ltb}
use Rattle.item.specs.Sorts.{is_duration}

-- n where the way from type u to type v leads past type k, else 1
unfoldable pub crossed : ℕ → ℕ → ℕ → ℕ → ℕ
crossed k n u v = cond (leb u k && ltb k v) n 1

-- how many of the unit of type v one of the unit of type u is: a day is 24 hours, an hour 60 minutes, a minute 60 seconds
unfoldable pub factor : ℕ → ℕ → ℕ
factor u v = crossed 258 24 u v * crossed 259 60 u v * crossed 260 60 u v

-- the type that a value of type a has beside one of type b: of two durations the smaller unit's; every other type stays
unfoldable pub shared : ℕ → ℕ → ℕ
shared a b = cond (is_duration a && is_duration b) (max a b) a

-- a value of type a beside one of type b
unfoldable pub converted : ℕ → ℕ → ℤ → ℤ
converted a b v = v *ℤ pos (factor a (shared a b))
