-- Where the path that follows a buffer's path leaves it: what `seek` finds.
-- Assumes nothing.
use Rattle.std.specs.Prelude.{◌≡◌, false, List, ◌∷◌, ◌++◌, ℕ, ◌+◌, ℤ, length, get_or, take, Option, None, Some, Result, Ok, Err}
use Rattle.answer.specs.declared.Refusal.{Refusal}
use Rattle.layout.specs.declared.Header.{Header}
use Rattle.walks.specs.declared.Walker.{Walker}
use Rattle.walks.specs.Paths.{RouteOf, paths}
use Rattle.walks.specs.Walkers.{taken}
use Rattle.walks.specs.Inner.{first_way, Going}
use Rattle.walks.specs.Follows.{Following, Final, Then, following}
use Rattle.listing.specs.Calls.{next_walk, next_laid}

-- the route that the buffer has where the walker stands, and the one after it
abbrev pub route_at : List ℕ → Walker → ℕ
route_at b w = get_or b w.length 0

abbrev pub turn_route : List ℕ → Walker → ℕ
turn_route b w = route_at b w + 1

-- the buffer's routes before the walker, that route, and first routes from there
unfoldable pub turned : List ℤ → Header → List ℕ → Walker → List ℕ
turned s h b w = take w.length b ++ turn_route b w ∷ first_way s h (taken s h w (turn_route b w))

-- what follows, where the buffer begins with a path
unfoldable pub turning : List ℤ → Header → List ℕ → Option Walker → Following
turning s h b None = Final
turning s h b (Some w) = Then (turned s h b w)

-- the walker is on its way, and its step has that route
pub record Turnable (s : List ℤ) (h : Header) (b : List ℕ) (w : Walker) : Type 0 where
  pub going : Going s h w (length b)
  pub on : w.finished ≡ false
  pub route : RouteOf s h w.step (turn_route b w)

abbrev pub CanTurn : List ℤ → Header → List ℕ → Option Walker → Type 0
CanTurn s h b None = Unit {0}
CanTurn s h b (Some w) = Turnable s h b w

-- what follows the path at the buffer's head leaves it at the walker
pub record TurnsAt (s : List ℤ) (h : Header) (f : ℕ) (b : List ℕ) (w : Walker) : Type 0 where
  pub follows : following (paths s h f) b ≡ Then (turned s h b w)
  pub can : Turnable s h b w

-- what is found is where the path that follows leaves the buffer's, or the refusal that next answers, which leaves the buffer as it is
abbrev pub Sought : List ℤ → Header → ℕ → List ℕ → Result Walker Refusal → Type 0
Sought s h f b (Ok w) = TurnsAt s h f b w
Sought s h f b (Err r) = (Err r ≡ next_walk s h f b) × (b ≡ next_laid s h f b)
