-- What a reader expects of lists in rising order, before and after a call.
use Rattle.std.specs.Prelude.{◌≡◌, ℕ, ◌+◌, ◌<◌, ◌≤◌, true, false, List, length, Some, None, ◌≢◌}
use Rattle.rising.specs.Order.{Key}
use Rattle.rising.specs.Lists.{Rising, holds, found}

-- xs became ys when x was entered, with room for so many
pub record Enters {X : Type 0} (key : X → Key) (room : ℕ) (x : X) (xs ys : List X) : Type 0 where
  -- with room, a record whose key was not there is found from then on, and the list is longer by one
  pub arrives : length xs < room → holds key x xs ≡ false → (found key x ys ≡ Some x) × (length ys ≡ length xs + 1)
  -- otherwise nothing changes
  pub full : room ≤ length xs → ys ≡ xs
  pub there : holds key x xs ≡ true → ys ≡ xs
  -- every other key is found as before
  pub others : (z : X) → (key z ≢ key x) → found key z ys ≡ found key z xs
  pub still : Rising key ys

-- xs became ys when the record with x's key was removed
pub record Leaves {X : Type 0} (key : X → Key) (x : X) (xs ys : List X) : Type 0 where
  -- the key is not found from then on
  pub gone : found key x ys ≡ None
  -- the list is shorter by one if the key was there, and nothing changes otherwise
  pub shorter : holds key x xs ≡ true → length ys + 1 ≡ length xs
  pub absent : holds key x xs ≡ false → ys ≡ xs
  -- every other key is found as before
  pub others : (z : X) → (key z ≢ key x) → found key z ys ≡ found key z xs
  pub still : Rising key ys
