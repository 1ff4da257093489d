-- Lists of records in rising order of their keys.
use Rattle.std.specs.Prelude.{◌≡◌, ℕ, ◌<◌, ◌≤◌, Bool, true, false, cond, ◌&&◌, ◌||◌, List, [], ◌∷◌, length, Some, None, Option, ◌≢◌, nat_lt, slice_index_or}
use Rattle.rising.specs.Order.{Key, before, Before, same_key}

-- x stands before every record of the list
abbrev pub leads : {X : Type 0} → (X → Key) → X → List X → Bool
leads key x [] = true
leads key x (y ∷ ys) = before (key x) (key y) && leads key x ys

-- each record stands before all that follow it, so that each key stands once
abbrev pub rising : {X : Type 0} → (X → Key) → List X → Bool
rising key [] = true
rising key (x ∷ xs) = leads key x xs && rising key xs

abbrev pub Rising : {X : Type 0} → (X → Key) → List X → Type 0
Rising key xs = rising key xs ≡ true

-- some record has x's key
abbrev pub holds : {X : Type 0} → (X → Key) → X → List X → Bool
holds key x [] = false
holds key x (y ∷ ys) = same_key (key y) (key x) || holds key x ys

-- the record with x's key, if there is one
abbrev pub found : {X : Type 0} → (X → Key) → X → List X → Option X
found key x [] = None
found key x (y ∷ ys) = cond (same_key (key y) (key x)) (Some y) (found key x ys)

-- the record at i has x's key
abbrev pub Stands : {X : Type 0} → (X → Key) → X → List X → ℕ → Type 0
Stands {X} key x xs i = (i < length xs) × ((d : X) → key (slice_index_or xs i d) ≡ key x)

-- no record has x's key
abbrev pub Absent : {X : Type 0} → (X → Key) → X → List X → Type 0
Absent {X} key x xs = (k : ℕ) (d : X) → k < length xs → key (slice_index_or xs k d) ≢ key x

-- the first i records stand before x, and the others after it
pub record Gap {X : Type 0} (key : X → Key) (x : X) (xs : List X) (i : ℕ) : Type 0 where
  pub within : i ≤ length xs
  pub low : (k : ℕ) (d : X) → k < i → Before (key (slice_index_or xs k d)) (key x)
  pub high : (k : ℕ) (d : X) → i ≤ k → k < length xs → Before (key x) (key (slice_index_or xs k d))

-- what a search tells that finds x's key at i
pub record FoundAt {X : Type 0} (key : X → Key) (x : X) (xs : List X) (i : ℕ) : Type 0 where
  pub stands : Stands key x xs i
  pub held : Rising key xs → holds key x xs ≡ true
  pub content : Rising key xs → (d : X) → found key x xs ≡ Some (slice_index_or xs i d)

-- and one that finds no place of it, but i as the place where it would be
pub record NotFound {X : Type 0} (key : X → Key) (x : X) (xs : List X) (i : ℕ) : Type 0 where
  pub within : i ≤ length xs
  pub gap : Rising key xs → Gap key x xs i
  pub absent : Rising key xs → Absent key x xs
  pub unheld : Rising key xs → holds key x xs ≡ false
  pub content : Rising key xs → found key x xs ≡ None

-- the list with x at its place; where a record has x's key, the list as it is
abbrev pub entered : {X : Type 0} → (X → Key) → X → List X → List X
entered key x [] = x ∷ []
entered key x (y ∷ ys) = cond (before (key y) (key x)) (y ∷ entered key x ys) (cond (before (key x) (key y)) (x ∷ y ∷ ys) (y ∷ ys))

-- the list with x at its place if it has fewer records than there is room for, and as it is otherwise
abbrev pub entering : {X : Type 0} → ℕ → (X → Key) → X → List X → List X
entering room key x xs = cond (nat_lt (length xs) room) (entered key x xs) xs

-- the list without the record that has x's key
abbrev pub without : {X : Type 0} → (X → Key) → X → List X → List X
without key x [] = []
without key x (y ∷ ys) = cond (same_key (key y) (key x)) (without key x ys) (y ∷ without key x ys)

-- the record that has x's key, as a list of one, or of none
abbrev pub having : {X : Type 0} → (X → Key) → X → List X → List X
having key x [] = []
having key x (y ∷ ys) = cond (same_key (key y) (key x)) (y ∷ having key x ys) (having key x ys)
