-- Slots of which the first n are in use: what a call leaves in all of them, whatever they held and in whatever order.
use Rattle.std.specs.Prelude.{◌≡◌, ℕ, ◌+◌, ◌<◌, ◌≤◌, ◌⊎◌, List, ◌++◌, length, take, drop, slice_index_or}
use Rattle.std.specs.List.{insert, remove}
use Rattle.rising.specs.Order.{Key}

-- nothing changed
abbrev pub Kept : {X : Type 0} → List X → ℕ → ℕ → List X → Type 0
Kept s n r s' = (r ≡ n) × (s' ≡ s)

-- x was put at i among those in use, and those from i on moved up by one; the slots past them stay
abbrev pub Put : {X : Type 0} → X → List X → ℕ → ℕ → List X → ℕ → Type 0
Put x s n r s' i = (i ≤ n) × (n < length s) × (r ≡ n + 1) × (s' ≡ insert (take n s) i x ++ drop (n + 1) s)

-- a record with x's key, at i, was taken out, and those after it moved down by one; it lies in the slot that came free, and the slots past it stay
abbrev pub Taken : {X : Type 0} → (X → Key) → X → List X → ℕ → ℕ → List X → ℕ → Type 0
Taken {X} key x s n r s' i =
    (i < n) × (n ≤ length s) × (r + 1 ≡ n) × ((d : X) → key (slice_index_or s i d) ≡ key x) × (s' ≡ remove (take n s) i ++ (take 1 (drop i s) ++ drop n s))

abbrev pub KeptOrPut : {X : Type 0} → X → List X → ℕ → ℕ → List X → Type 0
KeptOrPut x s n r s' = Kept s n r s' ⊎ ((i : ℕ) × Put x s n r s' i)

abbrev pub KeptOrTaken : {X : Type 0} → (X → Key) → X → List X → ℕ → ℕ → List X → Type 0
KeptOrTaken key x s n r s' = Kept s n r s' ⊎ ((i : ℕ) × Taken key x s n r s' i)
