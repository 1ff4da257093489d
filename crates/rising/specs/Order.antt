-- Keys are lists of numbers, and one order holds of them all: number by number from the front.
use Rattle.std.specs.Prelude.{◌≡◌, ℕ, Bool, true, false, cond, List, [], ◌∷◌, ◌==◌, nat_lt, bytes_eq}

abbrev pub Key : Type 0
Key = List ℕ

-- the first number that differs decides; a key that ends stands before its continuations
abbrev pub before : Key → Key → Bool
before [] [] = false
before [] (y ∷ ys) = true
before (x ∷ xs) [] = false
before (x ∷ xs) (y ∷ ys) = cond (x == y) (before xs ys) (nat_lt x y)

abbrev pub Before : Key → Key → Type 0
Before x y = before x y ≡ true

-- the keys are equal
abbrev pub same_key : Key → Key → Bool
same_key = bytes_eq
