-- Words of 32 bits, and their parts.
use Rattle.std.specs.Prelude.{ℕ, ◌+◌, ◌*◌, ◌/◌, ◌%◌, List, [], ◌∷◌}

-- the top four bits
abbrev pub kind : ℕ → ℕ
kind w = w / 268435456

-- the four fields of seven bits below them
abbrev pub first : ℕ → ℕ
first w = w / 2097152 % 128

abbrev pub second : ℕ → ℕ
second w = w / 16384 % 128

abbrev pub third : ℕ → ℕ
third w = w / 128 % 128

abbrev pub fourth : ℕ → ℕ
fourth w = w % 128

-- the 28 bits below the kind, as one number
abbrev pub amount : ℕ → ℕ
amount w = w % 268435456

-- the word with this kind and these fields
abbrev pub word : (k a b c d : ℕ) → ℕ
word k a b c d = k * 268435456 + (a * 2097152 + (b * 16384 + (c * 128 + d)))

-- bytes as words, the highest byte first; bytes of an unfinished word are left out
unfoldable pub words : List ℕ → List ℕ
words [] = []
words (a ∷ []) = []
words (a ∷ b ∷ []) = []
words (a ∷ b ∷ c ∷ []) = []
words (a ∷ b ∷ c ∷ d ∷ bs) = (a * 16777216 + (b * 65536 + (c * 256 + d))) ∷ words bs
