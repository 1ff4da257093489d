-- How contents are written as a sheet.
use Rattle.std.specs.Prelude.{ℕ, ◌+◌, ◌*◌, ◌/◌, ◌%◌, cond, List, [], ◌∷◌, ◌++◌, length, slice_index}
use Rattle.message.specs.declared.row.Row.{Row}
use Rattle.layers.specs.declared.member.Member.{Member}
use Rattle.message.specs.declared.pair.Pair.{Pair}
use Rattle.sheet.specs.Words.{word}
use Rattle.sheet.specs.Contents.{Contents}

-- an entry's two words: its kind, a head and three ID bytes; then kind 5, two ID bytes, 0 and a mark
abbrev pub two_words : (k head : ℕ) → List ℕ → (mark : ℕ) → List ℕ
two_words k head id mark =
    word k head (slice_index id 0) (slice_index id 1) (slice_index id 2) ∷ word 5 (slice_index id 3) (slice_index id 4) 0 mark ∷ []

abbrev pub row_words : Row → List ℕ
row_words r = two_words 4 r.address r.id (cond r.on 1 0)

abbrev pub member_words : Member → List ℕ
member_words m = two_words 6 m.set m.id 0

abbrev pub pair_words : Pair → List ℕ
pair_words p = two_words 7 p.address p.id 0

-- the words of a list, one after another
abbrev pub laid : {X : Type 0} → (X → List ℕ) → List X → List ℕ
laid f [] = []
laid f (x ∷ xs) = f x ++ laid f xs

-- identity and Function Block
abbrev pub head_words : List ℕ → ℕ → List ℕ
head_words i b =
    word 1 (slice_index i 0) (slice_index i 1) (slice_index i 2) (slice_index i 3)
    ∷ word 2 (slice_index i 4) (slice_index i 5) (slice_index i 6) (slice_index i 7)
    ∷ word 3 (slice_index i 8) (slice_index i 9) (slice_index i 10) b
    ∷ []

-- all words but the closing one
abbrev pub so_far : Contents → List ℕ
so_far c = head_words c.identity c.block ++ (laid row_words c.rows ++ (laid member_words c.members ++ laid pair_words c.pairs))

-- the closing word counts those before it
abbrev pub layout : Contents → List ℕ
layout c = so_far c ++ ((8 * 268435456 + length (so_far c)) ∷ [])

-- words as bytes, the highest first
unfoldable pub flat : List ℕ → List ℕ
flat [] = []
flat (w ∷ ws) = w / 16777216 ∷ w / 65536 % 256 ∷ w / 256 % 256 ∷ w % 256 ∷ flat ws
