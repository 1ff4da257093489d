-- What a sheet says of an instrument.
use Rattle.std.specs.Prelude.{ℕ, Bool, true, ◌&&◌, List, [], ◌∷◌, nat_le}
use Rattle.rising.specs.Order.{Key, before}
use Rattle.message.specs.declared.row.Row.{Row}
use Rattle.layers.specs.declared.member.Member.{Member}
use Rattle.message.specs.declared.pair.Pair.{Pair}

-- eleven identity bytes, the Function Block, the rows, the members of sets and the pairs whose rows are held
pub record Contents : Type 0 where
  pub identity : List ℕ
  pub block : ℕ
  pub rows : List Row
  pub members : List Member
  pub pairs : List Pair

-- sets are numbered from 1 to 8
abbrev pub is_set : ℕ → Bool
is_set s = nat_le 1 s && nat_le s 8

-- x comes after the last of the list
abbrev pub after : {X : Type 0} → (X → Key) → List X → X → Bool
after key [] x = true
after key (y ∷ []) x = before (key y) (key x)
after key (y ∷ z ∷ zs) x = after key (z ∷ zs) x
