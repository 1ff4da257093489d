-- Rows on in one set at one address.
use Rattle.std.specs.Prelude.{ℕ, ◌+◌, Bool, false, cond, ◌&&◌, ◌||◌, List, [], ◌∷◌, ◌++◌, Some, None, Option, ◌==◌}
use Rattle.message.specs.declared.row.Row.{Row}
use Rattle.layers.specs.declared.member.Member.{Member}
use Rattle.layers.specs.Sets.{together}

-- two rows on, at one address and in one set
abbrev pub collide : List Member → Row → Row → Bool
collide ms r s = (r.on && s.on) && (r.address == s.address && together ms r.id s.id)

-- some row of the list collides with r
abbrev pub hit : List Member → Row → List Row → Bool
hit ms r [] = false
hit ms r (s ∷ ss) = collide ms r s || hit ms r ss

-- the first word of the first row that collides with an earlier one, if the first of the rows begins at the word n
abbrev pub clash : List Member → (n : ℕ) → (earlier rows : List Row) → Option ℕ
clash ms n earlier [] = None
clash ms n earlier (r ∷ rs) = cond (hit ms r earlier) (Some n) (clash ms (n + 2) (earlier ++ r ∷ []) rs)
