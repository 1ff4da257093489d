-- Rows by their address and Profile ID, and what a listing is.
use Rattle.std.specs.Prelude.{◌≡◌, ℕ, ◌+◌, ◌≤◌, Bool, true, false, cond, not, ◌&&◌, List, [], ◌∷◌, length, Some, None, Option, ◌==◌}
use Rattle.std.specs.List.{filter}
use Rattle.std.specs.Str.{bytes_eq}
use Rattle.rising.specs.Lists.{Rising}
use Rattle.message.specs.Rows.{row_key, all_ranged}
use Rattle.message.specs.declared.row.Row.{Row}

-- the row of that address, ID and state
abbrev pub row : ℕ → List ℕ → Bool → Row
row a i on = record { address = a; id = i; on = on }

-- whether a row is the one with that address and ID
abbrev pub same : ℕ → List ℕ → Row → Bool
same a i r = a == r.address && bytes_eq i r.id

-- the state of the row with that address and ID, if there is one
abbrev pub look : List Row → ℕ → List ℕ → Option Bool
look [] a i = None
look (r ∷ l) a i = cond (same a i r) (Some r.on) (look l a i)

abbrev pub is_there : Option Bool → Bool
is_there None = false
is_there (Some on) = true

abbrev pub is_on : Option Bool → Bool
is_on None = false
is_on (Some on) = on

-- whether the row is listed
abbrev pub has : List Row → ℕ → List ℕ → Bool
has l a i = is_there (look l a i)

-- the rows but that one
abbrev pub without_row : ℕ → List ℕ → List Row → List Row
without_row a i l = filter (λ r. not (same a i r)) l

-- how many rows stand at an address
abbrev pub tally : ℕ → List Row → ℕ
tally a [] = 0
tally a (r ∷ l) = cond (a == r.address) 1 0 + tally a l

-- a listing: at most 64 rows, at most 21 at one address, all in range, strictly rising by address and then by ID bytes
pub record Sound (l : List Row) : Type 0 where
  pub few : length l ≤ 64
  pub each : (a : ℕ) → tally a l ≤ 21
  pub ranges : all_ranged l ≡ true
  pub order : Rising row_key l
