-- Rows of a listing, and those of them at one address.
use Rattle.std.specs.Prelude.{ℕ, Bool, true, false, not, ◌&&◌, List, ◌∷◌, ◌==◌}
use Rattle.std.specs.List.{filter, list_all}
use Rattle.rising.specs.Order.{Key}
use Rattle.message.specs.Bytes.{is_address, is_id}
use Rattle.message.specs.declared.pair.Pair.{Pair}
use Rattle.message.specs.declared.row.Row.{Row}
use Rattle.message.specs.declared.listing.Part.{Part}

-- the pair of an address and an ID
abbrev pub paired : ℕ → List ℕ → Pair
paired a i = record { address = a; id = i }

-- what names a row
abbrev pub pair_of : Row → Pair
pair_of r = paired r.address r.id

-- the row that a pair names, on or off
abbrev pub named : Pair → Bool → Row
named p on = record { address = p.address; id = p.id; on = on }

-- pairs stand in the order of their addresses, and at one address of their ID bytes
abbrev pub pair_key : Pair → Key
pair_key p = p.address ∷ p.id

-- rows stand in the order of their pairs
abbrev pub row_key : Row → Key
row_key r = r.address ∷ r.id

abbrev pub agree : Bool → Bool → Bool
agree true b = b
agree false b = not b

-- whether a row stands at the address, and is on, or off, as asked
abbrev pub stands : ℕ → Bool → Row → Bool
stands a on r = r.address == a && agree r.on on

-- the rows at the address that are on, or off, in the listing's order
abbrev pub part : ℕ → Bool → List Row → List Row
part a on l = filter (stands a on) l

abbrev pub rows_of : Part → List Row
rows_of p = part p.address p.on p.rows.now

-- a row in range
abbrev pub ranged : ℕ → List ℕ → Bool
ranged a i = is_address a && is_id i

-- a pair in range
abbrev pub pair_ranged : Pair → Bool
pair_ranged p = ranged p.address p.id

-- rows in range
abbrev pub all_ranged : List Row → Bool
all_ranged l = list_all (λ r. ranged r.address r.id) l
