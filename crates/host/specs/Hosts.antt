-- What a host means, and what its calls do to that.
use Rattle.std.specs.Prelude.{◌≡◌, ℕ, Bool, true, false, cond, not, ◌&&◌, List, map, length, Some, None, Option, ◌==◌, nat_lt}
use Rattle.std.specs.Str.{bytes_eq}
use Rattle.rising.specs.Lists.{entered}
use Rattle.message.specs.Rows.{row_key, ranged}
use Rattle.message.specs.declared.row.Row.{Row}
use Rattle.host.specs.Rows.{row, same, look, has, without_row, tally, Sound}

-- What a host consents to, by address and ID: that the row goes on, that it goes off, and which other IDs at its address its on puts off.
pub record Consents : Type 0 where
  pub on : ℕ → List ℕ → Bool
  pub off : ℕ → List ℕ → Bool
  pub names : ℕ → List ℕ → List ℕ → Bool

abbrev pub permits : Consents → ℕ → List ℕ → Bool → Bool
permits c a i true = c.on a i
permits c a i false = c.off a i

-- The listing is one; an unlisted row has no consent; a consent to an on names other listed rows at its address, on or off.
pub record Lawful (l : List Row) (c : Consents) : Type 0 where
  pub sound : Sound l
  pub on_listed : (a : ℕ) (i : List ℕ) → c.on a i ≡ true → has l a i ≡ true
  pub off_listed : (a : ℕ) (i : List ℕ) → c.off a i ≡ true → has l a i ≡ true
  pub names_listed : (a : ℕ) (i j : List ℕ) → c.names a i j ≡ true → (c.on a i ≡ true) × (has l a j ≡ true) × (bytes_eq j i ≡ false)

-- there is such a row, and it has the other state
abbrev pub differs : Option Bool → Bool → Bool
differs None on = false
differs (Some true) on = not on
differs (Some false) on = on

-- a switch changes rows exactly if the host consents and the row has the other state
abbrev pub goes : List Row → Consents → ℕ → List ℕ → Bool → Bool
goes l c a i on = permits c a i on && differs (look l a i) on

-- a row after a switch that goes: the named row has the state asked for, an on puts off what its consent names, and no other row moves
abbrev pub turned : ℕ → List ℕ → Bool → (List ℕ → Bool) → Row → Row
turned a i on names r =
    row r.address r.id (cond (same a i r) on (cond (on && (a == r.address && names r.id)) false r.on))

-- what an off of a row leaves to every other row: its consents, and what they name but for the row put off
pub record Kept (a : ℕ) (i : List ℕ) (c c' : Consents) : Type 0 where
  pub on : (b : ℕ) (j : List ℕ) → (a == b && bytes_eq i j) ≡ false → c.on b j ≡ true → c'.on b j ≡ true
  pub off : (b : ℕ) (j : List ℕ) → (a == b && bytes_eq i j) ≡ false → c.off b j ≡ true → c'.off b j ≡ true
  pub names : (b : ℕ) (j k : List ℕ) → (a == b && bytes_eq i j) ≡ false → (a == b && bytes_eq i k) ≡ false → c.on b j ≡ true
      → c'.names b j k ≡ c.names b j k

-- What a switch does: it tells whether a row changed. Where none does, nothing changes; otherwise consents may change with the rows, but an
-- off takes none from another row. Whether rows are fixed never changes.
pub record Switched (l : List Row) (c : Consents) (f : Bool) (a : ℕ) (i : List ℕ) (on : Bool) (l' : List Row) (c' : Consents) (f' answer : Bool) : Type 0 where
  pub told : answer ≡ goes l c a i on
  pub rows : l' ≡ cond (goes l c a i on) (map (turned a i on (c.names a i)) l) l
  pub still : goes l c a i on ≡ false → c' ≡ c
  pub fixed : f' ≡ f
  pub kept : goes l c a i on ≡ true → on ≡ false → Kept a i c c'

-- a plug enters an absent row in range within both limits, where rows are not fixed
abbrev pub plugs : List Row → Bool → ℕ → List ℕ → Bool
plugs l f a i = not f && (ranged a i && (not (has l a i) && (nat_lt (length l) 64 && nat_lt (tally a l) 21)))

-- what a plug does: the row enters as off, at its place
pub record Plugged (l : List Row) (c : Consents) (f : Bool) (a : ℕ) (i : List ℕ) (l' : List Row) (c' : Consents) (f' answer : Bool) : Type 0 where
  pub told : answer ≡ plugs l f a i
  pub rows : l' ≡ cond (plugs l f a i) (entered row_key (row a i false) l) l
  pub still : plugs l f a i ≡ false → c' ≡ c
  pub fixed : f' ≡ f

-- a pull removes a row that is off, where rows are not fixed
abbrev pub pulls : List Row → Bool → ℕ → List ℕ → Bool
pulls l f a i = not f && differs (look l a i) true

pub record Pulled (l : List Row) (c : Consents) (f : Bool) (a : ℕ) (i : List ℕ) (l' : List Row) (c' : Consents) (f' answer : Bool) : Type 0 where
  pub told : answer ≡ pulls l f a i
  pub rows : l' ≡ cond (pulls l f a i) (without_row a i l) l
  pub still : pulls l f a i ≡ false → c' ≡ c
  pub fixed : f' ≡ f
