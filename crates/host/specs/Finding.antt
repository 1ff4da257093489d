-- What the search of a row tells.
use Rattle.std.specs.Prelude.{ℕ, ◌<◌, Bool, List, length, Some, None, Option, slice_index_or}
use Rattle.message.specs.declared.row.Row.{Row}

-- the state of the row at that place
abbrev pub state_at : Option ℕ → List Row → Row → Option Bool
state_at None l d = None
state_at (Some k) l d = Some (slice_index_or l k d).on

abbrev pub Within : Option ℕ → List Row → Type 0
Within None l = Unit {0}
Within (Some k) l = k < length l
