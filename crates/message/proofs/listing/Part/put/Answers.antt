use Rattle.std.proofs.Common.{◌≡◌, ℕ, ◌/◌, ◌%◌, List, [], ◌∷◌, ◌++◌, length, rules}
use Rattle.message.specs.Sending.{ids_of, counted}
use Rattle.message.specs.declared.row.Row.{Row}
use Rattle.message.proofs.Places.{and_then, as_bytes}
use Rattle.message.proofs.listing.Part.put.Goals as goal

together : (n : ℕ) (rows : List Row) → n ≡ length rows → (n % 0x80 ∷ n / 0x80 ∷ []) ++ ids_of rows ≡ counted rows
together n rows e = rw e

pub returns : goal.returns
returns c = record { put = as_bytes (together _ _ c.count-count.ensures.value) (and_then c.put.ensures.put c.put_ids.ensures.put); same = search rules }
