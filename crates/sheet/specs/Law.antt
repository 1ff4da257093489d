-- A sheet is accepted exactly if it is the layout of valid contents.
use Rattle.std.specs.Prelude.{◌≡◌, ℕ, ◌<◌, List, slice_index}
use Rattle.sheet.specs.Contents.{Contents}
use Rattle.sheet.specs.Layout.{layout, flat}
use Rattle.sheet.specs.Reading.{accepted, reads}
use Rattle.sheet.specs.Valid.{Valid}

-- each number of the list is a byte
abbrev pub Octets : List ℕ → Type 0
Octets bs = (i : ℕ) → slice_index bs i < 256

-- What is accepted is the layout of valid contents, and every such layout is accepted with these contents. So every valid instrument can be
-- written, what is written reads back as it was, and two sheets of one instrument are the same bytes.
pub record Exactly : Type 0 where
  pub only : (bs : List ℕ) (c : Contents) → Octets bs → reads bs ≡ accepted c → (bs ≡ flat (layout c)) × Valid c
  pub all : (c : Contents) → Valid c → reads (flat (layout c)) ≡ accepted c
