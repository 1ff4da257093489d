-- Ranges, limits and orders of contents, list by list; and rows of which no two collide, by their places.
use Rattle.std.proofs.Common.{◌≡◌, ℕ, ◌<◌, ◌≤◌, Bool, true, false, List, length, get_or, take}
use Rattle.std.specs.List.{list_all}
use Rattle.rising.specs.Order.{Key}
use Rattle.rising.specs.Lists.{Rising}
use Rattle.message.specs.Bytes.{is_identity, is_block}
use Rattle.message.specs.Rows.{ranged, pair_key, pair_ranged}
use Rattle.message.specs.declared.row.Row.{Row}
use Rattle.host.specs.Rows.{Sound}
use Rattle.host.specs.Tables.{blank}
use Rattle.layers.specs.Lists.{member_key, member_ranged}
use Rattle.layers.specs.declared.member.Member.{Member}
use Rattle.sheet.specs.Contents.{Contents}
use Rattle.sheet.specs.Collisions.{collide, hit}

abbrev pub row_ranged : Row → Bool
row_ranged r = ranged r.address r.id

-- no two rows are on in one set at one address
abbrev pub Apart : List Member → List Row → Type 0
Apart ms rows = (j k : ℕ) → j < k → k < length rows → collide ms (get_or rows k blank) (get_or rows j blank) ≡ false

-- the same by rows: none collides with an earlier one
abbrev pub Clear : List Member → List Row → Type 0
Clear ms rows = (k : ℕ) → k < length rows → hit ms (get_or rows k blank) (take k rows) ≡ false

-- entries in range, rising, and at most 16
pub record Fit {X : Type 0} (in_range : X → Bool) (key : X → Key) (xs : List X) : Type 0 where
  pub ranges : list_all in_range xs ≡ true
  pub order : Rising key xs
  pub few : length xs ≤ 16

pub record Orderly (c : Contents) : Type 0 where
  pub identity : is_identity c.identity ≡ true
  pub block : is_block c.block ≡ true
  pub rows : Sound c.rows
  pub members : Fit member_ranged member_key c.members
  pub pairs : Fit pair_ranged pair_key c.pairs
