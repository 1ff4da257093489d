-- The pile of hosts that contents make: sets over holding over table.
use Rattle.std.specs.Prelude.{◌≡◌, List}
use Rattle.message.specs.declared.row.Row.{Row}
use Rattle.host.specs.declared.table.Table.{Table}
use Rattle.host.specs.Hosts.{Consents}
use Rattle.host.specs.Tables.{listed, freely}
use Rattle.layers.specs.declared.holding.Holding.{Holding}
use Rattle.layers.specs.declared.member.Member.{Member}
use Rattle.message.specs.declared.pair.Pair.{Pair}
use Rattle.layers.specs.declared.sets.Sets.{Sets}
use Rattle.layers.specs.Holding.{held}
use Rattle.layers.specs.Models.{members_of, pairs_of}
use Rattle.layers.specs.Sets.{setted, AtMostOne}
use Rattle.sheet.specs.Contents.{Contents}

-- the listing, the members and the pairs of a pile
abbrev pub pile_rows : Sets (Holding Table) → List Row
pile_rows p = listed p.below.below.rows

abbrev pub pile_members : Sets (Holding Table) → List Member
pile_members p = members_of p.members

abbrev pub pile_pairs : Sets (Holding Table) → List Pair
pile_pairs p = pairs_of p.below.pairs

-- its consents: those of a table with these rows but for the held pairs, and with the sets on top
abbrev pub pile_consents : Sets (Holding Table) → Consents
pile_consents p = setted (pile_members p) (pile_rows p) (held (pile_pairs p) (freely (pile_rows p)))

-- The pile means what the contents say, and starts with at most one row of a set on at an address.
pub record Piled (c : Contents) (p : Sets (Holding Table)) : Type 0 where
  pub rows : pile_rows p ≡ c.rows
  pub members : pile_members p ≡ c.members
  pub pairs : pile_pairs p ≡ c.pairs
  pub consents : pile_consents p ≡ setted c.members c.rows (held c.pairs (freely c.rows))
  pub one_on : AtMostOne (pile_members p) (pile_rows p)
