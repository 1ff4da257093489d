-- Which contents make an instrument.
use Rattle.std.specs.Prelude.{◌≡◌, ◌≤◌, true, length}
use Rattle.std.specs.List.{list_all}
use Rattle.rising.specs.Lists.{Rising}
use Rattle.message.specs.Bytes.{is_identity, is_block}
use Rattle.host.specs.Rows.{Sound}
use Rattle.layers.specs.Lists.{member_key, member_ranged}
use Rattle.message.specs.Rows.{pair_key, pair_ranged}
use Rattle.layers.specs.Sets.{AtMostOne}
use Rattle.sheet.specs.Contents.{Contents}

-- Identity and Function Block in range; rows that are a listing; up to 16 members and up to 16 pairs, in range and strictly rising; and at
-- each address at most one row of each set on. A member or a pair need not name a listed row.
pub record Valid (c : Contents) : Type 0 where
  pub identity : is_identity c.identity ≡ true
  pub block : is_block c.block ≡ true
  pub rows : Sound c.rows
  pub members : list_all member_ranged c.members ≡ true
  pub members_rise : Rising member_key c.members
  pub members_few : length c.members ≤ 16
  pub pairs : list_all pair_ranged c.pairs ≡ true
  pub pairs_rise : Rising pair_key c.pairs
  pub pairs_few : length c.pairs ≤ 16
  pub one_on : AtMostOne c.members c.rows
