-- What the lists of layers mean: their entries in use.
use Rattle.std.specs.Prelude.{List, take}
use Rattle.message.specs.declared.pair.Pair.{Pair}
use Rattle.layers.specs.declared.member.Member.{Member}
use Rattle.layers.specs.declared.entries.Entries.{Entries}
use Rattle.layers.specs.declared.sets.Sets.{Sets}

abbrev pub pairs_of : {k : _} {r : _} → Entries Pair k r → List Pair
pairs_of p = take p.count p.slots

abbrev pub members_of : {k : _} {r : _} → Entries Member k r → List Member
members_of m = take m.count m.slots

-- the members of a layer's sets
abbrev pub set_members : {X : Type 0} → Sets X → List Member
set_members s = members_of s.members
