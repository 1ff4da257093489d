-- The two hosts keep the rules of hosts. Their ghost member `lawful` cites this.
use Rattle.std.specs.Prelude.{◌≡◌, ℕ, ◌≤◌, true, List, refl}
use Rattle.std.proofs.Common.{arith}
use Rattle.std.proofs.lemmas.List.{length-take}
use Rattle.std.proofs.lemmas.Bool.{both_ways}
use Rattle.rising.specs.Lists.{Rising}
use Rattle.message.specs.Rows.{row_key, all_ranged}
use Rattle.message.specs.declared.row.Row.{Row}
use Rattle.host.specs.declared.rows.Rows.{Rows}
use Rattle.host.specs.Rows.{tally, Sound}
use Rattle.host.specs.Hosts.{Lawful}
use Rattle.host.specs.Tables.{listed, freely, never}

-- what a table keeps of its rows makes them a listing
pub sound-listed : (t : Rows) → t.count ≤ 64 → ((a : ℕ) → tally a (listed t) ≤ 21) → all_ranged (listed t) ≡ true → Rising row_key (listed t) → Sound (listed t)
sound-listed t within each ranges order =
    record { few = omega (arith, length-take t.count t.slots); each = each; ranges = ranges; order = order }

pub freely_lawful : (l : List Row) → Sound l → Lawful l (freely l)
freely_lawful l s =
    record { sound = s; on_listed = λ a i h. h; off_listed = λ a i h. h; names_listed = λ a i j h. absurd (both_ways _ refl h) }

pub never_lawful : (l : List Row) → Sound l → Lawful l never
never_lawful l s =
    record {
      sound = s;
      on_listed = λ a i h. absurd (both_ways _ refl h);
      off_listed = λ a i h. absurd (both_ways _ refl h);
      names_listed = λ a i j h. absurd (both_ways _ refl h);
    }
