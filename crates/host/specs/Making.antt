-- From which rows a host is made, and what is said of others.
use Rattle.std.specs.Prelude.{◌≡◌, Bool, cond, not, ◌||◌, List, length, Some, None, Option, nat_lt}
use Rattle.std.specs.List.{list_any}
use Rattle.rising.specs.Lists.{rising}
use Rattle.message.specs.Rows.{row_key, all_ranged}
use Rattle.message.specs.declared.row.Row.{Row}
use Rattle.message.specs.declared.refusal.Refusal.{Refusal}
use Rattle.message.specs.declared.refusal.Refusal.TheVariants.{FieldOutOfRange, NotRising}
use Rattle.host.specs.Rows.{tally, Sound}

-- more than 21 rows stand at the address of one of them
abbrev pub crowded : List Row → Bool
crowded l = list_any (λ r. nat_lt 21 (tally r.address l)) l

-- more than 64 rows, or not strictly rising, or more than 21 at one address
abbrev pub disordered : List Row → Bool
disordered l = nat_lt 64 (length l) || (not (rising row_key l) || crowded l)

-- what is said of rows that make no host: a row out of range comes first, then the order and the limits
abbrev pub fault : List Row → Option Refusal
fault l = cond (not (all_ranged l)) (Some FieldOutOfRange) (cond (disordered l) (Some NotRising) None)

-- nothing is said exactly of listings
pub record Exact (l : List Row) : Type 0 where
  pub faultless : fault l ≡ None → Sound l
  pub sound : Sound l → fault l ≡ None
