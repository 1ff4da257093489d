-- What the search of a row tells, by where the row stands.
use Rattle.std.proofs.Common.{◌≡◌, ℕ, List, is_some, Some, None, Option, sym, ap, subst}
use Rattle.rising.specs.Lists.{Rising}
use Rattle.message.specs.Rows.{row_key}
use Rattle.message.specs.declared.row.Row.{Row}
use Rattle.host.specs.Rows.{has, is_there, look}
use Rattle.host.specs.Finding.{state_at}
use Rattle.host.specs.Tables.{Placed, blank}

pub placed-listed : (l : List Row) (a : ℕ) (i : List ℕ) (o : Option ℕ) → Placed l a i o → is_some o ≡ has l a i
placed-listed l a i None h = sym (ap is_there h)
placed-listed l a i (Some k) h = sym (ap is_there (h.1 blank).1)

pub placed_state : (l : List Row) (a : ℕ) (i : List ℕ) (o : Option ℕ) → Placed l a i o → (d : Row) → state_at o l d ≡ look l a i
placed_state l a i None h d = sym h
placed_state l a i (Some k) h d = sym (h.1 d).1

-- what the search tells of the rows that a host lends
pub placed_among : (l m : List Row) (a : ℕ) (i : List ℕ) (o : Option ℕ) → m ≡ l → Rising row_key l → (Rising row_key m → Placed m a i o) → Placed l a i o
placed_among l m a i o e up h = subst (λ (x : List Row). Rising row_key x → Placed x a i o) e h up
