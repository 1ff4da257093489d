-- What the search tells of a list.
use Rattle.std.proofs.Common.{ℕ, ◌≤◌, List, length}
use Rattle.rising.specs.Order.{Key}
use Rattle.rising.specs.Lists.{Rising, Stands, Absent, Gap, FoundAt, NotFound}
use Rattle.rising.proofs.Lists.{absent_from_gap, found_absent, found_stands, holds_absent, holds_stands}

module _ {X : Type 0} (key : X → Key) (x : X) (xs : List X) where
  pub found_at : (i : ℕ) → Stands key x xs i → FoundAt key x xs i
  found_at i s = record { stands = s; held = λ _. holds_stands key xs x i s; content = λ up d. found_stands key xs x i d up s }

  pub not_found : (i : ℕ) → i ≤ length xs → (Rising key xs → Gap key x xs i) → NotFound key x xs i
  not_found i w gap =
      let absent : Rising key xs → Absent key x xs = λ up. absent_from_gap key xs x i (gap up) in
      record {
        within = w;
        gap = gap;
        absent = absent;
        unheld = λ up. holds_absent key xs x (absent up);
        content = λ up. found_absent key xs x (absent up);
      }
