use Rattle.std.proofs.Common.{ℕ, ◌-◌, ◌<◌, ◌≤◌, length, get_or}
use Rattle.rising.specs.Order.{Before}
use Rattle.rising.specs.Lists.{Rising}
use Rattle.rising.proofs.search.Given as goal

abbrev pub invariant-loop-low : goal.invariant-loop-low
invariant-loop-low g l =
    let key = g.T.Keyed.key in
    (l.low ≤ l.high)
    × (l.high ≤ length l.list)
    × (Rising key l.list → (k : ℕ) (d : _) → k < l.low → Before (key (get_or l.list k d)) (key l.x))
    × (Rising key l.list → (k : ℕ) (d : _) → l.high ≤ k → k < length l.list → Before (key l.x) (key (get_or l.list k d)))

abbrev pub decreases-loop-low : goal.decreases-loop-low
decreases-loop-low g l = l.high - l.low
