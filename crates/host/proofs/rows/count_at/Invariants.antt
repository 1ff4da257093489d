use Rattle.std.proofs.Common.{◌≡◌, ◌+◌, ◌≤◌, drop}
use Rattle.host.specs.Rows.{tally}
use Rattle.host.proofs.rows.count_at.Given as goal

abbrev pub invariant-loop-row : goal.invariant-loop-row
invariant-loop-row l = (l.count + tally l.address (drop l.row-index l.rows) ≡ tally l.address l.rows) × (l.count ≤ l.row-index)
