use Rattle.std.proofs.Common.{◌≡◌, ◌+◌, ◌*◌, ◌≤◌, length, drop}
use Rattle.message.specs.Rows.{part}
use Rattle.message.specs.Sending.{ids_of}
use Rattle.message.proofs.listing.Part.count.Given as goal

abbrev pub invariant-loop-k : goal.invariant-loop-k
invariant-loop-k l =
    (l.count + length (part l.self.address l.self.on (drop l.k l.rows)) ≡ length (part l.self.address l.self.on l.rows))
    × (5 * l.count + length (ids_of (part l.self.address l.self.on (drop l.k l.rows))) ≡ length (ids_of (part l.self.address l.self.on l.rows)))
    × (l.count ≤ l.k)
