use Rattle.std.proofs.Common.{◌≡◌, drop}
use Rattle.responder.specs.Plans.{has_row}
use Rattle.responder.proofs.listing.Listing.has_row.Given as goal

abbrev pub invariant-loop-k : goal.invariant-loop-k
invariant-loop-k l = has_row (drop l.k l.self.rows.now) l.address ≡ has_row l.self.rows.now l.address
