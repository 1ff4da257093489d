use Rattle.std.proofs.Common.{◌≡◌, drop}
use Rattle.message.specs.Rows.{part}
use Rattle.message.specs.Sending.{ids_of}
use Rattle.message.specs.Writing.{Left}
use Rattle.message.proofs.listing.Part.put_ids.Given as goal

abbrev pub invariant-loop-k : goal.invariant-loop-k
invariant-loop-k l =
    record {
      bytes : Left l.initial.pen.out.now l.initial.pen.at (ids_of (part l.self.address l.self.on l.rows)) l.pen.at l.pen.out.now
          (ids_of (part l.self.address l.self.on (drop l.k l.rows)));
      same_buffer : l.pen.out.ghost_name ≡ l.initial.pen.out.ghost_name;
    }
