use Rattle.std.proofs.Common.{◌≡◌, drop}
use Rattle.message.specs.Writing.{Left}
use Rattle.responder.specs.Steps.{falls}
use Rattle.responder.proofs.reporting.Reports.put_fallen.Given as goal

abbrev pub invariant-loop-row : goal.invariant-loop-row
invariant-loop-row l = record {
  left :
      Left l.initial.pen.out.now l.initial.pen.at (falls l.self.own.number l.self.named.address.byte l.self.named.id.bytes l.self.after.rows.now l.self.before.rows.now) l.pen.at l.pen.out.now
      (falls l.self.own.number l.self.named.address.byte l.self.named.id.bytes l.self.after.rows.now (drop l.row-index l.self.before.rows.now));
  same : l.pen.out.ghost_name ≡ l.initial.pen.out.ghost_name;
}
