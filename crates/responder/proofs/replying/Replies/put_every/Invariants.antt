use Rattle.std.proofs.Common.{◌≡◌, drop}
use Rattle.message.specs.Writing.{Left}
use Rattle.responder.proofs.Replies.{places, replies_from}
use Rattle.responder.proofs.replying.Replies.put_every.Given as goal

abbrev pub invariant-loop-channel : goal.invariant-loop-channel
invariant-loop-channel l = record {
  left :
      Left l.initial.pen.out.now l.initial.pen.at (replies_from l.self.own.number l.self.to.number l.self.listing.rows.now places) l.pen.at l.pen.out.now
      (replies_from l.self.own.number l.self.to.number l.self.listing.rows.now (drop l.channel places));
  same : l.pen.out.ghost_name ≡ l.initial.pen.out.ghost_name;
}
