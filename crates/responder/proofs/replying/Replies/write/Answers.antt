use Rattle.std.proofs.Common.{sym, ap, arith}
use Rattle.std.proofs.lemmas.Bool.{ne_eqb}
use Rattle.message.proofs.Places.{as_bytes}
use Rattle.responder.specs.Steps.{lists_bytes}
use Rattle.responder.proofs.Replies.{lists_fit, reply_put, reply_short}
use Rattle.responder.proofs.replying.Replies.write.Goals as goal
use Rattle.responder.proofs.replying.Replies.write.Goals.{then-address-eq127, else-address-eq127}

pub put_every-requires : goal.put_every-requires
put_every-requires c =
    let me = c.args.self in
    omega (arith, c.told-answer, lists_fit me.own.number me.to.number me.listing.rows.now me.listing.sound)

pub put-requires : goal.put-requires
put-requires c =
    let me = c.args.self in
    omega (arith, c.told-answer, reply_short me.own.number me.to.number c.args.address.byte me.listing.rows.now me.listing.sound)

pub returns : goal.returns
returns c =
    let me = c.args.self in
    elim c.if-address-eq127.branch [
      | then-address-eq127 w ↦
          rw w.pen-is (as_bytes (ap (lists_bytes me.own.number me.to.number me.listing.rows.now) (sym w.if-address-eq127.true)) w.put_every.ensures.put)
      | else-address-eq127 w ↦
          rw w.pen-is (reply_put me.own.number me.to.number me.listing.rows.now c.args.address.byte c.args.answer.now 0 w.put.new.pen.at w.put.new.pen.out.now
          (ne_eqb c.args.address.byte 0x7F w.if-address-eq127.false) w.put.ensures.put)
    ]
