use Rattle.std.proofs.Common.{◌≡◌, ap, arith, subst}
use Rattle.host.specs.Rows.{is_on, look}
use Rattle.message.specs.Messages.{encode}
use Rattle.message.proofs.Places.{and_then, as_bytes}
use Rattle.responder.proofs.Reports.{falls-fit, reports_end}
use Rattle.responder.proofs.Sendings.{length-meant}
use Rattle.responder.proofs.reporting.Reports.write.Goals as goal

pub put_fallen-requires : goal.put_fallen-requires
put_fallen-requires c =
    let me = c.args.self in
    omega (arith, c.told-answer, falls-fit me.own.number me.named.address.byte me.named.id.bytes me.after.rows.now me.before.rows.now me.before.sound.ranges me.few)

pub send-requires : goal.send-requires
send-requires c =
    let me = c.args.self in
    let p = c.put_fallen.ensures.put in
    omega (
      arith,
      c.told-answer,
      p.ends,
      p.long,
      falls-fit me.own.number me.named.address.byte me.named.id.bytes me.after.rows.now me.before.rows.now me.before.sound.ranges me.few,
      length-meant me.own.number c.report.result,
    )

pub returns : goal.returns
returns c =
    let me = c.args.self in
    let on = subst (λ p. c.is_on-on.result ≡ is_on (look me.after.rows.now p.address p.id)) c.pair.ensures c.is_on-on.ensures in
    as_bytes (reports_end me.own.number me.named.address.byte me.named.id.bytes me.before.rows.now me.after.rows.now c.is_on-on.result on)
    (and_then c.put_fallen.ensures.put (as_bytes (ap encode (c.report.ensures me.own.number)) c.send.ensures.put))
