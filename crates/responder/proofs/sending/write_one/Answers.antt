use Rattle.message.specs.Sending.{meant}
use Rattle.responder.proofs.Sendings.{one_sends}
use Rattle.responder.proofs.sending.write_one.Goals as goal

pub returns : goal.returns
returns c = one_sends (meant c.args.own.number c.args.sent) c.args.answer.now _ _ c.send.ensures.put
