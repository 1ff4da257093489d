use Rattle.message.specs.Sending.{discover, invalidate}
use Rattle.responder.proofs.Sendings.{two_send}
use Rattle.responder.proofs.sending.write_new_number.Goals as goal

pub returns : goal.returns
returns c =
    two_send (invalidate c.args.old.number c.args.old.number) (discover c.args.identity c.args.own.number) c.args.answer.now _ _ _ _
    c.send.ensures.put c.send-2.ensures.put
