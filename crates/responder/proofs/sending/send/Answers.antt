use Rattle.std.proofs.Common.{arith}
use Rattle.message.specs.Messages.{encode}
use Rattle.message.specs.Sending.{meant}
use Rattle.responder.proofs.Sendings.{length-meant, put_fits}
use Rattle.responder.proofs.sending.send.Goals as goal

pub unwrap-requires : goal.unwrap-requires
unwrap-requires c =
    (put_fits (encode (meant c.args.own.number c.args.sent)) _ _ c.write.result (omega (arith, length-meant c.args.own.number c.args.sent)) c.requires c.write.ensures).0

pub returns : goal.returns
returns c =
    (put_fits (encode (meant c.args.own.number c.args.sent)) _ _ c.write.result (omega (arith, length-meant c.args.own.number c.args.sent)) c.requires c.write.ensures).1
