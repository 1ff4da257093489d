use Rattle.std.proofs.Common.{arith}
use Rattle.std.proofs.lemmas.Option.{MatchOption-at_some}
use Rattle.responder.specs.Models.{state_of}
use Rattle.responder.proofs.Switches.{announced}
use Rattle.responder.proofs.responder.Responder.announce.Goals as goal

pub returns : goal.returns
returns g c =
    let me = c.args.self.now in
    let f = MatchOption-at_some _ _ c.in_ok-room.room c.in_ok-room.ensures.ok_part c.first_chunk_mut.ensures.cases in
    let t = announced g.P.Host.listing g.P.Host.consents g.P.Host.fixed g.P.Host.keeps me.identity c.own.result.number (g.P.Host.listing me.host) (state_of me) c.write_one.result _
    c.args.answer.now c.in_ok-room.room.now c.write_one.new.answer c.own.ensures (let h = f.enough in omega arith) f (omega arith) c.write_one.ensures in
    record { does = t.0; rest = t.1 }
