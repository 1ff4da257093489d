use Rattle.std.proofs.Common.{refl, ap}
use Rattle.numbers.specs.Model.{own_of, listed_of}
use Rattle.responder.specs.Actions.{action_plan}
use Rattle.responder.specs.Models.{state_of}
use Rattle.responder.proofs.Replies.{lists_sent}
use Rattle.responder.proofs.Sendings.{done_send}
use Rattle.responder.proofs.responder.Responder.act.Goals as goal

pub returns-in-List : goal.returns-in-List
returns-in-List g c =
    let own = own_of c.args.self.now.numbers in
    let others = listed_of c.args.self.now.numbers in
    let l = g.P.Host.listing c.args.self.now.host in
    let t = lists_sent own c.own-own.result.number c.in-List.to.number c.in-List.address.byte c.of-listing.result.rows.now l c.args.answer.now c.write.new.answer
    c.write.result c.own-own.ensures c.of-listing.ensures c.write.ensures in
    record {
      does =
          done_send g.P.Host.listing g.P.Host.consents g.P.Host.fixed g.P.Host.keeps _ _ own others (state_of c.args.self.now) (state_of c.args.self.now) c.args.answer.now
          _ c.write.new.answer (ap (action_plan c.args.self.now.identity own others l c.args.draw) c.in-List.is) t refl;
      rest = t.rest;
      same = refl;
    }
