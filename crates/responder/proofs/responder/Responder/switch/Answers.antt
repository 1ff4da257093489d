use Rattle.std.proofs.Common.{refl, subst}
use Rattle.host.specs.Hosts.{Switched}
use Rattle.numbers.specs.Model.{own_of, listed_of}
use Rattle.responder.specs.Models.{state_of}
use Rattle.responder.proofs.Switches.{copied, copied-few, reports_sent, turned_by}
use Rattle.responder.proofs.responder.Responder.switch.Goals as goal

pub invariant_of-reports : goal.invariant_of-reports
invariant_of-reports g c =
    let h = c.args.self.now.host in
    let h' = c.switch.new.self in
    let does =
    subst (λ p. Switched (g.P.Host.listing h) (g.P.Host.consents h) (g.P.Host.fixed h) p.address p.id c.args.on (g.P.Host.listing h') (g.P.Host.consents h') (g.P.Host.fixed h') c.switch.result)
    c.pair.ensures c.switch.ensures.does in
    let e = copied c.of-listed.result.rows.now c.copy-copy.result (g.P.Host.listing h) c.copy-copy.ensures c.of-listed.ensures in
    record {
      few =
          copied-few (g.P.Host.listing h) (g.P.Host.consents h) (g.P.Host.fixed h) c.args.named.address.byte c.args.named.id.bytes c.args.on (g.P.Host.listing h') (g.P.Host.consents h')
          (g.P.Host.fixed h') c.switch.result _ _ e c.of-after.ensures (g.P.Host.lawful h).sound does;
    }

pub returns : goal.returns
returns g c =
    let h = c.args.self.now.host in
    let h' = c.switch.new.self in
    let does =
    subst (λ p. Switched (g.P.Host.listing h) (g.P.Host.consents h) (g.P.Host.fixed h) p.address p.id c.args.on (g.P.Host.listing h') (g.P.Host.consents h') (g.P.Host.fixed h') c.switch.result)
    c.pair.ensures c.switch.ensures.does in
    let own = own_of c.args.self.now.numbers in
    let e = copied c.of-listed.result.rows.now c.copy-copy.result (g.P.Host.listing h) c.copy-copy.ensures c.of-listed.ensures in
    let t = reports_sent own c.own-own.result.number c.args.named.address.byte c.args.named.id.bytes _ _ (g.P.Host.listing h) (g.P.Host.listing h') c.args.answer.now
    c.write.new.answer c.write.result c.own-own.ensures e c.of-after.ensures c.write.ensures in
    record {
      does =
          turned_by g.P.Host.listing g.P.Host.consents g.P.Host.fixed g.P.Host.keeps c.args.named.address.byte c.args.named.id.bytes c.args.on (state_of c.args.self.now)
          (record { own = own; others = listed_of c.args.self.now.numbers; host = h' }) c.switch.result c.args.answer.now c.write.new.answer c.write.result refl refl
          does c.switch.ensures.same t;
      rest = t.rest;
      same = refl;
    }
