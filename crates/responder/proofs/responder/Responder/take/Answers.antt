use Rattle.std.proofs.Common.{length, Ok, Err, refl, arith}
use Rattle.std.proofs.lemmas.Result.{err_from_is_err_and}
use Rattle.numbers.specs.Model.{own_of, listed_of}
use Rattle.std.proofs.lemmas.Option.{MatchOption-at_some}
use Rattle.responder.specs.Models.{state_of}
use Rattle.responder.proofs.Sendings.{in_front, front_kept}
use Rattle.responder.proofs.Switches.{taken_as, refused_by, acted}
use Rattle.responder.proofs.responder.Responder.take.Goals as goal

pub returns-in_err-action : goal.returns-in_err-action
returns-in_err-action g c =
    let me = c.args.self.now in
    let f = MatchOption-at_some _ _ c.in_ok-room.room c.in_ok-room.ensures.ok_part c.first_chunk_mut.ensures.cases in
    let p = err_from_is_err_and c.from_residual-in_err-action.result c.from_residual-in_err-action.ensures.1 in
    let e = taken_as me.identity (own_of me.numbers) c.own-own.result.number (listed_of me.numbers) (g.P.Host.listing me.host) c.of.result.rows.now c.args.draw
    (length c.args.answer.now) c.args.message.now (Err c.in_err-action.field-0.0) c.own-own.ensures c.of.ensures (let h = f.enough in omega arith)
    (c.in_err-action.ensures me.identity (listed_of me.numbers) c.args.draw) in
    let k = front_kept _ c.args.answer.now c.in_ok-room.room.now f in
    let r = refused_by g.P.Host.listing g.P.Host.consents g.P.Host.fixed g.P.Host.keeps _ (state_of me) c.in_err-action.field-0.0 p.0 c.from_residual-in_err-action.result c.args.answer.now _ e p.1 p.2 k in
    record { does = r.0; rest = r.1; same = refl }

pub returns : goal.returns
returns g c =
    let me = c.args.self.now in
    let f = MatchOption-at_some _ _ c.in_ok-room.room c.in_ok-room.ensures.ok_part c.first_chunk_mut.ensures.cases in
    let e = taken_as me.identity (own_of me.numbers) c.own-own.result.number (listed_of me.numbers) (g.P.Host.listing me.host) c.of.result.rows.now c.args.draw
    (length c.args.answer.now) c.args.message.now (Ok c.in_ok-action.action) c.own-own.ensures c.of.ensures (let h = f.enough in omega arith)
    (c.in_ok-action.ensures me.identity (listed_of me.numbers) c.args.draw) in
    let t = in_front g.P.Host.listing g.P.Host.consents g.P.Host.fixed g.P.Host.keeps _ (state_of me) (state_of c.act.new.self) c.act.result _ c.args.answer.now c.in_ok-room.room.now c.act.new.answer
    f (omega arith) (acted g.P.Host.listing g.P.Host.consents g.P.Host.fixed g.P.Host.keeps _ _ _ _ _ e c.act.ensures.does) c.act.ensures.rest in
    record { does = t.0; rest = t.1; same = c.act.ensures.same }
