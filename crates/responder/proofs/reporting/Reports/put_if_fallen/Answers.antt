use Rattle.std.proofs.Common.{sym, refl}
use Rattle.responder.proofs.Reports.{none-fell}
use Rattle.responder.proofs.reporting.Reports.put_if_fallen.Goals as goal

pub returns-else-has_fallen : goal.returns-else-has_fallen
returns-else-has_fallen c =
    let me = c.args.self in
    record {
      put =
          none-fell me.own.number me.named.address.byte me.named.id.bytes me.after.rows.now c.args.row c.args.pen.now.out.now c.args.pen.now.at
          (sym c.if-has_fallen.ensures) c.requires.room;
      same = refl;
    }
