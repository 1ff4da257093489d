use Rattle.std.proofs.Common.{sym, refl}
use Rattle.responder.proofs.Replies.{none-there}
use Rattle.responder.proofs.replying.Replies.put_if_any.Goals as goal

pub returns-else-has_row : goal.returns-else-has_row
returns-else-has_row c =
    let me = c.args.self in
    record {
      put =
          none-there me.own.number me.to.number me.listing.rows.now c.args.address.byte c.args.pen.now.out.now c.args.pen.now.at
          (sym c.if-has_row.ensures) c.requires;
      same = refl;
    }
