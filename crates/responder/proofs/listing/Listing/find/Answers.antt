use Rattle.std.proofs.Common.{sym}
use Rattle.responder.proofs.Asking.{found}
use Rattle.responder.proofs.listing.Listing.find.Goals as goal

pub returns : goal.returns
returns c =
    found c.args.self.rows.now c.args.pair.address c.args.pair.id c.new.result c.args.self.sound (sym (c.in_ok-find_row.ensures.listed c.args.self.sound.order)) c.new.ensures
