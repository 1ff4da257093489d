use Rattle.std.proofs.Common.{rules}
use Rattle.message.proofs.Parts.{no_row}
use Rattle.responder.proofs.Asking.{found_on}
use Rattle.responder.proofs.listing.Listing.is_on.Goals as goal

pub returns : goal.returns
returns c =
    found_on c.find_row.result c.args.self.rows.now c.args.pair.address c.args.pair.id _ (c.find_row.ensures.state c.args.self.sound.order no_row) c.is_some_and.ensures
    (λ k h. search rules)
