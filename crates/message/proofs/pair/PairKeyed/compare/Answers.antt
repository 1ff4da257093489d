use Rattle.std.proofs.Common.{◌∷◌}
use Rattle.rising.proofs.Order.{ranked_from_lex}
use Rattle.message.proofs.pair.PairKeyed.compare.Goals as goal

pub returns : goal.returns
returns c =
    let a = c.args.self.now in
    let b = c.args.other.now in
    ranked_from_lex (a.address ∷ a.id) (b.address ∷ b.id) _ c.cmp.ensures
