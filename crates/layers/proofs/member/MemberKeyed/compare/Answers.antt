use Rattle.rising.proofs.Order.{ranked_from_lex}
use Rattle.layers.proofs.member.MemberKeyed.compare.Goals as goal

pub returns : goal.returns
returns c = ranked_from_lex c.args.self.now.id c.args.other.now.id _ c.cmp.ensures
