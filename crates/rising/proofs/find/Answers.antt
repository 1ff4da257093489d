use Rattle.rising.proofs.Lists.{stands_once}
use Rattle.rising.proofs.find.Goals as goal

pub returns-clause-only : goal.returns-clause-only
returns-clause-only g c = stands_once g.T.Keyed.key c.args.list.now c.args.x.now
