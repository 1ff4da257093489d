use Rattle.std.proofs.Common.{refl, sym}
use Rattle.layers.specs.Models.{pairs_of}
use Rattle.layers.proofs.Withholding.{held_switched}
use Rattle.layers.proofs.holding.HoldingHost.switch.Goals as goal

pub returns-then-not-contains : goal.returns-then-not-contains
returns-then-not-contains g c =
    record {
      does = held_switched (pairs_of c.args.self.now.pairs) _ _ _ _ _ _ _ _ _ _ (sym c.if-not-contains.ensures) c.switch.ensures.does;
      same = (refl, c.switch.ensures.same);
    }
