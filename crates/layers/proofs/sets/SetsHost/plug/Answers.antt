use Rattle.std.proofs.Common.{refl}
use Rattle.layers.specs.Models.{members_of}
use Rattle.layers.proofs.Setting.{setted_plugged}
use Rattle.layers.proofs.Rivals.{enter_one}
use Rattle.layers.proofs.sets.SetsHost.plug.Goals as goal

pub returns : goal.returns
returns g c =
    let ms = members_of c.args.self.now.members in
    let did = c.plug.ensures.does in
    record {
      does = setted_plugged ms _ _ _ _ _ _ _ _ _ did;
      same = (refl, c.plug.ensures.same);
      one = enter_one ms _ _ _ c.args.pair.address c.args.pair.id did.rows;
    }
