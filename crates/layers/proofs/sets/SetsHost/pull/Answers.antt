use Rattle.std.proofs.Common.{refl}
use Rattle.layers.specs.Models.{members_of}
use Rattle.layers.proofs.Setting.{setted_pulled}
use Rattle.layers.proofs.Rivals.{remove_one}
use Rattle.layers.proofs.sets.SetsHost.pull.Goals as goal

pub returns : goal.returns
returns g c =
    let ms = members_of c.args.self.now.members in
    let did = c.pull.ensures.does in
    record {
      does = setted_pulled ms _ _ _ _ _ _ _ _ _ did;
      same = (refl, c.pull.ensures.same);
      one = remove_one ms _ _ _ c.args.pair.address c.args.pair.id did.rows;
    }
