use Rattle.std.proofs.Common.{◌+◌, refl, ◌∙◌}
use Rattle.rising.specs.Slots.{Put}
use Rattle.rising.proofs.Slots.{slots_put, enters_here, take_put}
use Rattle.rising.proofs.put.Goals as goal

pub returns : goal.returns
returns g c =
    let key = g.T.Keyed.key in
    let x = c.args.x in
    let s = c.args.slots.now in
    let n = c.args.count in
    let i = c.args.i in
    let req = c.requires in
    let put : Put x s n (n + 1) _ i = (req.within, req.room, refl, slots_put s n i x c.rotate_right.new.self req.room req.within c.rotate_right.ensures.after) in
    record {
      whole = put;
      value = λ up. take_put key x s n i (n + 1) _ put ∙ enters_here key x s n i req.room (req.gap up);
    }
