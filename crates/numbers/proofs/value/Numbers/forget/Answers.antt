use Rattle.std.proofs.Common.{◌≤◌, length, arith}
use Rattle.numbers.proofs.Device.{without-in-order}
use Rattle.numbers.proofs.value.Numbers.forget.Goals as goal

pub invariant_of-self : goal.invariant_of-self
invariant_of-self c =
    let was = c.self.invariant.1 in
    let done = c.remove-count.ensures in
    let room : c.self.inside.count ≤ length c.self.inside.others = omega (arith, c.self.invariant.0) in
    let few = done.fits room in
    (omega arith, without-in-order _ _ _ _ was (done.value room was.up) (done.still was.up))
