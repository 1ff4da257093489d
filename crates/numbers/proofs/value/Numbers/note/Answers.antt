use Rattle.std.proofs.Common.{◌≡◌, true, sym, subst, arith}
use Rattle.numbers.specs.Device.{other}
use Rattle.numbers.proofs.Device.{entering-in-order}
use Rattle.numbers.proofs.value.Numbers.note.Goals as goal

pub invariant_of-self : goal.invariant_of-self
invariant_of-self c =
    let was = c.self.invariant.1 in
    let done = c.enter-count.ensures in
    let few = done.fits (omega (arith, c.self.invariant.0)) in
    let goes : other c.self.inside.own c.args.number ≡ true = subst (λ k. other k.own c.args.number ≡ true) (sym c.self.view_is) (sym c.if-is_other.ensures) in
    (omega arith, entering-in-order _ _ _ _ _ was goes (done.value was.up) (done.still was.up))
