use Rattle.std.proofs.Common.{◌≡◌, ◌<◌, ◌∷◌, length}
use Rattle.numbers.specs.Device.{free_from}
use Rattle.numbers.proofs.Free.{steps}
use Rattle.numbers.proofs.value.Numbers.renew.Given as goal

abbrev pub invariant-loop-own : goal.invariant-loop-own
invariant-loop-own l =
    let xs = l.fn.self.own ∷ l.fn.self.listed in
    (l.own < 268435200) × (free_from (length xs) xs l.own ≡ free_from (length xs) xs l.initial.own)

abbrev pub decreases-loop-own : goal.decreases-loop-own
decreases-loop-own l = let xs = l.fn.self.own ∷ l.fn.self.listed in steps (length xs) xs l.own
