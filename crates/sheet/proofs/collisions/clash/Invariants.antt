use Rattle.std.proofs.Common.{◌≡◌, ◌+◌, ◌*◌, [], take, drop}
use Rattle.sheet.specs.Collisions.{clash}
use Rattle.sheet.proofs.collisions.clash.Given as goal

abbrev pub invariant-loop-k : goal.invariant-loop-k
invariant-loop-k l = clash l.members (3 + 2 * l.k) (take l.k l.rows) (drop l.k l.rows) ≡ clash l.members 3 [] l.rows
