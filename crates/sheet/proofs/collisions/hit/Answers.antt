use Rattle.std.proofs.Common.{refl, rules}
use Rattle.std.proofs.lemmas.List.Recursion.{or_is}
use Rattle.sheet.specs.Collisions.{collide, hit}
use Rattle.host.specs.Tables.{blank}
use Rattle.sheet.proofs.collisions.hit.Goals as goal

pub returns : goal.returns
returns c = or_is (hit c.args.members.now c.args.row) (collide c.args.members.now c.args.row) refl (λ _ _. refl) c.args.rows.now blank _ (search rules) (search rules)
