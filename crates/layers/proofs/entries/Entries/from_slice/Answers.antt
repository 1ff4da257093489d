use Rattle.std.proofs.Common.{rules}
use Rattle.std.proofs.lemmas.Slice.{overwrites}
use Rattle.layers.proofs.Places.{accepted}
use Rattle.layers.proofs.entries.Entries.from_slice.Goals as goal

pub invariant_of-result : goal.invariant_of-result
invariant_of-result g c =
    let j = accepted g.T.Ranged.ranged g.T.Keyed.key c.args.list.now c.judge.result c.in_ok-judge.field-0 c.judge.ensures c.in_ok-judge.was in
    let few = j.few in
    let up = j.up in
    let fit = j.fit in
    search (rules, overwrites)

pub returns : goal.returns
returns g c =
    let j = accepted g.T.Ranged.ranged g.T.Keyed.key c.args.list.now c.judge.result c.in_ok-judge.field-0 c.judge.ensures c.in_ok-judge.was in
    rw (j.fit, j.ordered) (search (rules, overwrites))
