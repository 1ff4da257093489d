use Rattle.std.proofs.Common.{refl, ◌∙◌, arith}
use Rattle.std.proofs.lemmas.List.{at_drop_all}
use Rattle.message.proofs.Places.{left_more, left-all, left_as}
use Rattle.responder.specs.Steps.{falls}
use Rattle.responder.proofs.Reports.{falls_more, ranged_get_d}
use Rattle.responder.proofs.reporting.Reports.put_fallen.Goals as goal

pub put_if_fallen-requires-clause-ranges : goal.put_if_fallen-requires-clause-ranges
put_if_fallen-requires-clause-ranges c =
    ranged_get_d c.args.self.before.rows.now c.loop-row.row-index c.args.self.before.sound.ranges c.loop-row-test.true

pub loop-row-preserved : goal.loop-row-preserved
loop-row-preserved c =
    let me = c.args.self in
    let e = falls_more me.own.number me.named.address.byte me.named.id.bytes me.after.rows.now me.before.rows.now c.loop-row.row-index c.loop-row-test.true in
    record {
      left = left_more _ _ (left_as refl refl e c.loop-row.invariant.left) c.put_if_fallen.ensures.put;
      same = c.put_if_fallen.ensures.same ∙ c.loop-row.invariant.same;
    }

pub returns : goal.returns
returns c =
    let me = c.args.self in
    let e = at_drop_all (falls me.own.number me.named.address.byte me.named.id.bytes me.after.rows.now) me.before.rows.now c.loop-row.row-index (omega arith) in
    record { put = left-all c.requires (left_as refl refl e c.loop-row.invariant.left); same = c.loop-row.invariant.same }
