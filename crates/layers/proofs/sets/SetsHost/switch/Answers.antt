use Rattle.std.proofs.Common.{true, false, List, refl, subst}
use Rattle.layers.specs.declared.member.Member.{Member}
use Rattle.layers.specs.Models.{members_of}
use Rattle.layers.specs.Sets.{AtMostOne}
use Rattle.layers.proofs.Setting.{setted-off}
use Rattle.layers.proofs.Rivals.{turn_one}
use Rattle.layers.proofs.sets.SetsHost.switch.Goals as goal

pub returns-then-on : goal.returns-then-on
returns-then-on g c =
    let ms = members_of c.args.self.now.members in
    let b = c.args.self.now.below in
    let n = c.switch_on.new.self in
    let did = c.switch_on.ensures.does in
    let same = c.switch_on.ensures.same in
    record {
      does = rw c.if-on.true did;
      same = same;
      one = λ t.
          subst (λ (m : List Member). AtMostOne m (g.B.Host.listing n.below)) same.0
          (turn_one ms (g.B.Host.listing b) (g.B.Host.consents b) c.args.pair.address c.args.pair.id true _ (g.B.Host.lawful b).sound.order did.rows t);
    }

pub returns-else-on : goal.returns-else-on
returns-else-on g c =
    let ms = members_of c.args.self.now.members in
    let b = c.args.self.now.below in
    let did = setted-off ms (g.B.Host.listing b) (g.B.Host.consents b) _ _ _ _ _ _ _ c.switch.ensures.does in
    record {
      does = rw c.if-on.false did;
      same = (refl, c.switch.ensures.same);
      one = turn_one ms (g.B.Host.listing b) (g.B.Host.consents b) c.args.pair.address c.args.pair.id false _ (g.B.Host.lawful b).sound.order did.rows;
    }
