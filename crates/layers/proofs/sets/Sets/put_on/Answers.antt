use Rattle.std.proofs.Common.{true, List, subst}
use Rattle.host.specs.Hosts.{Switched}
use Rattle.layers.specs.declared.member.Member.{Member}
use Rattle.layers.specs.Models.{members_of}
use Rattle.layers.specs.Sets.{setted}
use Rattle.layers.proofs.Setting.{setted_on}
use Rattle.layers.proofs.sets.Sets.put_on.Goals as goal

pub returns : goal.returns
returns g c =
    let s = c.args.self.now in
    let ms = members_of s.members in
    let b = s.below in
    let z = c.switch.new.self in
    let same = c.put_off.ensures.same in
    let did =
    setted_on ms _ _ _ _ _ _ _ _ c.put_off.ensures.done _ _ _ _
    c.requires.consents c.requires.moves c.switch.ensures.does in
    record {
      does =
          subst
          (λ (m : List Member). Switched (g.B.Host.listing b) (setted ms (g.B.Host.listing b) (g.B.Host.consents b)) (g.B.Host.fixed b) c.args.pair.address c.args.pair.id true (g.B.Host.listing z) (setted m (g.B.Host.listing z) (g.B.Host.consents z)) (g.B.Host.fixed z) c.switch.result)
          same.0 did;
      same = (same.0, g.B.Host.keeps_on b c.put_off.new.self.below z same.1 c.switch.ensures.same);
    }
