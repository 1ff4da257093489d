use Rattle.layers.specs.Models.{members_of}
use Rattle.layers.specs.Calls.{SetsKeep}
use Rattle.layers.specs.Clearing.{Cleared}
use Rattle.layers.proofs.sets.Sets.put_off.Given as goal

abbrev pub invariant-loop-k : goal.invariant-loop-k
invariant-loop-k g l =
    let s = l.initial.self in
    Cleared (members_of s.members) (g.B.Host.listing s.below) (g.B.Host.consents s.below) (g.B.Host.fixed s.below) l.pair.address l.pair.id l.k (g.B.Host.listing l.self.below) (g.B.Host.consents l.self.below) (g.B.Host.fixed l.self.below)
    × SetsKeep g.B.Host.keeps s l.self
