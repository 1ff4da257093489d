use Rattle.std.proofs.Common.{sym, subst}
use Rattle.host.specs.Rows.{Sound}
use Rattle.host.specs.Tables.{listed}
use Rattle.host.specs.Lawfulness.{sound-listed}
use Rattle.host.proofs.Keeping.{sound-without}
use Rattle.host.proofs.table.TableHost.pull.Goals as goal

pub invariant_of-self : goal.invariant_of-self
invariant_of-self c =
    let t = c.args.self.now in
    let was = sound-listed t.rows t.within t.each t.ranges t.order in
    let s : Sound (listed c.remove.new.self) = subst (λ ys. Sound ys) (sym c.remove.ensures.rows) (sound-without (listed t.rows) was c.args.pair.address c.args.pair.id) in
    record { within = c.remove.ensures.within; whole = c.remove.ensures.whole; each = s.each; ranges = s.ranges; order = s.order }
