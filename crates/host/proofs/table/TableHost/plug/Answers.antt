use Rattle.std.proofs.Common.{◌≡◌, true, false, sym, ◌∙◌, subst}
use Rattle.host.specs.Rows.{Sound}
use Rattle.host.specs.Hosts.{plugs}
use Rattle.host.specs.Tables.{listed}
use Rattle.host.specs.Lawfulness.{sound-listed}
use Rattle.host.proofs.Keeping.{sound_plugged}
use Rattle.host.proofs.table.TableHost.plug.Goals as goal

pub invariant_of-self : goal.invariant_of-self
invariant_of-self c =
    let t = c.args.self.now in
    let l = listed t.rows in
    let a = c.args.pair.address in
    let i = c.args.pair.id in
    let goes : plugs l false a i ≡ true = subst (λ l. plugs l false a i ≡ true) c.rows.ensures (sym c.fits_in-fits.ensures ∙ c.if-fits.true) in
    let was = sound-listed t.rows t.within t.each t.ranges t.order in
    let s : Sound (listed c.enter.new.self) = subst (λ ys. Sound ys) (sym c.enter.ensures.rows) (sound_plugged l was a i goes) in
    record { within = c.enter.ensures.within; whole = c.enter.ensures.whole; each = s.each; ranges = s.ranges; order = s.order }
