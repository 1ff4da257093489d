use Rattle.std.proofs.Common.{◌≡◌, ◌≤◌, length, arith}
use Rattle.std.proofs.lemmas.List.Elements.{at_read}
use Rattle.rising.proofs.Lists.{low_more, high_more}
use Rattle.rising.proofs.Found.{found_at, not_found}
use Rattle.rising.proofs.search.Goals as goal

pub loop-low-preserved-in-Less : goal.loop-low-preserved-in-Less
loop-low-preserved-in-Less g c =
    let key = g.T.Keyed.key in
    let inv = c.loop-low.invariant in
    (omega arith, inv.1, (λ up. low_more key _ c.args.x.now up _ c.index-list-mid.result (omega arith) c.index-list-mid.is c.in-Less.ensures), inv.3)

pub loop-low-preserved : goal.loop-low-preserved
loop-low-preserved g c =
    let key = g.T.Keyed.key in
    let inv = c.loop-low.invariant in
    (omega arith, omega arith, inv.2, λ up. high_more key _ c.args.x.now up _ c.index-list-mid.result (omega arith) c.index-list-mid.is c.in-Greater.ensures)

pub returns-in-Equal : goal.returns-in-Equal
returns-in-Equal g c =
    let key = g.T.Keyed.key in
    let x = c.args.x.now in
    let xs = c.args.list.now in
    found_at key x xs _ (omega arith, at_read xs (λ z. key z ≡ key x) _ c.index-list-mid.result (omega arith) c.index-list-mid.is c.in-Equal.ensures)

pub returns : goal.returns
returns g c =
    let inv = c.loop-low.invariant in
    let within : c.loop-low.low ≤ length c.args.list.now = omega arith in
    not_found g.T.Keyed.key c.args.x.now c.args.list.now _ within (λ up. record {
      within = within;
      low = inv.2 up;
      high = λ k d l. inv.3 up k d (omega arith);
    })
