use Rattle.std.proofs.Common.{◌+◌, length, take, inr, arith}
use Rattle.rising.proofs.Laws.{enters_lawful}
use Rattle.rising.proofs.Slots.{enters_full, enters_not, drop_put, length_put}
use Rattle.rising.proofs.enter.Goals as goal

pub returns-then-count-slots-clause-value : goal.returns-then-count-slots-clause-value
returns-then-count-slots-clause-value g c = λ _. enters_full g.T.Keyed.key c.args.x c.args.slots.now c.args.count (omega (arith, c.if-count-slots.true))

pub returns-then-count-slots-clause-laws : goal.returns-then-count-slots-clause-laws
returns-then-count-slots-clause-laws g c =
    let s = c.args.slots.now in
    let n = c.args.count in
    enters_lawful g.T.Keyed.key (length s) c.args.x (take n s) _ (λ _. enters_full g.T.Keyed.key c.args.x s n (omega (arith, c.if-count-slots.true)))

pub returns-in-Ok-clause-value : goal.returns-in-Ok-clause-value
returns-in-Ok-clause-value g c = enters_not g.T.Keyed.key c.args.x c.args.slots.now c.args.count _ c.in-Ok.ensures.stands

pub returns-in-Ok-clause-laws : goal.returns-in-Ok-clause-laws
returns-in-Ok-clause-laws g c =
    let s = c.args.slots.now in
    let n = c.args.count in
    enters_lawful g.T.Keyed.key (length s) c.args.x (take n s) _ (enters_not g.T.Keyed.key c.args.x s n _ c.in-Ok.ensures.stands)

pub returns-in-Err : goal.returns-in-Err
returns-in-Err g c =
    let key = g.T.Keyed.key in
    let x = c.args.x in
    let s = c.args.slots.now in
    let n = c.args.count in
    let put = c.put.ensures.whole in
    let long = length_put key x s n _ (n + 1) _ put in
    let laws = enters_lawful key (length s) x (take n s) _ c.put.ensures.value in
    record {
      whole = inr (_, put);
      value = c.put.ensures.value;
      rest = drop_put key x s n _ (n + 1) _ put;
      fits = λ _. omega (arith, long);
      long = long;
      still = λ up. (laws up).still;
      laws = laws;
    }
