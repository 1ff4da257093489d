use Rattle.std.proofs.Common.{◌≡◌, ◌-◌, ◌<◌, ◌≤◌, length, take, sym, ap, ◌∙◌, inr, arith}
use Rattle.std.proofs.lemmas.List.{length-take-le, get_or-take}
use Rattle.rising.specs.Lists.{Rising, without}
use Rattle.rising.specs.Slots.{Taken}
use Rattle.rising.proofs.Laws.{leaves_lawful}
use Rattle.rising.proofs.Slots.{slots_taken, without_taken, having_taken, length_taken, without_kept, having_kept}
use Rattle.rising.proofs.remove.Goals as goal

pub returns-in-Ok : goal.returns-in-Ok
returns-in-Ok g c =
    let key = g.T.Keyed.key in
    let x = c.args.x.now in
    let s = c.args.slots.now in
    let n = c.args.count in
    let i = c.in-Ok.i in
    let here = c.in-Ok.ensures.stands in
    let l : n ≤ length s = omega (arith, c.if-count-slots.false) in
    let w : i < n = omega (arith, here.0, length-take-le n s l) in
    let taken : Taken key x s n (n - 1) _ i = (w, l, omega arith, (λ d. ap key (sym (get_or-take n s i d w)) ∙ here.1 d), slots_taken s n i c.rotate_left.new.self l w c.rotate_left.ensures.after) in
    let e : Rising key (take n s) → take (n - 1) _ ≡ without key x (take n s) = without_taken key x s n i (n - 1) _ taken in
    let long = length_taken key x s n i (n - 1) _ taken in
    let laws = leaves_lawful key x (take n s) _ e in
    record {
      whole = inr (i, taken);
      value = λ _. e;
      freed = λ _. having_taken key x s n i (n - 1) _ taken;
      fits = λ _. omega (arith, long);
      long = long;
      still = λ up. (laws up).still;
      laws = λ _. laws;
    }

pub returns-in-Err-clause-value : goal.returns-in-Err-clause-value
returns-in-Err-clause-value g c = λ _ up. without_kept g.T.Keyed.key c.args.x.now c.args.slots.now c.args.count (c.in-Err.ensures.absent up)

pub returns-in-Err-clause-freed : goal.returns-in-Err-clause-freed
returns-in-Err-clause-freed g c = λ _ up. having_kept g.T.Keyed.key c.args.x.now c.args.slots.now c.args.count (c.in-Err.ensures.absent up)

pub returns-in-Err-clause-laws : goal.returns-in-Err-clause-laws
returns-in-Err-clause-laws g c =
    let s = c.args.slots.now in
    let n = c.args.count in
    λ _. leaves_lawful g.T.Keyed.key c.args.x.now (take n s) _ (λ up. without_kept g.T.Keyed.key c.args.x.now s n (c.in-Err.ensures.absent up))
