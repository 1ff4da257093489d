use Rattle.std.proofs.Common.{◌≡◌, true, false, length, Some, refl, sym, ap, ◌∙◌, subst, arith}
use Rattle.std.proofs.lemmas.List.{length-set}
use Rattle.host.specs.Rows.{Sound, look}
use Rattle.host.specs.Hosts.{differs, turned}
use Rattle.host.specs.Tables.{listed, blank}
use Rattle.host.specs.Lawfulness.{sound-listed}
use Rattle.host.proofs.Keeping.{sound_map, slot_state, turned_listed}
use Rattle.host.proofs.FindingRows.{placed_among}
use Rattle.host.proofs.Calls.{other_state, table_stays, table_moves}
use Rattle.host.proofs.table.TableHost.switch.Goals as goal

pub invariant_of-self : goal.invariant_of-self
invariant_of-self c =
    let t = c.args.self.now in
    let l = listed t.rows in
    let a = c.args.pair.address in
    let i = c.args.pair.id in
    let h = placed_among l c.rows.result.now a i (Some c.in-Some.k) c.rows.ensures t.order c.in-Some.ensures.place in
    let e = turned_listed t.rows c.in-Some.k h.0 c.turn.new.self t.order a i c.args.on (h.1 blank).0 c.turn.ensures.slots c.turn.ensures.count in
    let was = sound-listed t.rows t.within t.each t.ranges t.order in
    let s : Sound (listed c.turn.new.self) = subst (λ ys. Sound ys) (sym e) (sound_map (turned a i c.args.on (λ _. false)) (λ r. refl) (λ r. refl) l was) in
    let whole : length c.turn.new.self.slots ≡ 64 = ap length c.turn.ensures.slots ∙ length-set t.rows.slots c.in-Some.k _ ∙ t.whole in
    record { within = omega (arith, t.within, c.turn.ensures.count); whole = whole; each = s.each; ranges = s.ranges; order = s.order }

pub returns-in-Some : goal.returns-in-Some
returns-in-Some c =
    let t = c.args.self.now in
    let l = listed t.rows in
    let a = c.args.pair.address in
    let i = c.args.pair.id in
    let h = placed_among l c.rows.result.now a i (Some c.in-Some.k) c.rows.ensures t.order c.in-Some.ensures.place in
    let e = turned_listed t.rows c.in-Some.k h.0 c.turn.new.self t.order a i c.args.on (h.1 blank).0 c.turn.ensures.slots c.turn.ensures.count in
    let state = slot_state t.rows c.in-Some.k h.0 (look l a i) (h.1 blank).1 in
    let told = other_state _ c.args.on true c.if-self-k.true ∙ ap (λ o. differs o c.args.on) (sym state) in
    record { does = table_moves l a i c.args.on true told (listed c.turn.new.self) refl e; same = tt }

pub returns-in_default : goal.returns-in_default
returns-in_default c =
    let t = c.args.self.now in
    let l = listed t.rows in
    let a = c.args.pair.address in
    let i = c.args.pair.id in
    let h = placed_among l c.rows.result.now a i (Some c.in-Some.k) c.rows.ensures t.order c.in-Some.ensures.place in
    let state = slot_state t.rows c.in-Some.k h.0 (look l a i) (h.1 blank).1 in
    let told = other_state _ c.args.on false c.if-self-k.false ∙ ap (λ o. differs o c.args.on) (sym state) in
    record { does = table_stays l a i c.args.on false told refl; same = tt }
