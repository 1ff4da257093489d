use Rattle.std.proofs.Common.{◌≡◌, ◌%◌, ◌<◌, ◌≤◌, ℕ, List, ◌∷◌, length, take, sym, ap, ◌∙◌, arith}
use Rattle.std.proofs.lemmas.List.{length-take}
use Rattle.numbers.specs.Device.{free_from}
use Rattle.numbers.proofs.Free.{passed, next-usable, free-here, first-free}
use Rattle.numbers.proofs.value.Numbers.renew.Goals as goal

few-taken : (own n : ℕ) (others xs : List ℕ) → take n others ≡ xs → n ≤ 32 → length (own ∷ xs) < 268435200
few-taken own n others xs e l = omega (arith, ap length e, length-take n others)

pub loop-own-smaller : goal.loop-own-smaller
loop-own-smaller c =
    let m = c.args.self.now in
    let xs : List ℕ = m.own ∷ m.listed in
    let few : length xs < 268435200 = few-taken m.own c.self.inside.count c.self.inside.others m.listed (ap (λ k. k.listed) c.self.view_is) c.self.invariant.0 in
    rw c.following-own.ensures (passed xs c.loop-own.own few c.loop-own.invariant.0 (sym c.loop-own-test.ensures)).1

pub loop-own-preserved : goal.loop-own-preserved
loop-own-preserved c =
    let m = c.args.self.now in
    let xs : List ℕ = m.own ∷ m.listed in
    let few : length xs < 268435200 = few-taken m.own c.self.inside.count c.self.inside.others m.listed (ap (λ k. k.listed) c.self.view_is) c.self.invariant.0 in
    let on = (passed xs c.loop-own.own few c.loop-own.invariant.0 (sym c.loop-own-test.ensures)).0 in
    (rw c.following-own.ensures (next-usable c.loop-own.own c.loop-own.invariant.0), rw c.following-own.ensures (on ∙ c.loop-own.invariant.1))

pub returns-clause-own : goal.returns-clause-own
returns-clause-own c =
    let m = c.args.self.now in
    let xs : List ℕ = m.own ∷ m.listed in
    sym (free-here (length xs) xs c.loop-own.own (sym c.loop-own-test.ensures)) ∙ c.loop-own.invariant.1

pub returns-clause-first : goal.returns-clause-first
returns-clause-first c =
    let m = c.args.self.now in
    let xs : List ℕ = m.own ∷ m.listed in
    let few : length xs < 268435200 = few-taken m.own c.self.inside.count c.self.inside.others m.listed (ap (λ k. k.listed) c.self.view_is) c.self.invariant.0 in
    let is : c.loop-own.own ≡ free_from (length xs) xs (c.args.draw % 268435200) = sym (free-here (length xs) xs c.loop-own.own (sym c.loop-own-test.ensures)) ∙ c.loop-own.invariant.1 in
    rw is (first-free xs (c.args.draw % 268435200) few (omega arith))
