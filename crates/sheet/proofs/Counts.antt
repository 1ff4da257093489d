-- No two rows collide exactly if at most one row of each set is on at each address.
use Rattle.std.proofs.Common.{◌≡◌, ℕ, zero, suc, ◌<◌, ◌≤◌, Bool, true, false, ◌&&◌, eqb, ltb, List, [], ◌∷◌, length, get_or, sym, refl, ◌∙◌, subst, ⊎_elim, arith}
use Rattle.std.proofs.lemmas.Bool.{and_parts, and_from, both_ways, cases_Bool, cond-true, cond-false, eqb-true, eq-eqb, lt-ltb, ltb-true}
use Rattle.message.specs.declared.row.Row.{Row}
use Rattle.host.specs.Tables.{blank}
use Rattle.layers.specs.Sets.{set_of, together, count_on, AtMostOne}
use Rattle.layers.specs.declared.member.Member.{Member}
use Rattle.sheet.specs.Contents.{Contents}
use Rattle.sheet.specs.Collisions.{collide}
use Rattle.sheet.specs.Valid.{Valid}
use Rattle.sheet.proofs.Orderly.{Apart, Orderly}

module _ (ms : List Member) where
  -- a row that counts for a set at an address
  abbrev counts : ℕ → ℕ → Row → Bool
  counts a g r = r.on && (eqb a r.address && eqb g (set_of ms r.id))

  collide-from : (a g : ℕ) (r s : Row) → 0 < g → counts a g r ≡ true → counts a g s ≡ true → collide ms r s ≡ true
  collide-from a g r s l p q =
      let x = and_parts r.on _ p in
      let y = and_parts (eqb a r.address) _ x.1 in
      let u = and_parts s.on _ q in
      let v = and_parts (eqb a s.address) _ u.1 in
      let ar = eqb-true a r.address y.0 in
      let as' = eqb-true a s.address v.0 in
      let gr = eqb-true g (set_of ms r.id) y.1 in
      let gs = eqb-true g (set_of ms s.id) v.1 in
      and_from _ _ (and_from _ _ x.0 u.0)
      (and_from _ _ (eq-eqb _ _ (sym ar ∙ as')) (and_from _ _ (lt-ltb 0 _ (subst (λ (n : ℕ). 0 < n) gr l)) (eq-eqb _ _ (sym gr ∙ gs))))

  none-on : (a g : ℕ) → 0 < g → (r : Row) → counts a g r ≡ true → (l : List Row) → ((k : ℕ) → k < length l → collide ms (get_or l k blank) r ≡ false)
      → count_on ms a g l ≡ 0
  none-on a g p r q [] h = refl
  none-on a g p r q (x ∷ l) h =
      ⊎_elim
      (λ (t : (counts a g x ≡ true)). absurd (both_ways _ (h 0 (omega arith)) (collide-from a g x r p t q)))
      (λ (t : (counts a g x ≡ false)).
      let e = cond-false {A = ℕ} (counts a g x) 1 0 t in
      let ih = none-on a g p r q l (λ k m. h (suc k) (omega arith)) in
      omega (arith, e, ih))
      (cases_Bool (counts a g x))

  one_from : (l : List Row) → Apart ms l → AtMostOne ms l
  one_from [] h a g p = omega arith
  one_from (r ∷ l) h a g p =
      ⊎_elim
      (λ (t : (counts a g r ≡ true)).
      let e = cond-true {A = ℕ} (counts a g r) 1 0 t in
      let z = none-on a g p r t l (λ k m. h 0 (suc k) (omega arith) (omega arith)) in
      omega (arith, e, z))
      (λ (t : (counts a g r ≡ false)).
      let e = cond-false {A = ℕ} (counts a g r) 1 0 t in
      let ih = one_from l (λ j k m n. h (suc j) (suc k) (omega arith) (omega arith)) a g p in
      omega (arith, e, ih))
      (cases_Bool (counts a g r))

  counted : (a g : ℕ) (l : List Row) (k : ℕ) → k < length l → counts a g (get_or l k blank) ≡ true → 1 ≤ count_on ms a g l
  counted a g [] k m t = absurd (omega arith)
  counted a g (r ∷ l) zero m t = let e = cond-true {A = ℕ} (counts a g r) 1 0 t in omega (arith, e)
  counted a g (r ∷ l) (suc k) m t = let ih = counted a g l k (omega arith) t in omega (arith, ih)

  counted-twice : (a g : ℕ) (l : List Row) (j k : ℕ) → j < k → k < length l → counts a g (get_or l j blank) ≡ true → counts a g (get_or l k blank) ≡ true → 2 ≤ count_on ms a g l
  counted-twice a g [] j k n m s t = absurd (omega arith)
  counted-twice a g (r ∷ l) j zero n m s t = absurd (omega arith)
  counted-twice a g (r ∷ l) zero (suc k) n m s t =
      let e = cond-true {A = ℕ} (counts a g r) 1 0 s in
      let c = counted a g l k (omega arith) t in
      omega (arith, e, c)
  counted-twice a g (r ∷ l) (suc j) (suc k) n m s t = let ih = counted-twice a g l j k (omega arith) (omega arith) s t in omega (arith, ih)

  pub apart_of : (l : List Row) → AtMostOne ms l → Apart ms l
  apart_of l h j k n m =
      let r = get_or l k blank in
      let s = get_or l j blank in
      ⊎_elim
      (λ (t : (collide ms r s ≡ true)).
      let x = and_parts (r.on && s.on) _ t in
      let on = and_parts r.on s.on x.0 in
      let y = and_parts (eqb r.address s.address) (together ms r.id s.id) x.1 in
      let z = and_parts (ltb 0 (set_of ms r.id)) _ y.1 in
      let g = set_of ms r.id in
      let cr : counts r.address g r ≡ true = and_from _ _ on.0 (and_from _ _ (eq-eqb r.address r.address refl) (eq-eqb g g refl)) in
      let cs : counts r.address g s ≡ true = and_from _ _ on.1 (and_from _ _ y.0 z.1) in
      let two = counted-twice r.address g l j k n m cs cr in
      let one = h r.address g (ltb-true 0 g z.0) in
      absurd (omega (arith, two, one)))
      (λ (t : (collide ms r s ≡ false)). t)
      (cases_Bool (collide ms r s))

pub valid_from : (c : Contents) → Orderly c → Apart c.members c.rows → Valid c
valid_from c o apart =
    record {
      identity = o.identity;
      block = o.block;
      rows = o.rows;
      members = o.members.ranges;
      members_rise = o.members.order;
      members_few = o.members.few;
      pairs = o.pairs.ranges;
      pairs_rise = o.pairs.order;
      pairs_few = o.pairs.few;
      one_on = one_from c.members c.rows apart;
    }

pub orderly_from : (c : Contents) → Valid c → Orderly c
orderly_from c v =
    record {
      identity = v.identity;
      block = v.block;
      rows = v.rows;
      members = record { ranges = v.members; order = v.members_rise; few = v.members_few };
      pairs = record { ranges = v.pairs; order = v.pairs_rise; few = v.pairs_few };
    }
