-- Nothing is said exactly of listings.
use Rattle.std.proofs.Common.{◌≡◌, ℕ, ◌<◌, ◌≤◌, Bool, true, false, cond, not, ◌||◌, eqb, ltb, List, [], ◌∷◌, length, Some, None, Option, refl, ap, ⊎_elim, arith}
use Rattle.std.specs.List.{list_any}
use Rattle.std.proofs.lemmas.Bool.{or_parts, or_from, eqb-true, ltb-false, le-ltb, not-false, not_from_true, cases_lt, cond-false}
use Rattle.rising.specs.Lists.{rising}
use Rattle.message.specs.Rows.{row_key, all_ranged}
use Rattle.message.specs.declared.row.Row.{Row}
use Rattle.message.specs.declared.refusal.Refusal.{Refusal}
use Rattle.message.specs.declared.refusal.Refusal.TheVariants.{FieldOutOfRange, NotRising}
use Rattle.host.specs.Rows.{tally, Sound}
use Rattle.host.specs.Making.{crowded, disordered, Exact}

-- an address at which a row stands is looked at
within : (m l : List Row) (a : ℕ) → list_any (λ r. ltb 21 (tally r.address m)) l ≡ false → 0 < tally a l → tally a m ≤ 21
within m [] a h p = absurd (omega arith)
within m (r ∷ l) a h p = let q = or_parts (ltb 21 (tally r.address m)) (list_any (λ r. ltb 21 (tally r.address m)) l) h in go (eqb a r.address) refl q.0 (within m l a q.1)
  where
    go : (x : Bool) → eqb a r.address ≡ x → ltb 21 (tally r.address m) ≡ false → (0 < tally a l → tally a m ≤ 21) → tally a m ≤ 21
    go true e t u = let n = ltb-false 21 (tally r.address m) t in let s : tally a m ≡ tally r.address m = ap (λ b. tally b m) (eqb-true a r.address e) in omega arith
    go false e t u = let n : cond {A = ℕ} (eqb a r.address) 1 0 ≡ 0 = cond-false {A = ℕ} (eqb a r.address) 1 0 e in u (omega arith)

uncrowded : (m l : List Row) → ((a : ℕ) → tally a m ≤ 21) → list_any (λ r. ltb 21 (tally r.address m)) l ≡ false
uncrowded m [] h = refl
uncrowded m (r ∷ l) h = or_from _ _ (le-ltb 21 (tally r.address m) (h r.address)) (uncrowded m l h)

pub exact : (l : List Row) → Exact l
exact l = record {
  faultless = λ h. let p = clean (all_ranged l) (disordered l) h in orderly p.0 p.1;
  sound = λ s.
      let o : disordered l ≡ false = or_from _ _ (le-ltb 64 (length l) s.few) (or_from _ _ (not_from_true _ s.order) (uncrowded l l s.each)) in
      rw (s.ranges, o);
}
  where
    clean : (x y : Bool) → ◌≡◌ {A = Option Refusal} (cond (not x) (Some FieldOutOfRange) (cond y (Some NotRising) None)) None → (x ≡ true) × (y ≡ false)
    clean true false h = (refl, refl)
    clean true true h = absurd (let z : ◌≡◌ {A = ℕ} 0 1 = cc in omega arith)
    clean false y h = absurd (let z : ◌≡◌ {A = ℕ} 0 1 = cc in omega arith)

    orderly : all_ranged l ≡ true → disordered l ≡ false → Sound l
    orderly g h =
        let p = or_parts (ltb 64 (length l)) (not (rising row_key l) || crowded l) h in
        let q = or_parts (not (rising row_key l)) (crowded l) p.1 in
        record {
          few = ltb-false 64 (length l) p.0;
          each = λ a. ⊎_elim (λ (t : 0 < tally a l). within l l a q.1 t) (λ (t : tally a l ≤ 0). omega arith) (cases_lt 0 (tally a l));
          ranges = g;
          order = not-false (rising row_key l) q.0;
        }
