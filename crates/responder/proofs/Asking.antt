-- A row that is found is in range.
use Rattle.std.proofs.Common.{◌≡◌, ℕ, Bool, true, false, cond, eqb, List, [], ◌∷◌, get_or, Some, None, Option, refl, ap, ◌∙◌, MatchOption}
use Rattle.std.specs.Str.{bytes_eq}
use Rattle.std.proofs.lemmas.Bool.{and_parts, both_ways, eqb-true}
use Rattle.std.proofs.lemmas.Slice.Eq.{bytes_eq-Decides}
use Rattle.message.specs.Rows.{ranged, all_ranged}
use Rattle.message.specs.declared.row.Row.{Row}
use Rattle.responder.specs.declared.action.Named.{Named}
use Rattle.message.proofs.Parts.{no_row}
use Rattle.host.specs.Rows.{same, look, is_there, is_on, has as listed, Sound}
use Rattle.host.specs.Finding.{state_at}

-- a listed row is in range
listed-ranged : (l : List Row) (a : ℕ) (i : List ℕ) → all_ranged l ≡ true → listed l a i ≡ true → ranged a i ≡ true
listed-ranged [] a i v h = absurd (both_ways false refl h)
listed-ranged (r ∷ l) a i v h =
    let p = and_parts (ranged r.address r.id) (all_ranged l) v in
    go (same a i r) refl p.0 h (λ k. listed-ranged l a i p.1 k)
  where
    go : (b : Bool) → same a i r ≡ b → ranged r.address r.id ≡ true → is_there (cond b (Some r.on) (look l a i)) ≡ true
        → (listed l a i ≡ true → ranged a i ≡ true) → ranged a i ≡ true
    go true e g k f =
        let q = and_parts (eqb a r.address) (bytes_eq i r.id) e in
        let ea = eqb-true a r.address q.0 in
        let ei = (bytes_eq-Decides i r.id).0 q.1 in
        rw (ea, ei) g
    go false e g k f = f k

pub found : (l : List Row) (a : ℕ) (i : List ℕ) (r : Option Named) → Sound l → listed l a i ≡ true
    → MatchOption r (ranged a i ≡ false) (λ n. (n.address.byte ≡ a) × (n.id.bytes ≡ i))
    → MatchOption r (listed l a i ≡ false) (λ n. (n.address.byte ≡ a) × (n.id.bytes ≡ i) × (listed l a i ≡ true))
found l a i None s h e = absurd (both_ways (ranged a i) e (listed-ranged l a i s.ranges h))
found l a i (Some n) s h e = (e.0, e.1, h)

-- the state of a row that is looked for
pub found_on : {Q : ℕ → Type 0} (r : Option ℕ) (l : List Row) (a : ℕ) (i : List ℕ) (on : Bool) → state_at r l no_row ≡ look l a i → MatchOption r (on ≡ false) Q
    → ((k : ℕ) → Q k → on ≡ (get_or l k no_row).on) → on ≡ is_on (look l a i)
found_on None l a i on e h f = h ∙ ap is_on e
found_on (Some k) l a i on e h f = f k h ∙ ap is_on e
