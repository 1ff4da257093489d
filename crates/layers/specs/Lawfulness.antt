-- That a layer over a lawful host is lawful.
use Rattle.std.specs.Prelude.{◌≡◌, ℕ, Bool, true, false, cond, ◌&&◌, List, [], ◌∷◌, Some, nat_eq, refl}
use Rattle.std.specs.List.{list_any}
use Rattle.std.proofs.Common.{sym, ap, subst, ⊎_elim}
use Rattle.std.specs.Str.{bytes_eq}
use Rattle.std.proofs.lemmas.Bool.{both_ways, and_parts, and_from, or_cases, not-true, cond-true, false_from_ne_true}
use Rattle.std.proofs.lemmas.Slice.Eq.{bytes_eq-Decides}
use Rattle.message.specs.declared.row.Row.{Row}
use Rattle.host.specs.Rows.{same, look, is_there, has}
use Rattle.host.specs.Hosts.{Consents, Lawful}
use Rattle.message.specs.declared.pair.Pair.{Pair}
use Rattle.layers.specs.declared.member.Member.{Member}
use Rattle.layers.specs.Holding.{withheld, held}
use Rattle.layers.specs.Sets.{together, rival, setted}

-- what is withheld is not given
pub only : (b x : Bool) → cond b false x ≡ true → (b ≡ false) × (x ≡ true)
only true x h = absurd (both_ways false refl h)
only false x h = (refl, h)

only_name : (b : Bool) (names : List ℕ → Bool) (j : List ℕ) → cond b (λ _. false) names j ≡ true → (b ≡ false) × (names j ≡ true)
only_name true names j h = absurd (both_ways false refl h)
only_name false names j h = (refl, h)

pub held_lawful : (ps : List Pair) (l : List Row) (c : Consents) → Lawful l c → Lawful l (held ps c)
held_lawful ps l c w =
    record {
      sound = w.sound;
      on_listed = λ a i h. w.on_listed a i (only _ _ h).1;
      off_listed = λ a i h. w.off_listed a i (only _ _ h).1;
      names_listed = λ a i j h.
          let q = only_name (withheld ps a i) (c.names a i) j h in
          let n = w.names_listed a i j q.1 in
          (rw q.0 n.0, n.1, n.2);
    }

-- what a rival is, part by part
pub record Rival (ms : List Member) (a : ℕ) (i : List ℕ) (r : Row) : Type 0 where
  pub here : nat_eq a r.address ≡ true
  pub on : r.on ≡ true
  pub joined : together ms i r.id ≡ true
  pub other : bytes_eq i r.id ≡ false

pub rival-parts : (ms : List Member) (a : ℕ) (i : List ℕ) (r : Row) → rival ms a i r ≡ true → Rival ms a i r
rival-parts ms a i r h =
    let x = and_parts _ _ h in
    let y = and_parts _ _ x.1 in
    let z = and_parts _ _ y.1 in
    record { here = x.0; on = y.0; joined = z.0; other = not-true _ z.1 }

pub bytes_turn : (i j : List ℕ) → bytes_eq i j ≡ false → bytes_eq j i ≡ false
bytes_turn i j h = false_from_ne_true _ (λ t. both_ways (bytes_eq i j) h ((bytes_eq-Decides i j).1 (sym ((bytes_eq-Decides j i).0 t))))

-- the ID of a rival is that of another listed row
rival-listed : (ms : List Member) (a : ℕ) (i j : List ℕ) (l : List Row) → list_any (λ r. rival ms a i r && bytes_eq j r.id) l ≡ true
    → (has l a j ≡ true) × (bytes_eq j i ≡ false)
rival-listed ms a i j [] h = absurd (both_ways false refl h)
rival-listed ms a i j (r ∷ l) h =
    ⊎_elim
    (λ t.
    let p = and_parts _ _ t in
    let v = rival-parts ms a i r p.0 in (
      ap is_there (cond-true (same a j r) (Some r.on) (look l a j) (and_from _ _ v.here p.1)),
      subst (λ (k : List ℕ). bytes_eq k i ≡ false) (sym ((bytes_eq-Decides j r.id).0 p.1)) (bytes_turn i r.id v.other),
    ))
    (λ t. let q = rival-listed ms a i j l t in (there (same a j r) q.0, q.1))
    (or_cases _ _ h)
  where
    there : (b : Bool) → has l a j ≡ true → is_there (cond b (Some r.on) (look l a j)) ≡ true
    there true e = refl
    there false e = e

pub setted_lawful : (ms : List Member) (l : List Row) (c : Consents) → Lawful l c → Lawful l (setted ms l c)
setted_lawful ms l c w =
    record {
      sound = w.sound;
      on_listed = λ a i h. w.on_listed a i (and_parts _ _ h).0;
      off_listed = w.off_listed;
      names_listed = λ a i j h.
          let u = and_parts _ _ h in
          ⊎_elim
          (λ t. let n = w.names_listed a i j t in (u.0, n.1, n.2))
          (λ t. let n = rival-listed ms a i j l t in (u.0, n.0, n.1))
          (or_cases _ _ u.1);
    }
