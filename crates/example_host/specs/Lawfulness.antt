-- The keyboard keeps the rules of hosts. Its ghost member `lawful` cites this.
use Rattle.std.specs.Prelude.{◌≡◌, ℕ, ◌≤◌, Bool, true, false, cond, not, ◌&&◌, List, is_some, Some, None, Option, ◌==◌, refl}
use Rattle.std.proofs.Common.{arith}
use Rattle.std.specs.Str.{bytes_eq}
use Rattle.std.proofs.lemmas.Slice.Eq.{bytes_eq-Decides}
use Rattle.std.proofs.lemmas.Bool.{and_parts, eqb-true, not-true, cond_both, both_ways}
use Rattle.host.specs.Rows.{has, Sound as Listing}
use Rattle.host.specs.Hosts.{Lawful}
use Rattle.example_host.specs.declared.keyboard.Sound.{Sound}
use Rattle.example_host.specs.declared.keyboard.Sound.TheVariants.{Piano, Organ}
use Rattle.example_host.specs.Keyboards.{id_of, sound_at, shown, one_at_a_time}

-- where a sound is, its address and ID are those of its row
pub found_at : (a : ℕ) (i : List ℕ) (s : Sound) → sound_at a i ≡ Some s → (a ≡ 0) × (i ≡ id_of s)
found_at a i s h = at (a == 0) (bytes_eq i (id_of Piano)) (bytes_eq i (id_of Organ)) s refl refl refl h
  where
    at : (x y z : Bool) (s : Sound) → (a == 0) ≡ x → bytes_eq i (id_of Piano) ≡ y → bytes_eq i (id_of Organ) ≡ z
        → ◌≡◌ {A = Option Sound} (cond x (cond y (Some Piano) (cond z (Some Organ) None)) None) (Some s) → (a ≡ 0) × (i ≡ id_of s)
    at true true z Piano e d c h = (eqb-true a 0 e, (bytes_eq-Decides i (id_of Piano)).0 d)
    at true true z Organ e d c h = absurd (let n : ◌≡◌ {A = ℕ} 0 1 = cc in omega arith)
    at true false true Organ e d c h = (eqb-true a 0 e, (bytes_eq-Decides i (id_of Organ)).0 c)
    at true false true Piano e d c h = absurd (let n : ◌≡◌ {A = ℕ} 0 1 = cc in omega arith)
    at true false false s e d c h = absurd (let n : ◌≡◌ {A = ℕ} 0 1 = cc in omega arith)
    at false y z s e d c h = absurd (let n : ◌≡◌ {A = ℕ} 0 1 = cc in omega arith)

listed : (p : Option Sound) (a : ℕ) (i : List ℕ) (o : Option Sound) → sound_at a i ≡ o → is_some o ≡ true → has (shown p) a i ≡ true
listed p a i None e h = absurd (both_ways _ refl h)
listed p a i (Some Piano) e h = let q = found_at a i Piano e in rw (q.0, q.1)
listed p a i (Some Organ) e h = let q = found_at a i Organ e in rw (q.0, q.1)

pub shown_listing : (p : Option Sound) → Listing (shown p)
shown_listing p = record {
  few = omega arith;
  each = λ a.
      let one : cond {A = ℕ} (a == 0) 1 0 ≤ 1 = cond_both {A = ℕ} (a == 0) 1 0 (λ n. n ≤ 1) (λ _. omega arith) (λ _. omega arith) in
      omega arith;
  ranges = refl;
  order = refl;
}

pub keyboard_lawful : (p : Option Sound) → Lawful (shown p) one_at_a_time
keyboard_lawful p = record {
  sound = shown_listing p;
  on_listed = λ a i h. listed p a i (sound_at a i) refl h;
  off_listed = λ a i h. listed p a i (sound_at a i) refl h;
  names_listed = λ a i j h.
      let q = and_parts (is_some (sound_at a i)) (is_some (sound_at a j) && not (bytes_eq j i)) h in
      let r = and_parts (is_some (sound_at a j)) (not (bytes_eq j i)) q.1 in
      (q.0, listed p a j (sound_at a j) refl r.0, not-true (bytes_eq j i) r.1);
}
