-- A desk with three profiles at Channel 1.
use Rattle.std.specs.Prelude.{◌≡◌, ℕ, ◌+◌, ◌≤◌, Bool, true, false, cond, ◌&&◌, ◌||◌, List, [], ◌∷◌, Some, None, ◌==◌, refl}
use Rattle.std.proofs.Common.{arith}
use Rattle.std.specs.Str.{bytes_eq}
use Rattle.std.proofs.lemmas.Bool.{and_parts, or_left, eqb-true}
use Rattle.std.proofs.lemmas.Slice.Eq.{bytes_eq-Decides}
use Rattle.message.specs.declared.row.Row.{Row}
use Rattle.host.specs.Rows.{row, is_there, has}
use Rattle.host.specs.Hosts.{Consents, Lawful}

-- the ID of the profile with a number
abbrev pub numbered : ℕ → List ℕ
numbered n = n ∷ 0 ∷ 0 ∷ 0 ∷ 0 ∷ []

-- the rows, with the states of the three
abbrev pub desk : Bool → Bool → Bool → List Row
desk x y z = row 0 (numbered 1) x ∷ row 0 (numbered 2) y ∷ row 0 (numbered 3) z ∷ []

-- whether the address and the ID are those of the profile with a number
abbrev pub is : ℕ → ℕ → List ℕ → Bool
is n a i = a == 0 && bytes_eq i (numbered n)

abbrev pub known : ℕ → List ℕ → Bool
known a i = is 1 a i || (is 2 a i || is 3 a i)

-- each is free to be switched, and the first one's on puts the third off
abbrev pub free : Consents
free = record { on = known; off = known; names = λ a i j. is 1 a i && bytes_eq j (numbered 3) }

listed : (b c d x y z : Bool) → (b || (c || d)) ≡ true → is_there (cond b (Some x) (cond c (Some y) (cond d (Some z) None))) ≡ true
listed true c d x y z h = refl
listed false true d x y z h = refl
listed false false true x y z h = refl
listed false false false x y z h = h

few-at : (b : Bool) → cond b 1 0 + (cond b 1 0 + (cond b 1 0 + 0)) ≤ 21
few-at true = omega arith
few-at false = omega arith

third_named : (x y z : Bool) (a : ℕ) (i j : List ℕ) → is 1 a i ≡ true → bytes_eq j (numbered 3) ≡ true → (has (desk x y z) a j ≡ true) × (bytes_eq j i ≡ false)
third_named x y z a i j h k =
    let p = and_parts (a == 0) (bytes_eq i (numbered 1)) h in
    let e = eqb-true a 0 p.0 in
    let f = (bytes_eq-Decides i (numbered 1)).0 p.1 in
    let g = (bytes_eq-Decides j (numbered 3)).0 k in
    (rw (e, g) refl, rw (f, g) refl)

pub desk_lawful : (x y z : Bool) → Lawful (desk x y z) free
desk_lawful x y z =
    record {
      sound = record { few = omega arith; each = λ a. few-at (a == 0); ranges = refl; order = refl };
      on_listed = λ a i h. listed (is 1 a i) (is 2 a i) (is 3 a i) x y z h;
      off_listed = λ a i h. listed (is 1 a i) (is 2 a i) (is 3 a i) x y z h;
      names_listed = λ a i j h.
          let p = and_parts (is 1 a i) (bytes_eq j (numbered 3)) h in
          let n = third_named x y z a i j p.0 p.1 in
          (or_left _ _ p.0, n.0, n.1);
    }
