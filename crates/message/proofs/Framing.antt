-- What the frame test tells of the bytes, and what reading them gives.
use Rattle.std.proofs.Common.{◌≡◌, ℕ, zero, suc, ◌+◌, ◌-◌, ◌<◌, ◌≤◌, true, ltb, List, [], ◌∷◌, length, get_or, take, drop, sym, ap, ◌∙◌, arith}
use Rattle.std.proofs.lemmas.List.{get_or-drop, get_or-take}
use Rattle.std.proofs.lemmas.Bool.{cond-true, and_parts}
use Rattle.std.proofs.lemmas.Bool.Decides.{nat_tests}
use Rattle.message.specs.Bytes.{sevens}
use Rattle.message.specs.Messages.{framed, fields, number_at}
use Rattle.message.specs.Kinds.{Kind, kind_at, kind}
use Rattle.message.specs.Reading.{refused, message, taken_apart, reads}
use Rattle.message.specs.declared.refusal.Refusal.{Refusal}

pub well_framed : (bs : List ℕ) → framed bs ≡ true → (s d : ℕ) (k : Kind) → s ≡ number_at 6 bs → d ≡ number_at 10 bs
    → k ≡ kind_at (get_or bs 4 0) (get_or bs 5 0) (take (length bs - 1 - 14) (drop 14 bs))
    → message (get_or bs 2 0) (get_or bs 4 0) (get_or bs 5 0) s d k ≡ reads bs
well_framed bs e s d k s-is d-is k-is =
    let n : length bs - 1 - 14 ≡ length bs - 15 = omega arith in
    rw (s-is, d-is, k-is, n) (sym (cond-true (framed bs) (taken_apart (fields bs) (kind (fields bs))) (refused Refusal.NotFramed) e))

pub sevens_get_d : (xs : List ℕ) (i : ℕ) → sevens xs ≡ true → get_or xs i 0 < 0x80
sevens_get_d [] i h = omega arith
sevens_get_d (x ∷ xs) zero h = grind (arith, nat_tests)
sevens_get_d (x ∷ xs) (suc i) h = sevens_get_d xs i (and_parts (ltb x 0x80) (sevens xs) h).1

-- a byte between the first and the last
pub inner-low : (bs : List ℕ) (i : ℕ) → sevens (take (length bs - 2) (drop 1 bs)) ≡ true → i + 2 < length bs → get_or bs (1 + i) 0 < 0x80
inner-low bs i h room =
    let e = get_or-take (length bs - 2) (drop 1 bs) i 0 (omega arith) ∙ get_or-drop 1 bs i 0 in
    omega (arith, e, sevens_get_d (take (length bs - 2) (drop 1 bs)) i h)

pub framed_inside : (bs : List ℕ) → framed bs ≡ true → (15 ≤ length bs) × (sevens (take (length bs - 2) (drop 1 bs)) ≡ true)
framed_inside bs h = (grind (arith, nat_tests), grind (arith, nat_tests))

-- a byte of the header after the first
pub header-low : (bs : List ℕ) (i : ℕ) → framed bs ≡ true → 1 ≤ i → i ≤ 13 → get_or bs i 0 < 0x80
header-low bs i f from to =
    let long = (framed_inside bs f).0 in
    let e : 1 + (i - 1) ≡ i = omega arith in
    let q = ap (λ (k : ℕ). get_or bs k 0) e in
    omega (arith, q, inner-low bs (i - 1) (framed_inside bs f).1 (omega arith))

-- a number of four such bytes has 28 bits
pub number_fits : (bs : List ℕ) (k n : ℕ) → framed bs ≡ true → 1 ≤ k → k ≤ 10 → n ≡ number_at k bs → n < 0x10000000
number_fits bs k n f from to e =
    let low : (i : ℕ) → 1 ≤ i → i ≤ 13 → get_or bs i 0 < 0x80 = λ i a b. header-low bs i f a b in
    omega (
      arith,
      e,
      low k (omega arith) (omega arith),
      low (k + 1) (omega arith) (omega arith),
      low (k + 2) (omega arith) (omega arith),
      low (k + 3) (omega arith) (omega arith),
    )
