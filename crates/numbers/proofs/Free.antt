-- The search for a free number ends: in a list of f numbers, not all of n and the f after it can stand.
use Rattle.std.proofs.Common.{◌≡◌, ℕ, zero, suc, ◌+◌, ◌%◌, ◌<◌, ◌≤◌, true, false, cond, eqb, ◌⊎◌, List, [], ◌∷◌, length, sym, refl, ap, ◌∙◌, inl, inr, ⊎_elim, zero-le, arith}
use Rattle.std.proofs.lemmas.Bool.{both_ways, cases_Bool, eqb-true, eqb-false}
use Rattle.std.proofs.lemmas.Bool.Decides.{nat_tests}
use Rattle.numbers.specs.Device.{has, next, free_from, First}

-- j steps on
abbrev ahead : ℕ → ℕ → ℕ
ahead zero n = n
ahead (suc j) n = ahead j (next n)

pub next-usable : (n : ℕ) → n < 268435200 → next n < 268435200
next-usable n h = grind (arith, nat_tests)

ahead-is : (j n : ℕ) → n < 268435200 → j ≤ 268435200 → (ahead j n ≡ n + j) ⊎ (ahead j n + 268435200 ≡ n + j)
ahead-is zero n l h = inl (omega arith)
ahead-is (suc j) n l h =
    let ih = ahead-is j (next n) (next-usable n l) (omega arith) in
    ⊎_elim
    (λ (t : (eqb n 268435199 ≡ true)).
    let e = eqb-true n 268435199 t in
    let m : next n ≡ 0 = rw t in
    ⊎_elim (λ p. inr (omega arith)) (λ p. absurd (omega arith)) ih)
    (λ (t : (eqb n 268435199 ≡ false)).
    let e = eqb-false n 268435199 t in
    let m : next n ≡ n + 1 = rw t in
    ⊎_elim (λ p. inl (omega arith)) (λ p. inr (omega arith)) ih)
    (cases_Bool (eqb n 268435199))

-- the list without n
abbrev rid : ℕ → List ℕ → List ℕ
rid n [] = []
rid n (x ∷ xs) = cond (eqb x n) (rid n xs) (x ∷ rid n xs)

rid_le : (n : ℕ) (xs : List ℕ) → length (rid n xs) ≤ length xs
rid_le n [] = zero-le
rid_le n (x ∷ xs) = let ih = rid_le n xs in grind (arith, cases_Bool (eqb x n))

rid-shorter : (n : ℕ) (xs : List ℕ) → has n xs ≡ true → length (rid n xs) < length xs
rid-shorter n [] h = grind arith
rid-shorter n (x ∷ xs) h =
    let ih = rid-shorter n xs in
    let le = rid_le n xs in
    grind (arith, cases_Bool (eqb x n))

has-rid : (m n : ℕ) (xs : List ℕ) → (m ≡ n → ⊥) → has m (rid n xs) ≡ has m xs
has-rid m n [] ne = refl
has-rid m n (x ∷ xs) ne = let ih = has-rid m n xs ne in grind (arith, nat_tests)

-- one of n and the f numbers after it is free
pub free_near : (f : ℕ) (xs : List ℕ) (n : ℕ) → n < 268435200 → f < 268435200 → length xs ≤ f → (j : ℕ) × (j ≤ f) × (has (ahead j n) xs ≡ false)
free_near zero [] n l b h = (0, zero-le, refl)
free_near zero (x ∷ xs) n l b h = absurd (omega arith)
free_near (suc f) xs n l b h =
    ⊎_elim
    (λ (t : (has n xs ≡ true)).
    let s = rid-shorter n xs t in
    let ih = free_near f (rid n xs) (next n) (next-usable n l) (omega arith) (omega arith) in
    let at = ahead-is (suc ih.0) n l (let le = ih.1 in omega arith) in
    let le = ih.1 in
    let ne : ahead ih.0 (next n) ≡ n → ⊥ = λ e. ⊎_elim (λ p. omega arith) (λ p. omega arith) at in
    (suc ih.0, omega arith, sym (has-rid (ahead ih.0 (next n)) n xs ne) ∙ ih.2))
    (λ (t : (has n xs ≡ false)). (0, zero-le, t))
    (cases_Bool (has n xs))

-- the steps to the first free number
unfoldable pub steps : ℕ → List ℕ → ℕ → ℕ
steps zero xs n = 0
steps (suc f) xs n = cond (has n xs) (suc (steps f xs (next n))) 0

free-there : (f : ℕ) (xs : List ℕ) (n : ℕ) → has n xs ≡ true → free_from (suc f) xs n ≡ free_from f xs (next n)
unfolding free_from
free-there f xs n t = rw t

steps-there : (f : ℕ) (xs : List ℕ) (n : ℕ) → has n xs ≡ true → steps (suc f) xs n ≡ suc (steps f xs (next n))
unfolding steps
steps-there f xs n t = rw t

-- where a number within reach is free, one is found, and a longer reach finds the same
found_within : (f : ℕ) (xs : List ℕ) (n j : ℕ) → j ≤ f → has (ahead j n) xs ≡ false → (has (free_from f xs n) xs ≡ false) × (free_from (suc f) xs n ≡ free_from f xs n) × (steps (suc f) xs n ≡ steps f xs n)
unfolding free_from steps
found_within zero xs n zero h e = (e, rw e, rw e)
found_within zero xs n (suc j) h e = absurd (omega arith)
found_within (suc f) xs n zero h e = (rw (e, e), rw e, rw e)
found_within (suc f) xs n (suc j) h e =
    let ih = found_within f xs (next n) j (omega arith) e in
    let p = ih.0 in
    let q = ih.1 in
    let r = ih.2 in
    ⊎_elim
    (λ (t : (has n xs ≡ true)). (rw t p, rw t q, rw t (ap suc r)))
    (λ (t : (has n xs ≡ false)). (rw (t, t), rw t, rw t))
    (cases_Bool (has n xs))

step_over : (f : ℕ) (ys : List ℕ) (n j : ℕ) → j ≤ suc f → has (ahead j n) ys ≡ false → has n ys ≡ true → (free_from (suc f) ys (next n) ≡ free_from (suc f) ys n) × (steps (suc f) ys (next n) < steps (suc f) ys n)
step_over f ys n zero h e t = absurd (both_ways (has n ys) e t)
step_over f ys n (suc j) h e t =
    let ih = found_within f ys (next n) j (omega arith) e in
    let p : free_from (suc f) ys n ≡ free_from f ys (next n) = free-there f ys n t in
    let q : steps (suc f) ys n ≡ suc (steps f ys (next n)) = steps-there f ys n t in
    let r = ih.2 in
    (ih.1 ∙ sym p, omega arith)

-- a taken number is passed over
pub passed : (xs : List ℕ) (n : ℕ) → length xs < 268435200 → n < 268435200 → has n xs ≡ true → (free_from (length xs) xs (next n) ≡ free_from (length xs) xs n) × (steps (length xs) xs (next n) < steps (length xs) xs n)
passed [] n few l t = absurd (grind arith)
passed (x ∷ xs) n few l t =
    let j = free_near (length (x ∷ xs)) (x ∷ xs) n l few (omega arith) in
    step_over (length xs) (x ∷ xs) n j.0 j.1 j.2 t

pub free-here : (f : ℕ) (xs : List ℕ) (n : ℕ) → has n xs ≡ false → free_from f xs n ≡ n
unfolding free_from
free-here zero xs n t = refl
free-here (suc f) xs n t = rw t

stays : (n : ℕ) → n < 268435200 → n ≡ (n + 0) % 268435200
stays n l = omega arith

onward : (n k : ℕ) → n < 268435200 → (next n + k) % 268435200 ≡ (n + suc k) % 268435200
onward n k l =
    ⊎_elim
    (λ (t : (eqb n 268435199 ≡ true)). let e = eqb-true n 268435199 t in let m : next n ≡ 0 = rw t in omega arith)
    (λ (t : (eqb n 268435199 ≡ false)). let m : next n ≡ n + 1 = rw t in ap (λ a. a % 268435200) (omega arith))
    (cases_Bool (eqb n 268435199))

at_once : (xs : List ℕ) (n : ℕ) → n < 268435200 → has n xs ≡ false → First xs n n
at_once xs n l e = record { k = 0; at = stays n l; free = e; over = λ j h. absurd (omega arith) }

one_on : (xs : List ℕ) (n r : ℕ) → n < 268435200 → has n xs ≡ true → First xs (next n) r → First xs n r
one_on xs n r l t q = record {
  k = suc q.k;
  at = q.at ∙ onward n q.k l;
  free = q.free;
  over = over-on;
}
  where
    over-on : (j : ℕ) → j < suc q.k → has ((n + j) % 268435200) xs ≡ true
    over-on zero h = rw (sym (stays n l)) t
    over-on (suc j) h = rw (sym (onward n j l)) (q.over j (omega arith))

-- the number found is the first free one
first-within : (f : ℕ) (xs : List ℕ) (n j : ℕ) → n < 268435200 → j ≤ f → has (ahead j n) xs ≡ false → First xs n (free_from f xs n)
unfolding free_from
first-within zero xs n zero l h e = at_once xs n l e
first-within zero xs n (suc j) l h e = absurd (omega arith)
first-within (suc f) xs n zero l h e = rw e (at_once xs n l e)
first-within (suc f) xs n (suc j) l h e =
    let ih = first-within f xs (next n) j (next-usable n l) (omega arith) e in
    ⊎_elim
    (λ (t : (has n xs ≡ true)). rw t (one_on xs n (free_from f xs (next n)) l t ih))
    (λ (t : (has n xs ≡ false)). rw t (at_once xs n l t))
    (cases_Bool (has n xs))

pub first-free : (xs : List ℕ) (n : ℕ) → length xs < 268435200 → n < 268435200 → First xs n (free_from (length xs) xs n)
first-free xs n few l = let j = free_near (length xs) xs n l few (omega arith) in first-within (length xs) xs n j.0 l j.1 j.2
