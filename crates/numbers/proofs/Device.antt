-- What the list of devices keeps.
use Rattle.std.proofs.Common.{◌≡◌, ℕ, ◌<◌, true, false, not, eqb, ltb, List, [], ◌∷◌, length, get_or, sym, refl, ap, ⊎_elim, arith}
use Rattle.std.proofs.lemmas.Bool.{and_parts, cases_Bool, cond_both, eq-eqb, ne_eqb, or_left, or_right, lt-ltb, not-true}
use Rattle.std.proofs.lemmas.Bool.Decides.{nat_tests}
use Rattle.rising.specs.Order.{before, same_key}
use Rattle.rising.specs.Lists.{Rising, entered, entering, without, holds}
use Rattle.rising.proofs.Order.{before_same}
use Rattle.numbers.specs.Device.{number, has, all_usable, InOrder, other, noted, forgotten}

-- a number is in the list exactly if its key is held
pub has_held : (n : ℕ) (xs : List ℕ) → holds number n xs ≡ has n xs
has_held n [] = refl
has_held n (x ∷ xs) = let ih = has_held n xs in grind (arith, cases_Bool (eqb x n))

has-entered : (own n : ℕ) (xs : List ℕ) → eqb n own ≡ false → has own xs ≡ false → has own (entered number n xs) ≡ false
has-entered own n [] e h = rw e
has-entered own n (y ∷ ys) e h =
    let ih = has-entered own n ys e in
    grind (arith, cases_Bool (before (number y) (number n)), cases_Bool (before (number n) (number y)), cases_Bool (eqb y own))

usable-entered : (n : ℕ) (xs : List ℕ) → ltb n 268435200 ≡ true → all_usable xs ≡ true → all_usable (entered number n xs) ≡ true
usable-entered n [] e h = rw e
usable-entered n (y ∷ ys) e h =
    let p = and_parts (ltb y 268435200) (all_usable ys) h in
    let ih = usable-entered n ys e p.1 in
    let q = p.0 in
    let r = p.1 in
    grind (arith, cases_Bool (before (number y) (number n)), cases_Bool (before (number n) (number y)))

has-entering : (room own n : ℕ) (xs : List ℕ) → eqb n own ≡ false → has own xs ≡ false → has own (entering room number n xs) ≡ false
has-entering room own n xs e h = cond_both (ltb (length xs) room) (entered number n xs) xs (λ z. has own z ≡ false) (λ _. has-entered own n xs e h) (λ _. h)

usable-entering : (room n : ℕ) (xs : List ℕ) → ltb n 268435200 ≡ true → all_usable xs ≡ true → all_usable (entering room number n xs) ≡ true
usable-entering room n xs e h = cond_both (ltb (length xs) room) (entered number n xs) xs (λ z. all_usable z ≡ true) (λ _. usable-entered n xs e h) (λ _. h)

has-without : (own n : ℕ) (xs : List ℕ) → has own xs ≡ false → has own (without number n xs) ≡ false
has-without own n [] h = refl
has-without own n (y ∷ ys) h =
    let ih = has-without own n ys in
    grind (arith, cases_Bool (same_key (number y) (number n)), cases_Bool (eqb y own))

usable-without : (n : ℕ) (xs : List ℕ) → all_usable xs ≡ true → all_usable (without number n xs) ≡ true
usable-without n [] h = refl
usable-without n (y ∷ ys) h =
    let p = and_parts (ltb y 268435200) (all_usable ys) h in
    let ih = usable-without n ys p.1 in
    let q = p.0 in
    grind (arith, cases_Bool (same_key (number y) (number n)))

-- a number that was entered is in the list
has_self : (n : ℕ) (xs : List ℕ) → has n (entered number n xs) ≡ true
has_self n [] = let e = eq-eqb n n refl in rw e
has_self n (y ∷ ys) =
    let ih = has_self n ys in
    let e = eq-eqb n n refl in
    let s = before_same (number y) (number n) in
    let q : number y ≡ number n → y ≡ n = λ p. ap (λ k. get_or k 0 0) p in
    ⊎_elim
    (λ (t : (before (number y) (number n) ≡ true)). rw t (or_right (eqb y n) (has n (entered number n ys)) ih))
    (λ (t : (before (number y) (number n) ≡ false)).
    ⊎_elim
    (λ (u : (before (number n) (number y) ≡ true)). rw (t, u, e))
    (λ (u : (before (number n) (number y) ≡ false)). rw (t, u) (or_left (eqb y n) (has n ys) (eq-eqb y n (q (s t u)))))
    (cases_Bool (before (number n) (number y))))
    (cases_Bool (before (number y) (number n)))

-- and every other number as before
others-entered : (n m : ℕ) (xs : List ℕ) → (m ≡ n → ⊥) → has m (entered number n xs) ≡ has m xs
others-entered n m [] ne = rw (ne_eqb n m (λ e. ne (sym e)))
others-entered n m (y ∷ ys) ne =
    let ih = others-entered n m ys ne in
    let e = ne_eqb n m (λ e. ne (sym e)) in
    grind (arith, cases_Bool (before (number y) (number n)), cases_Bool (before (number n) (number y)))

pub noted_has : (own n : ℕ) (xs : List ℕ) → n < 268435200 → (n ≡ own → ⊥) → length xs < 32 → has n (noted own n xs) ≡ true
noted_has own n xs u ne l = rw (lt-ltb n 268435200 u, ne_eqb n own ne, lt-ltb (length xs) 32 l) (has_self n xs)

pub noted_others : (own n m : ℕ) (xs : List ℕ) → (m ≡ n → ⊥) → has m (noted own n xs) ≡ has m xs
noted_others own n m xs ne =
    let same : List ℕ → Type 0 = λ zs. has m zs ≡ has m xs in
    cond_both (other own n) (entering 32 number n xs) xs same (λ _. cond_both (ltb (length xs) 32) (entered number n xs) xs same (λ _. others-entered n m xs ne) (λ _. refl)) (λ _. refl)

pub forgotten_gone : (n : ℕ) (xs : List ℕ) → has n (forgotten n xs) ≡ false
forgotten_gone n [] = refl
forgotten_gone n (y ∷ ys) = let ih = forgotten_gone n ys in grind (arith, cases_Bool (eqb y n))

pub forgotten_others : (n m : ℕ) (xs : List ℕ) → (m ≡ n → ⊥) → has m (forgotten n xs) ≡ has m xs
forgotten_others n m [] ne = refl
forgotten_others n m (y ∷ ys) ne = let ih = forgotten_others n m ys ne in grind (arith, nat_tests, cases_Bool (eqb y n))

-- the numbers stay in order when another device's number is entered, and when one is removed
pub entering-in-order : (room own n : ℕ) (xs ys : List ℕ) → InOrder own xs → other own n ≡ true → ys ≡ entering room number n xs → Rising number ys → InOrder own ys
entering-in-order room own n xs ys was goes e up =
    let fit = and_parts (ltb n 268435200) (not (eqb n own)) goes in
    record {
      up = up;
      usable = was.usable;
      fit = rw e (usable-entering room n xs fit.0 was.fit);
      apart = rw e (has-entering room own n xs (not-true _ fit.1) was.apart);
    }

pub without-in-order : (own n : ℕ) (xs ys : List ℕ) → InOrder own xs → ys ≡ without number n xs → Rising number ys → InOrder own ys
without-in-order own n xs ys was e up = record {
  up = up;
  usable = was.usable;
  fit = rw e (usable-without n xs was.fit);
  apart = rw e (has-without own n xs was.apart);
}
