-- The laws of entering and removing hold of the definitions.
use Rattle.std.proofs.Common.{◌≡◌, ℕ, ◌+◌, true, false, cond, ltb, List, [], ◌∷◌, length, Some, None, sym, refl, ap, ◌∙◌, subst, ⊎_elim, arith}
use Rattle.std.proofs.lemmas.Bool.{or_parts, both_ways, cases_Bool, cond_both, cond-true, cond-false, lt-ltb, le-ltb}
use Rattle.std.proofs.lemmas.List.Edits.{length-remove}
use Rattle.rising.specs.Order.{Key, before, same_key}
use Rattle.rising.specs.Lists.{Rising, holds, found, entered, entering, without}
use Rattle.rising.specs.Laws.{Enters, Leaves}
use Rattle.rising.proofs.Order.{before_same, same_refl, same_eq, same_from, differs_from}
use Rattle.rising.proofs.Lists.{entered_present, without_absent, without_at, rising_entered, rising_without, holds_place, absent_from_holds}

module _ {X : Type 0} (key : X → Key) where
  -- keys that are not the same stand in order
  in_order : (x y : X) → same_key (key y) (key x) ≡ false → before (key y) (key x) ≡ false → before (key x) (key y) ≡ true
  in_order x y n b =
      ⊎_elim
      (λ (t : (before (key x) (key y) ≡ true)). t)
      (λ (t : (before (key x) (key y) ≡ false)). absurd (both_ways (same_key (key y) (key x)) n (same_from (key y) (key x) (before_same (key y) (key x) b t))))
      (cases_Bool (before (key x) (key y)))

  arrives-entered : (x : X) (xs : List X) → holds key x xs ≡ false → (found key x (entered key x xs) ≡ Some x) × (length (entered key x xs) ≡ length xs + 1)
  arrives-entered x [] h = (rw (same_refl (key x)), refl)
  arrives-entered x (y ∷ ys) h =
      let p = or_parts (same_key (key y) (key x)) (holds key x ys) h in
      let n = p.0 in
      let ih = arrives-entered x ys p.1 in
      let l = ih.1 in
      ⊎_elim
      (λ (t : (before (key y) (key x) ≡ true)). (rw (t, n) ih.0, rw t (omega arith)))
      (λ (t : (before (key y) (key x) ≡ false)). let u = in_order x y n t in let s = same_refl (key x) in (rw (t, u, s), rw (t, u) (omega arith)))
      (cases_Bool (before (key y) (key x)))

  others-entered : (x : X) (xs : List X) (z : X) → (key z ≡ key x → ⊥) → found key z (entered key x xs) ≡ found key z xs
  others-entered x [] z ne = rw (differs_from (key x) (key z) (λ e. ne (sym e)))
  others-entered x (y ∷ ys) z ne =
      let ih = others-entered x ys z ne in
      let n = differs_from (key x) (key z) (λ e. ne (sym e)) in
      ⊎_elim
      (λ (t : (before (key y) (key x) ≡ true)). rw t (ap (λ o. cond (same_key (key y) (key z)) (Some y) o) ih))
      (λ (t : (before (key y) (key x) ≡ false)).
      ⊎_elim
      (λ (u : (before (key x) (key y) ≡ true)). rw (t, u, n))
      (λ (u : (before (key x) (key y) ≡ false)). rw (t, u))
      (cases_Bool (before (key x) (key y))))
      (cases_Bool (before (key y) (key x)))

  entered-there : (x : X) (xs : List X) → Rising key xs → holds key x xs ≡ true → entered key x xs ≡ xs
  entered-there x xs up h = let p = holds_place key xs x h in entered_present key xs x p.0 up p.1

  lawful-entering : (room : ℕ) (x : X) (xs : List X) → Rising key xs → Enters key room x xs (entering room key x xs)
  lawful-entering room x xs up = record {
    arrives = λ t h. rw (cond-true (ltb (length xs) room) (entered key x xs) xs (lt-ltb (length xs) room t)) (arrives-entered x xs h);
    full = λ t. cond-false (ltb (length xs) room) (entered key x xs) xs (le-ltb (length xs) room t);
    there = λ h. cond_both (ltb (length xs) room) (entered key x xs) xs (λ zs. zs ≡ xs) (λ _. entered-there x xs up h) (λ _. refl);
    others = λ z ne. cond_both (ltb (length xs) room) (entered key x xs) xs (λ zs. found key z zs ≡ found key z xs) (λ _. others-entered x xs z ne) (λ _. refl);
    still = cond_both (ltb (length xs) room) (entered key x xs) xs (λ zs. Rising key zs) (λ _. rising_entered key x xs up) (λ _. up);
  }

  pub enters_lawful : (room : ℕ) (x : X) (xs ys : List X) → (Rising key xs → ys ≡ entering room key x xs) → Rising key xs → Enters key room x xs ys
  enters_lawful room x xs ys e up = subst (Enters key room x xs) (sym (e up)) (lawful-entering room x xs up)

  gone-without : (x : X) (xs : List X) → found key x (without key x xs) ≡ None
  gone-without x [] = refl
  gone-without x (y ∷ ys) =
      let ih = gone-without x ys in
      ⊎_elim
      (λ (t : (same_key (key y) (key x) ≡ true)). rw t ih)
      (λ (t : (same_key (key y) (key x) ≡ false)). rw (t, t) ih)
      (cases_Bool (same_key (key y) (key x)))

  others-without : (x : X) (xs : List X) (z : X) → (key z ≡ key x → ⊥) → found key z (without key x xs) ≡ found key z xs
  others-without x [] z ne = refl
  others-without x (y ∷ ys) z ne =
      let ih = others-without x ys z ne in
      ⊎_elim
      (λ (t : (same_key (key y) (key x) ≡ true)).
      let n = differs_from (key y) (key z) (λ e. ne (sym e ∙ same_eq (key y) (key x) t)) in
      rw (t, n) ih)
      (λ (t : (same_key (key y) (key x) ≡ false)). rw t (ap (λ o. cond (same_key (key y) (key z)) (Some y) o) ih))
      (cases_Bool (same_key (key y) (key x)))

  shorter-without : (x : X) (xs : List X) → Rising key xs → holds key x xs ≡ true → length (without key x xs) + 1 ≡ length xs
  shorter-without x xs up h =
      let p = holds_place key xs x h in
      rw (without_at key xs x p.0 up p.1) (length-remove xs p.0 p.1.0)

  lawful-without : (x : X) (xs : List X) → Rising key xs → Leaves key x xs (without key x xs)
  lawful-without x xs up = record {
    gone = gone-without x xs;
    shorter = shorter-without x xs up;
    absent = λ h. without_absent key xs x (absent_from_holds key xs x h);
    others = others-without x xs;
    still = rising_without key x xs up;
  }

  pub leaves_lawful : (x : X) (xs ys : List X) → (Rising key xs → ys ≡ without key x xs) → Rising key xs → Leaves key x xs ys
  leaves_lawful x xs ys e up = subst (Leaves key x xs) (sym (e up)) (lawful-without x xs up)
