-- What an edit of the slots in use leaves in all of them.
use Rattle.std.proofs.Common.{◌≡◌, ℕ, suc, ◌+◌, ◌-◌, ◌<◌, ◌≤◌, ltb, List, [], ◌∷◌, ◌++◌, length, take, drop, set, sym, refl, ap, ◌∙◌, append_assoc, arith}
use borrow.Rule.Slice.PartMut.{put_mid}
use Rattle.std.specs.List.{insert, remove}
use Rattle.std.proofs.lemmas.List.{length-append, length-take-le, length-drop, length_push, take_all, take_at, drop_at, take-take, drop-drop, take_more_set, take-set-le, drop-set-lt, drop-append-le, get_or-take}
use Rattle.std.proofs.lemmas.List.Edits.{length-insert, length-remove}
use Rattle.std.proofs.lemmas.Slice.{between_is}
use Rattle.std.proofs.lemmas.Bool.{cond_below, cond_above, cond_both}
use Rattle.rising.specs.Order.{Key}
use Rattle.rising.specs.Lists.{Rising, Stands, Absent, Gap, entered, entering, without, having}
use Rattle.rising.specs.Slots.{Put, Taken}
use Rattle.rising.proofs.Lists.{entered_at, entered_present, without_absent, without_at, having_absent, having_at}

module _ {X : Type 0} where
  turned_right : (p q ys : List X) (x : X) → p ≡ q ++ x ∷ [] → ys ≡ drop (length p - 1) p ++ take (length p - 1) p → ys ≡ x ∷ q
  turned_right p q ys x e h =
      let n : length q ≡ length p - 1 = omega (arith, ap length e, length_push q x) in
      let d : drop (length p - 1) p ≡ x ∷ [] = ap (drop (length p - 1)) e ∙ drop_at q (x ∷ []) _ n in
      let t : take (length p - 1) p ≡ q = ap (take (length p - 1)) e ∙ take_at q (x ∷ []) _ n in
      h ∙ rw (d, t)

  -- x was written at n, and the slots from i to n were turned right by one
  pub slots_put : (s : List X) (n i : ℕ) (x : X) (ys : List X) → n < length s → i ≤ n →
      let p = take (n + 1 - i) (drop i (set s n x)) in
      ys ≡ drop (length p - 1) p ++ take (length p - 1) p → put_mid i (n + 1 - i) (set s n x) ys ≡ insert (take n s) i x ++ drop (n + 1) s
  slots_put s n i x ys l h turned =
      let p : List X = take (n + 1 - i) (drop i (set s n x)) in
      let m = length-take-le n s (omega arith) in
      let part : p ≡ drop i (take n s) ++ x ∷ [] =
      between_is (set s n x) i (n + 1) ∙ ap (drop i) (take_more_set s n x l) ∙ drop-append-le i (take n s) (x ∷ []) (omega arith) in
      let y : ys ≡ x ∷ drop i (take n s) = turned_right p (drop i (take n s)) ys x part turned in
      let front : take i (set s n x) ≡ take i (take n s) = take-set-le i s n x h ∙ sym (take-take i n s h) in
      let reach : i + (n + 1 - i) ≡ n + 1 = omega arith in
      let post : drop (n + 1 - i) (drop i (set s n x)) ≡ drop (n + 1) s =
      drop-drop (n + 1 - i) i (set s n x) ∙ ap (λ k. drop k (set s n x)) reach ∙ drop-set-lt (n + 1) s n x (omega arith) in
      rw (front, y, post) (sym (append_assoc (take i (take n s)) (x ∷ drop i (take n s)) (drop (n + 1) s)))

  -- the slots from i to n were turned left by one
  pub slots_taken : (s : List X) (n i : ℕ) (ys : List X) → n ≤ length s → i < n →
      let p = take (n - i) (drop i s) in
      ys ≡ drop 1 p ++ take 1 p → put_mid i (n - i) s ys ≡ remove (take n s) i ++ (take 1 (drop i s) ++ drop n s)
  slots_taken s n i ys l h turned =
      let p : List X = take (n - i) (drop i s) in
      let t : List X = take n s in
      let one : i + 1 ≡ suc i = omega arith in
      let rest : drop 1 p ≡ drop (suc i) t = ap (drop 1) (between_is s i n) ∙ drop-drop 1 i t ∙ ap (λ k. drop k t) one in
      let first : take 1 p ≡ take 1 (drop i s) = take-take 1 (n - i) (drop i s) (omega arith) in
      let y : ys ≡ drop (suc i) t ++ take 1 (drop i s) = turned ∙ rw (rest, first) in
      let front : take i s ≡ take i t = sym (take-take i n s (omega arith)) in
      let reach : i + (n - i) ≡ n = omega arith in
      let post : drop (n - i) (drop i s) ≡ drop n s = drop-drop (n - i) i s ∙ ap (λ k. drop k s) reach in
      rw (front, y, post) (
      ap (λ zs. take i t ++ zs) (append_assoc (drop (suc i) t) (take 1 (drop i s)) (drop n s))
      ∙ sym (append_assoc (take i t) (drop (suc i) t) (take 1 (drop i s) ++ drop n s))
      )

module _ {X : Type 0} (key : X → Key) (x : X) (s : List X) (n : ℕ) where
  -- the slots that a call may find: full, or the key there, or a gap for it
  pub enters_full : length s ≤ n → take n s ≡ entering (length s) key x (take n s)
  enters_full l =
      let all = take_all n s l in
      cond_above (length (take n s)) (length s) (entered key x (take n s)) (take n s) (take n s) (omega (arith, ap length all)) refl

  pub enters_not : (i : ℕ) → Stands key x (take n s) i → Rising key (take n s) → take n s ≡ entering (length s) key x (take n s)
  enters_not i here up =
      let e = entered_present key (take n s) x i up here in
      cond_both (ltb (length (take n s)) (length s)) (entered key x (take n s)) (take n s) (λ z. take n s ≡ z) (λ _. sym e) (λ _. refl)

  pub enters_here : (i : ℕ) → n < length s → Gap key x (take n s) i → insert (take n s) i x ≡ entering (length s) key x (take n s)
  enters_here i l gap =
      let m = length-take-le n s (omega arith) in
      sym (entered_at key (take n s) x i gap) ∙ cond_below (length (take n s)) (length s) (entered key x (take n s)) (take n s) (omega arith)

  module _ (i r : ℕ) (s' : List X) where
    pub long_put : Put x s n r s' i → length (insert (take n s) i x) ≡ r
    long_put p =
        let w = p.0 in
        let l = p.1 in
        let e = p.2 in
        let m = length-take-le n s (omega arith) in
        length-insert (take n s) i x (omega arith) ∙ omega arith

    pub take_put : Put x s n r s' i → take r s' ≡ insert (take n s) i x
    take_put p = ap (take r) p.3 ∙ take_at (insert (take n s) i x) (drop (n + 1) s) r (long_put p)

    pub drop_put : Put x s n r s' i → drop r s' ≡ drop r s
    drop_put p = ap (drop r) p.3 ∙ drop_at (insert (take n s) i x) (drop (n + 1) s) r (long_put p) ∙ ap (λ k. drop k s) (sym p.2)

    pub length_put : Put x s n r s' i → length s' ≡ length s
    length_put p =
        let l = p.1 in
        let e = p.2 in
        ap length p.3 ∙ length-append (insert (take n s) i x) (drop (n + 1) s) ∙ omega (arith, long_put p, length-drop (n + 1) s)

    pub long_taken : Taken key x s n r s' i → length (remove (take n s) i) ≡ r
    long_taken p =
        let w = p.0 in
        let l = p.1 in
        let e = p.2 in
        let m = length-take-le n s l in
        omega (arith, length-remove (take n s) i (omega arith))

    pub take_taken : Taken key x s n r s' i → take r s' ≡ remove (take n s) i
    take_taken p = ap (take r) p.4 ∙ take_at (remove (take n s) i) (take 1 (drop i s) ++ drop n s) r (long_taken p)

    pub drop_taken : Taken key x s n r s' i → drop r s' ≡ take 1 (drop i s) ++ drop n s
    drop_taken p = ap (drop r) p.4 ∙ drop_at (remove (take n s) i) (take 1 (drop i s) ++ drop n s) r (long_taken p)

    pub length_taken : Taken key x s n r s' i → length s' ≡ length s
    length_taken p =
        let w = p.0 in
        let l = p.1 in
        let e = p.2 in
        let a = length-append (take 1 (drop i s)) (drop n s) in
        let b = length-take-le 1 (drop i s) (omega (arith, length-drop i s)) in
        ap length p.4 ∙ length-append (remove (take n s) i) (take 1 (drop i s) ++ drop n s) ∙ omega (arith, long_taken p, length-drop n s)

    stands-in : Taken key x s n r s' i → Stands key x (take n s) i
    stands-in p =
        let w = p.0 in
        let l = p.1 in
        (omega (arith, length-take-le n s l), λ d. ap key (get_or-take n s i d w) ∙ p.3 d)

    pub without_taken : Taken key x s n r s' i → Rising key (take n s) → take r s' ≡ without key x (take n s)
    without_taken p up = take_taken p ∙ sym (without_at key (take n s) x i up (stands-in p))

    pub having_taken : Taken key x s n r s' i → Rising key (take n s) → drop r s' ≡ having key x (take n s) ++ drop n s
    having_taken p up =
        let w = p.0 in
        let l = p.1 in
        let one : take 1 (drop i (take n s)) ≡ take 1 (drop i s) = ap (take 1) (sym (between_is s i n)) ∙ take-take 1 (n - i) (drop i s) (omega arith) in
        drop_taken p ∙ ap (λ zs. zs ++ drop n s) (sym (having_at key (take n s) x i up (stands-in p) ∙ one))

  pub without_kept : Absent key x (take n s) → take n s ≡ without key x (take n s)
  without_kept none = sym (without_absent key (take n s) x none)

  pub having_kept : Absent key x (take n s) → drop n s ≡ having key x (take n s) ++ drop n s
  having_kept none = sym (ap (λ zs. zs ++ drop n s) (having_absent key (take n s) x none))
