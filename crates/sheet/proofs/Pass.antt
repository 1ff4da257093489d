-- The pass over the rows finds nothing exactly if no two of them collide.
use Rattle.std.proofs.Common.{◌≡◌, ℕ, zero, suc, ◌+◌, ◌<◌, true, false, List, [], ◌∷◌, ◌++◌, length, get_or, take, Some, None, sym, refl, ap, ◌∙◌, ⊎_elim, append_assoc, append-nil, arith}
use Rattle.std.proofs.lemmas.Bool.{or_parts, cases_Bool, cond-true, cond-false}
use Rattle.std.proofs.lemmas.List.Recursion.{or_from_places}
use Rattle.std.proofs.lemmas.List.{get_or-take, length-take-le}
use Rattle.message.specs.declared.row.Row.{Row}
use Rattle.host.specs.Tables.{blank}
use Rattle.layers.specs.declared.member.Member.{Member}
use Rattle.sheet.specs.Collisions.{collide, hit, clash}
use Rattle.sheet.proofs.Orderly.{Apart, Clear}

module _ (ms : List Member) where
  miss-at : (r : Row) (xs : List Row) → hit ms r xs ≡ false → (j : ℕ) → j < length xs → collide ms r (get_or xs j blank) ≡ false
  miss-at r [] h j l = absurd (omega arith)
  miss-at r (x ∷ xs) h zero l = (or_parts _ _ h).0
  miss-at r (x ∷ xs) h (suc j) l = miss-at r xs (or_parts (collide ms r x) _ h).1 j (omega arith)

  not-hit : (n : ℕ) (earlier : List Row) (r : Row) (rs : List Row) → clash ms n earlier (r ∷ rs) ≡ None → (hit ms r earlier ≡ false) × (clash ms (n + 2) (earlier ++ r ∷ []) rs ≡ None)
  not-hit n earlier r rs h =
      ⊎_elim
      (λ (t : (hit ms r earlier ≡ true)). absurd (let e : Some n ≡ None = sym (cond-true _ (Some n) (clash ms (n + 2) (earlier ++ r ∷ []) rs) t) ∙ h in cc))
      (λ (t : (hit ms r earlier ≡ false)). (t, sym (cond-false _ (Some n) (clash ms (n + 2) (earlier ++ r ∷ []) rs) t) ∙ h))
      (cases_Bool (hit ms r earlier))

  pass-at : (n : ℕ) (earlier rs : List Row) → clash ms n earlier rs ≡ None → (k : ℕ) → k < length rs → hit ms (get_or rs k blank) (earlier ++ take k rs) ≡ false
  pass-at n earlier [] h k l = absurd (omega arith)
  pass-at n earlier (r ∷ rs) h zero l = rw append-nil (not-hit n earlier r rs h).0
  pass-at n earlier (r ∷ rs) h (suc k) l = rw append_assoc at (pass-at (n + 2) (earlier ++ r ∷ []) rs (not-hit n earlier r rs h).1 k (omega arith))

  pass_all : (n : ℕ) (earlier rs : List Row) → ((k : ℕ) → k < length rs → hit ms (get_or rs k blank) (earlier ++ take k rs) ≡ false) → clash ms n earlier rs ≡ None
  pass_all n earlier [] h = refl
  pass_all n earlier (r ∷ rs) h =
      cond-false _ _ _ (rw append-nil at (h 0 (omega arith)))
      ∙ pass_all (n + 2) (earlier ++ r ∷ []) rs (λ k l. rw append_assoc (h (suc k) (omega arith)))

  pub apart_from : (n : ℕ) (rs : List Row) → clash ms n [] rs ≡ None → Apart ms rs
  apart_from n rs h j k l m =
      let s = length-take-le k rs (omega arith) in
      let q = miss-at (get_or rs k blank) (take k rs) (pass-at n [] rs h k m) j (omega arith) in
      ap (collide ms (get_or rs k blank)) (sym (get_or-take k rs j blank l)) ∙ q

  clear_from : (rs : List Row) → Apart ms rs → Clear ms rs
  clear_from rs h k l =
      or_from_places (hit ms (get_or rs k blank)) (collide ms (get_or rs k blank)) refl (λ _ _. refl) (take k rs) blank (λ j m.
      let s = length-take-le k rs (omega arith) in
      let b : j < k = omega arith in
      ap (collide ms (get_or rs k blank)) (get_or-take k rs j blank b) ∙ h j k b l)

  pub pass_from : (n : ℕ) (rs : List Row) → Apart ms rs → clash ms n [] rs ≡ None
  pass_from n rs h = pass_all n [] rs (clear_from rs h)
