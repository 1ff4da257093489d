-- Words and their parts; lists of entries and their words.
use Rattle.std.proofs.Common.{◌≡◌, ℕ, ◌+◌, ◌-◌, ◌*◌, ◌/◌, ◌<◌, ◌≤◌, true, cond, eqb, List, [], ◌∷◌, ◌++◌, length, get_or, sym, refl, ap, ◌∙◌, ⊎_elim, append_assoc, append-nil, arith}
use native.Mathlib.Nat.{div-div-eq-div-mul}
use Rattle.std.proofs.lemmas.Bool.{and_parts, eq-eqb, cases_lt}
use Rattle.std.proofs.lemmas.List.{get_or_default}
use Rattle.rising.specs.Order.{Key, Before}
use Rattle.rising.specs.Lists.{leads, Rising}
use Rattle.rising.proofs.Lists.{rising_at, rising_push}
use Rattle.rising.proofs.Order.{before_trans}
use Rattle.message.specs.declared.row.Row.{Row}
use Rattle.sheet.specs.Words.{kind, first, second, third, fourth, amount, word}
use Rattle.host.specs.Rows.{tally}
use Rattle.sheet.specs.Contents.{after}
use Rattle.sheet.specs.Layout.{laid}
use Rattle.sheet.proofs.Plain.{after_last}

-- a word is made of its parts
pub from_parts : (w k : ℕ) → kind w ≡ k → word k (first w) (second w) (third w) (fourth w) ≡ w
from_parts w k h =
    let e : w / 128 / 128 ≡ w / 16384 = div-div-eq-div-mul w 128 128 in
    let f : w / 16384 / 128 ≡ w / 2097152 = div-div-eq-div-mul w 16384 128 in
    let g : w / 2097152 / 128 ≡ w / 268435456 = div-div-eq-div-mul w 2097152 128 in
    omega (arith, e, f, g)

pub from_amount : (w : ℕ) → kind w ≡ 8 → w ≡ 8 * 268435456 + amount w
from_amount w h = omega arith

-- a word, and what its parts are
pub record Fields (k a b c d w : ℕ) : Type 0 where
  pub kind_is : kind w ≡ k
  pub first_is : first w ≡ a
  pub second_is : second w ≡ b
  pub third_is : third w ≡ c
  pub fourth_is : fourth w ≡ d

pub fields : (k a b c d : ℕ) → a < 128 → b < 128 → c < 128 → d < 128 → Fields k a b c d (word k a b c d)
fields k a b c d la lb lc ld = record {
  kind_is = omega arith;
  first_is = omega arith;
  second_is = omega arith;
  third_is = omega arith;
  fourth_is = omega arith;
}

module _ {X : Type 0} where
  pub laid_push : (f : X → List ℕ) (xs : List X) (x : X) → laid f (xs ++ x ∷ []) ≡ laid f xs ++ f x
  laid_push f [] x = simp append-nil
  laid_push f (y ∷ ys) x = ap (λ (z : List ℕ). f y ++ z) (laid_push f ys x) ∙ sym (append_assoc (f y) (laid f ys) (f x))

  pub rising_after : (key : X → Key) (xs : List X) (x : X) → Rising key xs → after key xs x ≡ true → Rising key (xs ++ x ∷ [])
  rising_after key xs x up h =
      rising_push key xs x up (λ k d l.
      let y : X = get_or xs (length xs - 1) d in
      let n : 0 < length xs = omega arith in
      let i : length xs - 1 < length xs = omega arith in
      let r : y ≡ get_or xs (length xs - 1) y = get_or_default xs (length xs - 1) d y i in
      let b : Before (key y) (key x) = sym (after_last key xs x y d n r) ∙ h in
      ⊎_elim
      (λ (e : k < length xs - 1). before_trans (key (get_or xs k d)) (key y) (key x) (rising_at key xs up k (length xs - 1) d e i) b)
      (λ (e : length xs - 1 ≤ k). let s : k ≡ length xs - 1 = omega arith in rw s b)
      (cases_lt k (length xs - 1)))

  pub after_rising : (key : X → Key) (xs : List X) (x : X) (zs : List X) → Rising key (xs ++ x ∷ zs) → after key xs x ≡ true
  after_rising key [] x zs h = refl
  after_rising key (y ∷ []) x zs h = (and_parts _ _ (and_parts (leads key y (x ∷ zs)) _ h).0).0
  after_rising key (y ∷ u ∷ us) x zs h = after_rising key (u ∷ us) x zs (and_parts (leads key y ((u ∷ us) ++ x ∷ zs)) _ h).1

pub tally_push : (a : ℕ) (xs : List Row) (r : Row) → tally a (xs ++ r ∷ []) ≡ tally a xs + cond (eqb a r.address) 1 0
tally_push a [] r = omega arith
tally_push a (y ∷ ys) r = let ih = tally_push a ys r in omega arith

pub tally_more_than : (a : ℕ) (xs : List Row) (r : Row) (zs : List Row) → r.address ≡ a → tally a xs < tally a (xs ++ r ∷ zs)
tally_more_than a [] r zs h = let t = eq-eqb a r.address (sym h) in rw t (omega arith)
tally_more_than a (y ∷ ys) r zs h = let ih = tally_more_than a ys r zs h in omega arith
