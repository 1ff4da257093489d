-- Bytes to words and back.
use Rattle.std.proofs.Common.{◌≡◌, ℕ, suc, ◌+◌, ◌*◌, ◌/◌, ◌%◌, ◌<◌, List, [], ◌∷◌, length, refl, ap, ◌∙◌, arith}
use native.Mathlib.Nat.{div-div-eq-div-mul}
use Rattle.sheet.specs.Words.{words}
use Rattle.sheet.specs.Layout.{flat}
use Rattle.sheet.specs.Law.{Octets}

four : (w : ℕ) → w / 16777216 * 16777216 + (w / 65536 % 256 * 65536 + (w / 256 % 256 * 256 + w % 256)) ≡ w
four w =
    let e : w / 256 / 256 ≡ w / 65536 = div-div-eq-div-mul w 256 256 in
    let f : w / 65536 / 256 ≡ w / 16777216 = div-div-eq-div-mul w 65536 256 in
    omega (arith, e, f)

pub words-flat : (ws : List ℕ) → words (flat ws) ≡ ws
unfolding words flat
words-flat [] = refl
words-flat (w ∷ ws) = ap (λ (x : ℕ). x ∷ words (flat ws)) (four w) ∙ ap (λ (x : List ℕ). w ∷ x) (words-flat ws)

pub flat-count : (ws : List ℕ) → length (flat ws) ≡ 4 * length ws
unfolding flat
flat-count [] = refl
flat-count (w ∷ ws) = let ih = flat-count ws in omega arith

module _ (a b c d : ℕ) (la : a < 256) (lb : b < 256) (lc : c < 256) (ld : d < 256) where
  top : (a * 16777216 + (b * 65536 + (c * 256 + d))) / 16777216 ≡ a
  top = omega arith

  next : (a * 16777216 + (b * 65536 + (c * 256 + d))) / 65536 % 256 ≡ b
  next = omega arith

  third : (a * 16777216 + (b * 65536 + (c * 256 + d))) / 256 % 256 ≡ c
  third = omega arith

  bottom : (a * 16777216 + (b * 65536 + (c * 256 + d))) % 256 ≡ d
  bottom = omega arith

pub flat-words : (bs : List ℕ) → Octets bs → length bs % 4 ≡ 0 → flat (words bs) ≡ bs
unfolding words flat
flat-words [] o h = refl
flat-words (a ∷ []) o h = absurd (omega arith)
flat-words (a ∷ b ∷ []) o h = absurd (omega arith)
flat-words (a ∷ b ∷ c ∷ []) o h = absurd (omega arith)
flat-words (a ∷ b ∷ c ∷ d ∷ bs) o h =
    let ih = flat-words bs (λ i. o (suc (suc (suc (suc i))))) (omega arith) in
    let la = o 0 in
    let lb = o 1 in
    let lc = o 2 in
    let ld = o 3 in
    rw (top a b c d la lb lc ld, next a b c d la lb lc ld, third a b c d la lb lc ld, bottom a b c d la lb lc ld) (ap (λ (x : List ℕ). a ∷ b ∷ c ∷ d ∷ x) ih)
