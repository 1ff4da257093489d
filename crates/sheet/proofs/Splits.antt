-- A short list is its elements, one by one.
use Rattle.std.proofs.Common.{◌≡◌, ℕ, zero, suc, ◌<◌, true, ltb, List, [], ◌∷◌, length, get_or, refl, arith}
use Rattle.std.proofs.lemmas.Bool.{and_parts, ltb-true}
use Rattle.message.specs.Bytes.{sevens}

pub five_of : (i : List ℕ) → length i ≡ 5 → get_or i 0 0 ∷ get_or i 1 0 ∷ get_or i 2 0 ∷ get_or i 3 0 ∷ get_or i 4 0 ∷ [] ≡ i
five_of [] eq = absurd (omega arith)
five_of (a ∷ []) eq = absurd (omega arith)
five_of (a ∷ b ∷ []) eq = absurd (omega arith)
five_of (a ∷ b ∷ c ∷ []) eq = absurd (omega arith)
five_of (a ∷ b ∷ c ∷ d ∷ []) eq = absurd (omega arith)
five_of (a ∷ b ∷ c ∷ d ∷ e ∷ []) eq = refl
five_of (a ∷ b ∷ c ∷ d ∷ e ∷ z ∷ zs) eq = absurd (omega arith)

pub eleven-of : (i : List ℕ) → length i ≡ 11 → get_or i 0 0 ∷ get_or i 1 0 ∷ get_or i 2 0 ∷ get_or i 3 0 ∷ get_or i 4 0 ∷ get_or i 5 0 ∷ get_or i 6 0 ∷ get_or i 7 0 ∷ get_or i 8 0 ∷ get_or i 9 0 ∷ get_or i 10 0 ∷ [] ≡ i
eleven-of [] eq = absurd (omega arith)
eleven-of (a ∷ []) eq = absurd (omega arith)
eleven-of (a ∷ b ∷ []) eq = absurd (omega arith)
eleven-of (a ∷ b ∷ c ∷ []) eq = absurd (omega arith)
eleven-of (a ∷ b ∷ c ∷ d ∷ []) eq = absurd (omega arith)
eleven-of (a ∷ b ∷ c ∷ d ∷ e ∷ []) eq = absurd (omega arith)
eleven-of (a ∷ b ∷ c ∷ d ∷ e ∷ f ∷ []) eq = absurd (omega arith)
eleven-of (a ∷ b ∷ c ∷ d ∷ e ∷ f ∷ g ∷ []) eq = absurd (omega arith)
eleven-of (a ∷ b ∷ c ∷ d ∷ e ∷ f ∷ g ∷ h ∷ []) eq = absurd (omega arith)
eleven-of (a ∷ b ∷ c ∷ d ∷ e ∷ f ∷ g ∷ h ∷ i ∷ []) eq = absurd (omega arith)
eleven-of (a ∷ b ∷ c ∷ d ∷ e ∷ f ∷ g ∷ h ∷ i ∷ j ∷ []) eq = absurd (omega arith)
eleven-of (a ∷ b ∷ c ∷ d ∷ e ∷ f ∷ g ∷ h ∷ i ∷ j ∷ k ∷ []) eq = refl
eleven-of (a ∷ b ∷ c ∷ d ∷ e ∷ f ∷ g ∷ h ∷ i ∷ j ∷ k ∷ z ∷ zs) eq = absurd (omega arith)

pub low-at : (i : List ℕ) → sevens i ≡ true → (k : ℕ) → get_or i k 0 < 128
low-at [] h k = omega arith
low-at (a ∷ i) h zero = ltb-true a 128 (and_parts _ _ h).0
low-at (a ∷ i) h (suc k) = low-at i (and_parts (ltb a 128) _ h).1 k
