-- What a call on an option answers, from what it answers at each value.
use Rattle.std.proofs.Common.{◌≡◌, ℕ, zero, suc, Bool, false, ◌&&◌, nat_eq, nat_lt, Some, None, Option, MatchOption, sym, refl, ◌∙◌, arith}
use Rattle.std.specs.Prelude.{IsSomeAnd, ◌==◌}
use Rattle.std.specs.Option.{option_eq}
use Rattle.std.proofs.lemmas.Bool.Decides.{nat_tests}
use Rattle.layers.specs.Sets.{some_set}

pub mapped : {X Y : Type 0} (o : Option X) (r q : Option Y) (P : X → Y → Type 0) → MatchOption o (r ≡ None) (λ x. IsSomeAnd r (P x))
    → (o ≡ None → q ≡ None) → ((x : X) (y : Y) → o ≡ Some x → P x y → q ≡ Some y) → r ≡ q
mapped None r q P e n s = e ∙ sym (n refl)
mapped (Some x) None q P e n s = absurd e
mapped (Some x) (Some y) q P e n s = sym (s x y refl e)

pub some_and : {X : Type 0} (o : Option X) (r q : Bool) (P : X → Type 0) → MatchOption o (r ≡ false) P
    → (o ≡ None → q ≡ false) → ((x : X) → o ≡ Some x → P x → r ≡ q) → r ≡ q
some_and None r q P e n s = e ∙ sym (n refl)
some_and (Some x) r q P e n s = s x refl e

-- two sets that may be there are one set
pub shared_none : (m n : ℕ) → some_set m ≡ None → (nat_lt 0 m && m == n) ≡ false
shared_none zero n e = refl
shared_none (suc m) n e = absurd (grind arith)

pub shared_some : (m n s : ℕ) → some_set m ≡ Some s → option_eq nat_eq (some_set n) (Some s) ≡ (nat_lt 0 m && m == n)
shared_some zero n s e = absurd (grind arith)
shared_some (suc m) zero s e = grind (arith, nat_tests)
shared_some (suc m) (suc n) s e = let h : suc m ≡ s = grind arith in grind (arith, nat_tests)
