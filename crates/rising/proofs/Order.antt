-- The order of keys is the library's order of lists of numbers, so it is strict and total, and `cmp` on arrays of numbers answers by it.
use Rattle.std.proofs.Common.{◌≡◌, ℕ, true, false, List, ◌∷◌, Ordering, Less, Equal, Greater, sym, refl, ap, ◌∙◌, arith}
use Rattle.std.specs.Cmp.Lexicographic.{slice_cmp}
use Rattle.std.specs.Ordering.{MatchOrdering, nat_cmp, ordering_reverse, is_lt, is_eq}
use Rattle.std.proofs.lemmas.Cmp.{nat_list_cmp_total, tied_itself, same_from_slice_cmp}
use Rattle.std.proofs.lemmas.Map.Text.{is_eq-slice_cmp}
use Rattle.std.proofs.lemmas.Slice.Eq.{bytes_eq-Decides}
use Rattle.std.proofs.lemmas.Bool.Decides.{nat_tests}
use Rattle.std.proofs.lemmas.Bool.{false_from_ne_true, both_ways}
use Rattle.rising.specs.Order.{Key, before, Before, same_key}

-- how one key stands to another, as `cmp` answers
abbrev pub order : Key → Key → Ordering
order = slice_cmp nat_cmp

pub before_order : (x y : Key) → before x y ≡ is_lt (order x y)
before_order x y = sym (same_from_slice_cmp nat_cmp is_lt before refl (λ _ _. refl) (λ _ _. refl) (λ x y xs ys o e. grind (arith, nat_tests)) x y _ refl)

less : (r : Ordering) → is_lt r ≡ true → r ≡ Less
less Less h = refl
less Equal h = grind arith
less Greater h = grind arith

order_before : (x y : Key) → Before x y → order x y ≡ Less
order_before x y h = less (order x y) (sym (before_order x y) ∙ h)

order_after : (x y : Key) → Before y x → order x y ≡ Greater
order_after x y h = nat_list_cmp_total.antisymm x y ∙ ap ordering_reverse (order_before y x h)

pub same_refl : (x : Key) → same_key x x ≡ true
same_refl x = (bytes_eq-Decides x x).1 refl

pub same_eq : (x y : Key) → same_key x y ≡ true → x ≡ y
same_eq x y = (bytes_eq-Decides x y).0

pub same_from : (x y : Key) → x ≡ y → same_key x y ≡ true
same_from x y = (bytes_eq-Decides x y).1

pub differs_from : (x y : Key) → (x ≡ y → ⊥) → same_key x y ≡ false
differs_from x y n = false_from_ne_true (same_key x y) (λ e. n (same_eq x y e))

-- what `cmp` answers says how the keys stand
pub ranked_from_lex : (x y : List ℕ) (r : Ordering) → r ≡ order x y → MatchOrdering r (Before x y) (x ≡ y) (Before y x)
ranked_from_lex x y Less e = before_order x y ∙ ap is_lt (sym e)
ranked_from_lex x y Equal e = same_eq x y (sym (is_eq-slice_cmp x y) ∙ ap is_eq (sym e))
ranked_from_lex x y Greater e = before_order y x ∙ ap is_lt (nat_list_cmp_total.antisymm y x ∙ ap ordering_reverse (sym e))

-- and an answer that says how they stand is that of `cmp`
pub compared : (x y : Key) (r : Ordering) → MatchOrdering r (Before x y) (x ≡ y) (Before y x) → r ≡ order x y
compared x y Less h = sym (order_before x y h)
compared x y Equal h = rw h (sym (tied_itself nat_list_cmp_total y))
compared x y Greater h = sym (order_after x y h)

pub before_irrefl : (x : Key) → before x x ≡ false
before_irrefl x = before_order x x ∙ ap is_lt (tied_itself nat_list_cmp_total x)

pub before_trans : (x y z : Key) → Before x y → Before y z → Before x z
before_trans x y z p q = before_order x z ∙ ap is_lt (nat_list_cmp_total.trans x y z (order_before x y p) (order_before y z q))

pub before_asym : (x y : Key) → Before x y → before y x ≡ false
before_asym x y p = before_order y x ∙ ap is_lt (order_after y x p)

pub before_same : (x y : Key) → before x y ≡ false → before y x ≡ false → x ≡ y
before_same x y p q = by (order x y) (ranked_from_lex x y (order x y) refl)
  where
    by : (r : Ordering) → MatchOrdering r (Before x y) (x ≡ y) (Before y x) → x ≡ y
    by Less h = absurd (both_ways (before x y) p h)
    by Equal h = h
    by Greater h = absurd (both_ways (before y x) q h)

-- whether an answer is `Less`
pub lt_answers : (x y : Key) (r : Ordering) → MatchOrdering r (Before x y) (x ≡ y) (Before y x) → is_lt r ≡ before x y
lt_answers x y r h = ap is_lt (compared x y r h) ∙ sym (before_order x y)

-- any answer but `Less`
pub not_before : (x y : Key) (r : Ordering) → MatchOrdering r (Before x y) (x ≡ y) (Before y x) → (r ≡ Less → ⊥) → before x y ≡ false
not_before x y Less h n = absurd (n refl)
not_before x y Equal h n = rw h (before_irrefl y)
not_before x y Greater h n = before_asym y x h

pub differs_below : (x y : Key) → Before x y → same_key x y ≡ false
differs_below x y b = differs_from x y (λ e. both_ways (before y y) (before_irrefl y) (rw e at b))

-- equal fronts leave the answer to what follows
pub ranked_cons : (x y : ℕ) (xs ys : List ℕ) (r : Ordering) → x ≡ y → MatchOrdering r (Before xs ys) (xs ≡ ys) (Before ys xs) → MatchOrdering r (Before (x ∷ xs) (y ∷ ys)) (◌≡◌ {A = List ℕ} (x ∷ xs) (y ∷ ys)) (Before (y ∷ ys) (x ∷ xs))
ranked_cons x y xs ys Less e h = grind (arith, nat_tests)
ranked_cons x y xs ys Equal e h = cc
ranked_cons x y xs ys Greater e h = grind (arith, nat_tests)
