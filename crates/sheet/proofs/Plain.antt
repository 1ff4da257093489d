-- Facts on words and lists that the functions rest on.
use Rattle.std.proofs.Common.{Ordering, Less, Equal, Greater, is_lt, ◌≡◌, ℕ, zero, suc, ◌-◌, ◌%◌, ◌<◌, ◌≤◌, Bool, true, false, cond, ltb, List, [], ◌∷◌, length, get_or, take, drop, Some, None, Option, sym, refl, ap, ◌∙◌, arith}
use Rattle.std.specs.Str.{bytes_eq}
use Rattle.std.specs.List.{find}
use Rattle.std.specs.Bool.{then_some}
use Rattle.std.specs.Option.{MatchOption}
use Rattle.std.specs.List.{slice_get}
use Rattle.std.proofs.lemmas.Option.{none-some, slice_get-get_or}
use Rattle.std.specs.Int.{w32, from_be_bytes}
use Rattle.std.specs.Ordering.{MatchOrdering}
use Rattle.rising.specs.Order.{Key, before, Before}
use Rattle.rising.proofs.Order.{not_before}
use Rattle.sheet.specs.Words.{words}
use Rattle.layers.specs.declared.member.Member.{Member}
use Rattle.layers.specs.Sets.{set_of, some_set}
use Rattle.sheet.specs.Reading.{sized}
use Rattle.std.proofs.lemmas.Bool.{lt-ltb, and_from, le-leb, eq-eqb}
use Rattle.sheet.specs.Contents.{after}

pub after_last : {X : Type 0} (key : X → Key) (xs : List X) (x y d : X) → 0 < length xs → y ≡ get_or xs (length xs - 1) y → after key xs x ≡ before (key y) (key x)
after_last key [] x y d l e = absurd (omega arith)
after_last key (z ∷ []) x y d l e = ap (λ w. before (key w) (key x)) (sym e)
after_last key (z ∷ u ∷ us) x y d l e =
    let s : length (z ∷ u ∷ us) - 1 ≡ suc (length (u ∷ us) - 1) = omega arith in
    after_last key (u ∷ us) x y d (omega arith) (e ∙ ap (λ k. get_or (z ∷ u ∷ us) k y) s)

pub after_none : {X : Type 0} (key : X → Key) (xs : List X) (x : X) → None ≡ slice_get xs (length xs - 1) → after key xs x ≡ true
after_none key [] x e = refl
after_none key (z ∷ zs) x e = absurd (none-some _ (e ∙ slice_get-get_or (z ∷ zs) (length (z ∷ zs) - 1) z (omega arith)))

-- what `is_none_or` answers
pub none_or : {X : Type 0} (o : Option X) (r q : Bool) (P : X → Type 0) → MatchOption o (r ≡ true) P → (o ≡ None → q ≡ true) → ((x : X) → o ≡ Some x → P x → r ≡ q)
    → r ≡ q
none_or None r q P e n s = e ∙ sym (n refl)
none_or (Some x) r q P e n s = s x refl e

-- what a comparison of two keys tells
pub is_lt_before : (x y : Key) (r : Ordering) → MatchOrdering r (Before x y) (x ≡ y) (Before y x) → is_lt r ≡ before x y
is_lt_before x y Less h = sym h
is_lt_before x y Equal h = sym (not_before x y Equal h (λ e. absurd cc))
is_lt_before x y Greater h = sym (not_before x y Greater h (λ e. absurd cc))

-- a word at the front
pub words_short : (bs : List ℕ) → length bs < 4 → words bs ≡ []
unfolding words
words_short [] h = refl
words_short (a ∷ []) h = refl
words_short (a ∷ b ∷ []) h = refl
words_short (a ∷ b ∷ c ∷ []) h = refl
words_short (a ∷ b ∷ c ∷ d ∷ bs) h = absurd (omega arith)

pub words_split : (bs : List ℕ) → 4 ≤ length bs → words bs ≡ from_be_bytes w32 (take 4 bs) ∷ words (drop 4 bs)
unfolding words
words_split [] h = absurd (omega arith)
words_split (a ∷ []) h = absurd (omega arith)
words_split (a ∷ b ∷ []) h = absurd (omega arith)
words_split (a ∷ b ∷ c ∷ []) h = absurd (omega arith)
words_split (a ∷ b ∷ c ∷ d ∷ bs) h = ap (λ (x : ℕ). x ∷ words bs) (omega arith)

-- the set of the member that is found
abbrev pub set_in : Option Member → ℕ
set_in None = 0
set_in (Some m) = m.set

pub set_found : (ms : List Member) (i : List ℕ) → set_of ms i ≡ set_in (find (λ (m : Member). bytes_eq i m.id) ms)
set_found [] i = refl
set_found (m ∷ ms) i = chosen (bytes_eq i m.id) (set_found ms i)
  where
    chosen : (b : Bool) → set_of ms i ≡ set_in (find (λ (m : Member). bytes_eq i m.id) ms) → cond b m.set (set_of ms i) ≡ set_in (cond b (Some m) (find (λ (m : Member). bytes_eq i m.id) ms))
    chosen true h = refl
    chosen false h = h

pub set_told : (n s : ℕ) → n ≡ s → then_some (ltb 0 s) s ≡ some_set n
set_told n zero e = ap some_set (sym e)
set_told n (suc s) e = rw (lt-ltb 0 (suc s) (omega arith)) (ap some_set (sym e))

pub sized_true : (n : ℕ) → 16 ≤ n → n ≤ 784 → n % 4 ≡ 0 → sized n ≡ true
sized_true n a b c = and_from _ _ (le-leb 16 n a) (and_from _ _ (le-leb n 784 b) (eq-eqb (n % 4) 0 c))
