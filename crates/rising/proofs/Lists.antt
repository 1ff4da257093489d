-- What rising lists keep.
use Rattle.std.proofs.Common.{◌≡◌, ℕ, zero, suc, ◌+◌, ◌<◌, ◌≤◌, Bool, true, false, List, [], ◌∷◌, ◌++◌, length, get_or, take, drop, Some, None, sym, refl, ap, ◌∙◌, ⊎_elim, zero-le, arith}
use native.Mathlib.Numerals.{unary_clauses}
use Rattle.std.proofs.lemmas.Bool.{and_parts, and_from, or_from, or_left, or_right, or_cases, both_ways, cases_Bool, cases_lt, false_from_ne_true}
use Rattle.std.specs.List.{insert, remove, AllAdjacentBelow, IsAllAdjacentAnswer}
use Rattle.std.proofs.lemmas.List.{get_or_default}
use Rattle.std.proofs.lemmas.List.Elements.{at_read}
use Rattle.rising.specs.Order.{Key, before, Before, same_key}
use Rattle.rising.specs.Lists.{leads, rising, Rising, holds, found, Stands, Absent, Gap, entered, without, having}
use Rattle.rising.proofs.Order.{before_irrefl, before_trans, before_asym, same_eq, same_from, differs_from, differs_below}

module _ {X : Type 0} (key : X → Key) where
  pub leads_at : (x : X) (xs : List X) → leads key x xs ≡ true → (j : ℕ) (d : X) → j < length xs → Before (key x) (key (get_or xs j d))
  leads_at x [] h j d l = absurd (omega arith)
  leads_at x (y ∷ ys) h zero d l = (and_parts _ _ h).0
  leads_at x (y ∷ ys) h (suc j) d l = leads_at x ys (and_parts _ _ h).1 j d (omega arith)

  pub rising_at : (xs : List X) → Rising key xs → (i j : ℕ) (d : X) → i < j → j < length xs → Before (key (get_or xs i d)) (key (get_or xs j d))
  rising_at [] h i j d l m = absurd (omega arith)
  rising_at (x ∷ xs) h i zero d l m = absurd (omega arith)
  rising_at (x ∷ xs) h zero (suc j) d l m = leads_at x xs (and_parts _ _ h).0 j d (omega arith)
  rising_at (x ∷ xs) h (suc i) (suc j) d l m = rising_at xs (and_parts _ _ h).1 i j d (omega arith) (omega arith)

  -- a record before x has only such in front of it
  pub low_more : (xs : List X) (x : X) → Rising key xs → (m : ℕ) (y : X) → m < length xs → y ≡ get_or xs m y → Before (key y) (key x) → (k : ℕ) (d : X) → k < m + 1 → Before (key (get_or xs k d)) (key x)
  low_more xs x up m y l read here k d h =
      let at = at_read xs (λ z. Before (key z) (key x)) m y l read here d in
      ⊎_elim
      (λ (e : k < m). before_trans (key (get_or xs k d)) (key (get_or xs m d)) (key x) (rising_at xs up k m d e l) at)
      (λ (e : m ≤ k). let s : m ≡ k = omega arith in rw s at at)
      (cases_lt k m)

  -- a record after x has only such after it
  pub high_more : (xs : List X) (x : X) → Rising key xs → (m : ℕ) (y : X) → m < length xs → y ≡ get_or xs m y → Before (key x) (key y) → (k : ℕ) (d : X) → m ≤ k → k < length xs → Before (key x) (key (get_or xs k d))
  high_more xs x up m y l read here k d h lk =
      let at = at_read xs (λ z. Before (key x) (key z)) m y l read here d in
      ⊎_elim
      (λ (e : m < k). before_trans (key x) (key (get_or xs m d)) (key (get_or xs k d)) at (rising_at xs up m k d e lk))
      (λ (e : k ≤ m). let s : m ≡ k = omega arith in rw s at at)
      (cases_lt m k)

  pub absent_from_gap : (xs : List X) (x : X) (i : ℕ) → Gap key x xs i → Absent key x xs
  absent_from_gap xs x i g k d l e =
      let irr = before_irrefl (key x) in
      ⊎_elim
      (λ (h : k < i). let b = rw e at (g.low k d h) in grind arith)
      (λ (h : i ≤ k). let b = rw e at (g.high k d h l) in grind arith)
      (cases_lt k i)

  -- at the gap the record enters
  pub entered_at : (xs : List X) (x : X) (i : ℕ) → Gap key x xs i → entered key x xs ≡ insert xs i x
  entered_at [] x zero g = refl
  entered_at [] x (suc i) g = absurd (let w = g.within in omega arith)
  entered_at (y ∷ ys) x zero g =
      let h = g.high 0 x zero-le (omega arith) in
      let n = before_asym (key x) (key y) h in
      rw (n, h)
  entered_at (y ∷ ys) x (suc i) g =
      let l = g.low 0 x (omega arith) in
      let ih = entered_at ys x i (record {
        within = let w = g.within in omega arith;
        low = λ k d h. g.low (suc k) d (omega arith);
        high = λ k d h m. g.high (suc k) d (omega arith) (omega arith);
      }) in
      rw l (ap (λ zs. y ∷ zs) ih)

  pub entered_present : (xs : List X) (x : X) (i : ℕ) → Rising key xs → Stands key x xs i → entered key x xs ≡ xs
  entered_present [] x i up s = absurd (let w = s.0 in omega arith)
  entered_present (y ∷ ys) x zero up s =
      let e : key y ≡ key x = s.1 x in
      let n = before_irrefl (key x) in
      rw (e, n)
  entered_present (y ∷ ys) x (suc i) up s =
      let l : Before (key y) (key x) = rw (s.1 x) at (rising_at (y ∷ ys) up 0 (suc i) x (omega arith) s.0) in
      let ih = entered_present ys x i (and_parts _ _ up).1 ((let w = s.0 in omega arith), λ d. s.1 d) in
      rw l (ap (λ zs. y ∷ zs) ih)

  pub without_absent : (xs : List X) (x : X) → Absent key x xs → without key x xs ≡ xs
  without_absent [] x a = refl
  without_absent (y ∷ ys) x a =
      let t = differs_from (key y) (key x) (a 0 y (omega arith)) in
      let ih = without_absent ys x (λ k d l e. a (suc k) d (omega arith) e) in
      rw t (ap (λ zs. y ∷ zs) ih)

  -- nothing after a record with the key of x has it again
  absent-after : (x y : X) (ys : List X) → key y ≡ key x → leads key y ys ≡ true → Absent key x ys
  absent-after x y ys e h k d l q =
      let b : before (key x) (key x) ≡ true = rw (e, q) at (leads_at y ys h k d l) in
      let n = before_irrefl (key x) in
      grind arith

  pub without_at : (xs : List X) (x : X) (i : ℕ) → Rising key xs → Stands key x xs i → without key x xs ≡ remove xs i
  without_at [] x i up s = absurd (let w = s.0 in omega arith)
  without_at (y ∷ ys) x zero up s =
      let e : same_key (key y) (key x) ≡ true = same_from (key y) (key x) (s.1 x) in
      let rest = without_absent ys x (absent-after x y ys (s.1 x) (and_parts _ _ up).0) in
      rw e rest
  without_at (y ∷ ys) x (suc i) up s =
      let l : Before (key y) (key x) = rw (s.1 x) at (rising_at (y ∷ ys) up 0 (suc i) x (omega arith) s.0) in
      let ih = without_at ys x i (and_parts _ _ up).1 ((let w = s.0 in omega arith), λ d. s.1 d) in
      rw (differs_below (key y) (key x) l) (ap (λ zs. y ∷ zs) ih)

  -- a record before all others stays so when a record after it enters
  leads-entered : (z x : X) (xs : List X) → Before (key z) (key x) → leads key z xs ≡ true → leads key z (entered key x xs) ≡ true
  leads-entered z x [] b h = rw b
  leads-entered z x (y ∷ ys) b h =
      let p = and_parts (before (key z) (key y)) (leads key z ys) h in
      let ih = leads-entered z x ys b p.1 in
      let q = p.0 in
      let r = p.1 in
      grind (arith, cases_Bool (before (key y) (key x)), cases_Bool (before (key x) (key y)))

  leads-trans : (x y : X) (ys : List X) → Before (key x) (key y) → leads key y ys ≡ true → leads key x ys ≡ true
  leads-trans x y [] b h = refl
  leads-trans x y (z ∷ zs) b h =
      let p = and_parts (before (key y) (key z)) (leads key y zs) h in
      and_from _ _ (before_trans (key x) (key y) (key z) b p.0) (leads-trans x y zs b p.1)

  pub rising_entered : (x : X) (xs : List X) → Rising key xs → Rising key (entered key x xs)
  rising_entered x [] h = refl
  rising_entered x (y ∷ ys) h =
      let p = and_parts (leads key y ys) (rising key ys) h in
      let ih = rising_entered x ys p.1 in
      let up = leads-entered y x ys in
      let tr = leads-trans x y ys in
      let q = p.0 in
      let r = p.1 in
      grind (arith, cases_Bool (before (key y) (key x)), cases_Bool (before (key x) (key y)))

  leads-without : (z x : X) (xs : List X) → leads key z xs ≡ true → leads key z (without key x xs) ≡ true
  leads-without z x [] h = refl
  leads-without z x (y ∷ ys) h =
      let p = and_parts (before (key z) (key y)) (leads key z ys) h in
      let ih = leads-without z x ys p.1 in
      let q = p.0 in
      grind (arith, cases_Bool (same_key (key y) (key x)))

  pub rising_without : (x : X) (xs : List X) → Rising key xs → Rising key (without key x xs)
  rising_without x [] h = refl
  rising_without x (y ∷ ys) h =
      let p = and_parts (leads key y ys) (rising key ys) h in
      let ih = rising_without x ys p.1 in
      let up = leads-without y x ys p.0 in
      grind (arith, cases_Bool (same_key (key y) (key x)))

  leads-push : (x y : X) (xs : List X) → leads key x xs ≡ true → Before (key x) (key y) → leads key x (xs ++ y ∷ []) ≡ true
  leads-push x y [] h b = rw b
  leads-push x y (z ∷ zs) h b =
      let p = and_parts (before (key x) (key z)) (leads key x zs) h in
      and_from _ _ p.0 (leads-push x y zs p.1 b)

  -- one more at the end, after the last
  pub rising_push : (xs : List X) (y : X) → Rising key xs → ((k : ℕ) (d : X) → k < length xs → Before (key (get_or xs k d)) (key y)) → Rising key (xs ++ y ∷ [])
  rising_push [] y h b = refl
  rising_push (x ∷ xs) y h b =
      let p = and_parts (leads key x xs) (rising key xs) h in
      and_from _ _ (leads-push x y xs p.0 (b 0 x (omega arith))) (rising_push xs y p.1 (λ k d l. b (suc k) d (omega arith)))

  -- a list rises if each record stands before the next
  rising-neighbours : (xs : List X) → AllAdjacentBelow (λ x y. true ≡ before (key x) (key y)) xs (length xs) → Rising key xs
  rising-neighbours [] h = refl
  rising-neighbours (x ∷ []) h = refl
  rising-neighbours (x ∷ y ∷ ys) h =
      let b = sym (h 0 x (omega arith)) in
      let up = rising-neighbours (y ∷ ys) (λ k d l. simp unary_clauses (simp unary_clauses at (h (suc k) d (omega arith)))) in
      and_from _ _ (and_from _ _ b (leads-trans x y ys b (and_parts _ _ up).0)) up

  pub rises_by : (xs : List X) (r : Bool) → IsAllAdjacentAnswer (λ x y b. b ≡ before (key x) (key y)) xs r → r ≡ rising key xs
  rises_by xs true h = sym (rising-neighbours xs h)
  rises_by [] false h = absurd (let l = h.1 in omega arith)
  rises_by (x ∷ xs) false h = sym (false_from_ne_true _ (λ up. both_ways _ (sym (h.2 x)) (rising_at (x ∷ xs) up h.0 (h.0 + 1) x (omega arith) h.1)))

  pub found_absent : (xs : List X) (x : X) → Absent key x xs → found key x xs ≡ None
  found_absent [] x a = refl
  found_absent (y ∷ ys) x a = rw (differs_from (key y) (key x) (a 0 y (omega arith))) (found_absent ys x (λ k d l e. a (suc k) d (omega arith) e))

  pub found_stands : (xs : List X) (x : X) (i : ℕ) (d : X) → Rising key xs → Stands key x xs i → found key x xs ≡ Some (get_or xs i d)
  found_stands [] x i d up s = absurd (let w = s.0 in omega arith)
  found_stands (z ∷ zs) x zero d up s = rw (same_from (key z) (key x) (s.1 x))
  found_stands (z ∷ zs) x (suc i) d up s =
      let l : Before (key z) (key x) = rw (s.1 x) at (rising_at (z ∷ zs) up 0 (suc i) x (omega arith) s.0) in
      rw (differs_below (key z) (key x) l) (found_stands zs x i d (and_parts _ _ up).1 ((let w = s.0 in omega arith), λ e. s.1 e))

  pub holds_absent : (xs : List X) (x : X) → Absent key x xs → holds key x xs ≡ false
  holds_absent [] x a = refl
  holds_absent (y ∷ ys) x a = or_from _ _ (differs_from (key y) (key x) (a 0 y (omega arith))) (holds_absent ys x (λ k d l e. a (suc k) d (omega arith) e))

  pub holds_stands : (xs : List X) (x : X) (i : ℕ) → Stands key x xs i → holds key x xs ≡ true
  holds_stands [] x i s = absurd (let w = s.0 in omega arith)
  holds_stands (z ∷ zs) x zero s = or_left _ _ (same_from (key z) (key x) (s.1 x))
  holds_stands (z ∷ zs) x (suc i) s = or_right (same_key (key z) (key x)) (holds key x zs) (holds_stands zs x i ((let w = s.0 in omega arith), λ e. s.1 e))

  -- in a rising list a key stands at one place
  pub stands_once : (xs : List X) (x : X) → Rising key xs → (i j : ℕ) → Stands key x xs i → Stands key x xs j → i ≡ j
  stands_once xs x up i j s t =
      ⊎_elim
      (λ (h : i < j).
      let b : Before (key x) (key x) = rw (s.1 x, t.1 x) at (rising_at xs up i j x h t.0) in
      absurd (both_ways (before (key x) (key x)) (before_irrefl (key x)) b))
      (λ (h : j ≤ i).
      ⊎_elim
      (λ (h2 : j < i).
      let b : Before (key x) (key x) = rw (t.1 x, s.1 x) at (rising_at xs up j i x h2 s.0) in
      absurd (both_ways (before (key x) (key x)) (before_irrefl (key x)) b))
      (λ (h2 : i ≤ j). omega arith)
      (cases_lt j i))
      (cases_lt i j)

  -- a key that is held stands somewhere
  pub holds_place : (xs : List X) (x : X) → holds key x xs ≡ true → (i : ℕ) × Stands key x xs i
  holds_place [] x h = absurd (grind arith)
  holds_place (y ∷ ys) x h =
      ⊎_elim
      (λ (t : (same_key (key y) (key x) ≡ true)). (0, (omega arith, λ d. same_eq (key y) (key x) t)))
      (λ (t : (holds key x ys ≡ true)). let p = holds_place ys x t in let l = p.1.0 in (suc p.0, (omega arith, p.1.1)))
      (or_cases (same_key (key y) (key x)) (holds key x ys) h)

  pub absent_from_holds : (xs : List X) (x : X) → holds key x xs ≡ false → Absent key x xs
  absent_from_holds xs x h k d l e = both_ways (holds key x xs) h (holds_stands xs x k (l, λ c. ap key (get_or_default xs k c d l) ∙ e))

  pub having_absent : (xs : List X) (x : X) → Absent key x xs → having key x xs ≡ []
  having_absent [] x a = refl
  having_absent (y ∷ ys) x a = rw (differs_from (key y) (key x) (a 0 y (omega arith))) (having_absent ys x (λ k d l e. a (suc k) d (omega arith) e))

  pub having_at : (xs : List X) (x : X) (i : ℕ) → Rising key xs → Stands key x xs i → having key x xs ≡ take 1 (drop i xs)
  having_at [] x i up s = absurd (let w = s.0 in omega arith)
  having_at (y ∷ ys) x zero up s =
      let e : same_key (key y) (key x) ≡ true = same_from (key y) (key x) (s.1 x) in
      let none = having_absent ys x (absent-after x y ys (s.1 x) (and_parts _ _ up).0) in
      rw e (ap (λ zs. y ∷ zs) none)
  having_at (y ∷ ys) x (suc i) up s =
      let l : Before (key y) (key x) = rw (s.1 x) at (rising_at (y ∷ ys) up 0 (suc i) x (omega arith) s.0) in
      rw (differs_below (key y) (key x) l) (having_at ys x i (and_parts _ _ up).1 ((let w = s.0 in omega arith), λ d. s.1 d))
