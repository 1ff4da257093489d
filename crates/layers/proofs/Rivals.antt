-- Rows of one set that are on at one address, over a switch, a plug and a pull through the sets layer.
use Rattle.std.proofs.Common.{◌≡◌, ℕ, ◌+◌, ◌<◌, ◌≤◌, Bool, true, false, cond, not, ◌&&◌, eqb, ltb, List, [], ◌∷◌, map, Some, None, Option, sym, refl, subst, arith}
use Rattle.std.specs.Str.{bytes_eq}
use Rattle.std.specs.List.{AllByRecursion, list_any, filter}
use Rattle.std.proofs.lemmas.Bool.{and_parts, and_from, or_left, or_right, eqb-true, lt-ltb, true≢false, both_ways, cond_both}
use Rattle.std.proofs.lemmas.Slice.Eq.{bytes_eq-Decides}
use Rattle.rising.specs.Order.{before}
use Rattle.rising.specs.Lists.{leads, rising, Rising, entered}
use Rattle.rising.proofs.Order.{before_irrefl}
use Rattle.message.specs.Rows.{row_key}
use Rattle.message.specs.declared.row.Row.{Row}
use Rattle.host.specs.Rows.{row, same, look, without_row}
use Rattle.host.specs.Hosts.{Consents, differs, goes, turned}
use Rattle.layers.specs.declared.member.Member.{Member}
use Rattle.layers.specs.Sets.{set_of, rival, set_on, setted, count_on, AtMostOne}

same_parts : (a : ℕ) (i : List ℕ) (r : Row) → same a i r ≡ true → (a ≡ r.address) × (i ≡ r.id)
same_parts a i r e = let p = and_parts (eqb a r.address) (bytes_eq i r.id) e in (eqb-true a r.address p.0, (bytes_eq-Decides i r.id).0 p.1)

-- rows that rise have different addresses or IDs

abbrev Distinct : List Row → Type 0
Distinct [] = Unit {0}
Distinct (r ∷ l) = (look l r.address r.id ≡ None) × Distinct l

fresh_go : (x r : Row) (l : List Row) (k : Bool) → same x.address x.id r ≡ k → before (row_key x) (row_key r) ≡ true → look l x.address x.id ≡ None
    → cond k (Some r.on) (look l x.address x.id) ≡ None
fresh_go x r l true e h f =
    let t = same_parts x.address x.id r e in
    let p = t.0 in
    let q = t.1 in
    let z : before (row_key r) (row_key r) ≡ true = rw (p, q) at h in
    absurd (both_ways (before (row_key r) (row_key r)) (before_irrefl (row_key r)) z)
fresh_go x r l false e h f = f

fresh : (x : Row) (l : List Row) → leads row_key x l ≡ true → look l x.address x.id ≡ None
fresh x [] h = refl
fresh x (r ∷ l) h =
    let p = and_parts (before (row_key x) (row_key r)) (leads row_key x l) h in
    fresh_go x r l (same x.address x.id r) refl p.0 (fresh x l p.1)

distinct : (l : List Row) → Rising row_key l → Distinct l
distinct [] h = tt
distinct (r ∷ l) h = let p = and_parts (leads row_key r l) (rising row_key l) h in (fresh r l p.0, distinct l p.1)

-- how many rows stand at one address and ID
abbrev keyed_count : ℕ → List ℕ → List Row → ℕ
keyed_count a i [] = 0
keyed_count a i (r ∷ l) = cond (same a i r) 1 0 + keyed_count a i l

no_row_go : (k s : Bool) (y : Option Bool) (n : ℕ) → cond k (Some s) y ≡ None → (y ≡ None → n ≡ 0) → cond k 1 0 + n ≡ 0
no_row_go true s y n e f = let z : ◌≡◌ {A = ℕ} 0 1 = cc in absurd (omega arith)
no_row_go false s y n e f = omega (arith, f e)

no_row : (a : ℕ) (i : List ℕ) (l : List Row) → look l a i ≡ None → keyed_count a i l ≡ 0
no_row a i [] e = refl
no_row a i (r ∷ l) e = no_row_go (same a i r) r.on (look l a i) (keyed_count a i l) e (λ f. no_row a i l f)

one_row_go : (r : Row) (l : List Row) (a : ℕ) (i : List ℕ) (k : Bool) → same a i r ≡ k → look l r.address r.id ≡ None
    → keyed_count a i l ≤ 1 → cond k 1 0 + keyed_count a i l ≤ 1
one_row_go r l a i true e fresh le =
    let t = same_parts a i r e in
    let none : look l a i ≡ None = rw (t.0, t.1) fresh in
    omega (arith, no_row a i l none)
one_row_go r l a i false e fresh le = omega arith

one_row : (a : ℕ) (i : List ℕ) (l : List Row) → Distinct l → keyed_count a i l ≤ 1
one_row a i [] d = omega arith
one_row a i (r ∷ l) (fresh, d) = one_row_go r l a i (same a i r) refl fresh (one_row a i l d)

less_off : (k s t : Bool) → cond (cond k false s && t) 1 0 ≤ cond (s && t) 1 0
less_off true s t = omega arith
less_off false s t = omega arith

at_most : (b : Bool) → cond b 1 0 ≤ 1
at_most true = omega arith
at_most false = omega arith

module _ (ms : List Member) (a : ℕ) (i : List ℕ) (names : List ℕ → Bool) where
  abbrev counts : ℕ → ℕ → Row → Bool
  counts a' g r = eqb a' r.address && eqb g (set_of ms r.id)

  -- an off puts none on
  off-count : (a' g : ℕ) (l : List Row) → count_on ms a' g (map (turned a i false names) l) ≤ count_on ms a' g l
  off-count a' g [] = omega arith
  off-count a' g (r ∷ l) = omega (arith, less_off (same a i r) r.on (counts a' g r), off-count a' g l)

  -- an on puts none on in another set or at another address
  apart-go : (a' g : ℕ) (r : Row) (k : Bool) → same a i r ≡ k → (eqb a' a && eqb g (set_of ms i)) ≡ false
      → cond (cond k true (cond (eqb a r.address && names r.id) false r.on) && counts a' g r) 1 0 ≤ cond (r.on && counts a' g r) 1 0
  apart-go a' g r true e n =
      let t = same_parts a i r e in
      let z : counts a' g r ≡ false = rw (← t.0, ← t.1) n in
      rw z (omega arith)
  apart-go a' g r false e n = less_off (eqb a r.address && names r.id) r.on (counts a' g r)

  apart-count : (a' g : ℕ) (l : List Row) → (eqb a' a && eqb g (set_of ms i)) ≡ false
      → count_on ms a' g (map (turned a i true names) l) ≤ count_on ms a' g l
  apart-count a' g [] n = omega arith
  apart-count a' g (r ∷ l) n = omega (arith, apart-go a' g r (same a i r) refl n, apart-count a' g l n)

  -- where every rival goes off, only the named row is on
  alone-bits : (p s m x y : Bool) → (p && x) ≡ false → ((p && (s && ((true && m) && not x))) ≡ true → y ≡ true) → cond (cond (p && y) false s && (p && m)) 1 0 ≤ 0
  alone-bits false s m x y e h = go s
    where
      go : (s : Bool) → cond (s && false) 1 0 ≤ 0
      go true = omega arith
      go false = omega arith
  alone-bits true false m x true e h = omega arith
  alone-bits true false m x false e h = omega arith
  alone-bits true true m x true e h = omega arith
  alone-bits true true false x false e h = omega arith
  alone-bits true true true true false e h = absurd (true≢false e)
  alone-bits true true true false false e h = absurd (true≢false (sym (h refl)))

  alone-go : (r : Row) (k : Bool) → same a i r ≡ k → ltb 0 (set_of ms i) ≡ true → (rival ms a i r ≡ true → names r.id ≡ true)
      → cond (cond k true (cond (eqb a r.address && names r.id) false r.on) && counts a (set_of ms i) r) 1 0 ≤ cond k 1 0
  alone-go r true e z h = at_most (counts a (set_of ms i) r)
  alone-go r false e z h =
      alone-bits (eqb a r.address) r.on (eqb (set_of ms i) (set_of ms r.id)) (bytes_eq i r.id) (names r.id) e
      (λ t. h (subst (λ (b : Bool). (eqb a r.address && (r.on && ((b && eqb (set_of ms i) (set_of ms r.id)) && not (bytes_eq i r.id)))) ≡ true) (sym z) t))

  abbrev Off : Row → Type 0
  Off r = rival ms a i r ≡ true → names r.id ≡ true

  alone-count : (l : List Row) → ltb 0 (set_of ms i) ≡ true → AllByRecursion Off l → count_on ms a (set_of ms i) (map (turned a i true names) l) ≤ keyed_count a i l
  alone-count [] z h = omega arith
  alone-count (r ∷ l) z (h, hs) = omega (arith, alone-go r (same a i r) refl z h, alone-count l z hs)

  on_go : (l : List Row) (a' g : ℕ) (x : Bool) → (eqb a' a && eqb g (set_of ms i)) ≡ x → Distinct l → AllByRecursion Off l → 0 < g
      → count_on ms a' g l ≤ 1 → count_on ms a' g (map (turned a i true names) l) ≤ 1
  on_go l a' g true e d h pos le =
      let p = and_parts (eqb a' a) (eqb g (set_of ms i)) e in
      let same-a = eqb-true a' a p.0 in
      let same-g = eqb-true g (set_of ms i) p.1 in
      let some : 0 < set_of ms i = subst (λ (n : ℕ). 0 < n) same-g pos in
      rw (same-a, same-g) (omega (arith, alone-count l (lt-ltb 0 (set_of ms i) some) h, one_row a i l d))
  on_go l a' g false e d h pos le = omega (arith, apart-count a' g l e)

  pub switch_one : (on : Bool) (l : List Row) → Distinct l → (on ≡ true → AllByRecursion Off l) → AtMostOne ms l → AtMostOne ms (map (turned a i on names) l)
  switch_one true l d h one = λ a' g pos. on_go l a' g (eqb a' a && eqb g (set_of ms i)) refl d (h refl) pos (one a' g pos)
  switch_one false l d h one = λ a' g pos. omega (arith, off-count a' g l, one a' g pos)

-- the layer names every rival

module _ (ms : List Member) (a : ℕ) (i : List ℕ) where
  abbrev Named : List Row → Row → Type 0
  Named l r = rival ms a i r ≡ true → list_any (λ x. rival ms a i x && bytes_eq r.id x.id) l ≡ true

  named_more : (y : Row) (l xs : List Row) → AllByRecursion (Named l) xs → AllByRecursion (Named (y ∷ l)) xs
  named_more y l [] h = tt
  named_more y l (r ∷ xs) (h, hs) = ((λ e. or_right _ _ (h e)), named_more y l xs hs)

  named : (l : List Row) → AllByRecursion (Named l) l
  named [] = tt
  named (r ∷ l) = ((λ e. or_left _ _ (and_from _ _ e ((bytes_eq-Decides r.id r.id).1 refl))), named_more r l l (named l))

  off-all : (c : Consents) (l xs : List Row) → set_on ms l c a i ≡ true → AllByRecursion (Named l) xs → AllByRecursion (Off ms a i ((setted ms l c).names a i)) xs
  off-all c l [] s h = tt
  off-all c l (r ∷ xs) s (h, hs) = ((λ e. and_from _ _ s (or_right _ _ (h e))), off-all c l xs s hs)

-- a switch of the layer keeps at most one on
pub turn_one : (ms : List Member) (l : List Row) (c : Consents) (a : ℕ) (i : List ℕ) (on : Bool) (l' : List Row) → Rising row_key l
    → l' ≡ cond (goes l (setted ms l c) a i on) (map (turned a i on ((setted ms l c).names a i)) l) l → AtMostOne ms l → AtMostOne ms l'
turn_one ms l c a i on l' up e one = subst (AtMostOne ms) (sym e) (cond_both (goes l (setted ms l c) a i on) (map (turned a i on ((setted ms l c).names a i)) l) l (AtMostOne ms) (λ g. moved on g) (λ g. one))
  where
    consented : (on : Bool) → goes l (setted ms l c) a i on ≡ true → on ≡ true → set_on ms l c a i ≡ true
    consented true g t = (and_parts (set_on ms l c a i) (differs (look l a i) true) g).0
    consented false g t = absurd (true≢false (sym t))

    moved : (on : Bool) → goes l (setted ms l c) a i on ≡ true → AtMostOne ms (map (turned a i on ((setted ms l c).names a i)) l)
    moved on g = switch_one ms a i ((setted ms l c).names a i) on l (distinct l up) (λ t. off-all ms a i c l l (consented on g t) (named ms a i l)) one

-- a row that comes in is off, and one that goes counts no more

entered-count : (ms : List Member) (a' g a : ℕ) (i : List ℕ) (l : List Row) → count_on ms a' g (entered row_key (row a i false) l) ≡ count_on ms a' g l
entered-count ms a' g a i [] = refl
entered-count ms a' g a i (r ∷ l) =
    go (before (row_key r) (a ∷ i)) (before (a ∷ i) (row_key r)) (entered-count ms a' g a i l)
  where
    go : (j k : Bool) → count_on ms a' g (entered row_key (row a i false) l) ≡ count_on ms a' g l
        → count_on ms a' g (cond j (r ∷ entered row_key (row a i false) l) (cond k (row a i false ∷ r ∷ l) (r ∷ l))) ≡ count_on ms a' g (r ∷ l)
    go true k e = omega arith
    go false true e = omega arith
    go false false e = refl

kept-count : (ms : List Member) (a' g : ℕ) (p : Row → Bool) (l : List Row) → count_on ms a' g (filter p l) ≤ count_on ms a' g l
kept-count ms a' g p [] = omega arith
kept-count ms a' g p (r ∷ l) = go (p r) (kept-count ms a' g p l)
  where
    go : (k : Bool) → count_on ms a' g (filter p l) ≤ count_on ms a' g l → count_on ms a' g (cond k (r ∷ filter p l) (filter p l)) ≤ count_on ms a' g (r ∷ l)
    go true e = omega arith
    go false e = omega arith

pub enter_one : (ms : List Member) (l l' : List Row) (k : Bool) (a : ℕ) (i : List ℕ) → l' ≡ cond k (entered row_key (row a i false) l) l → AtMostOne ms l → AtMostOne ms l'
enter_one ms l l' k a i e one =
    subst (AtMostOne ms) (sym e)
    (cond_both k (entered row_key (row a i false) l) l (AtMostOne ms) (λ _ a' g pos. subst (λ (n : ℕ). n ≤ 1) (sym (entered-count ms a' g a i l)) (one a' g pos)) (λ _. one))

pub remove_one : (ms : List Member) (l l' : List Row) (k : Bool) (a : ℕ) (i : List ℕ) → l' ≡ cond k (without_row a i l) l → AtMostOne ms l → AtMostOne ms l'
remove_one ms l l' k a i e one =
    subst (AtMostOne ms) (sym e)
    (cond_both k (without_row a i l) l (AtMostOne ms) (λ _ a' g pos. omega (arith, kept-count ms a' g (λ r. not (same a i r)) l, one a' g pos)) (λ _. one))
