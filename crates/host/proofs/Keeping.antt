-- Rows that are switched, entered or removed stay a listing.
use Rattle.std.proofs.Common.{◌≡◌, ℕ, zero, suc, ◌+◌, ◌<◌, ◌≤◌, Bool, true, false, cond, not, ◌&&◌, eqb, ltb, List, [], ◌∷◌, map, length, get_or, take, set, Some, Option, sym, refl, ap, ◌∙◌, subst, ⊎_elim, arith}
use Rattle.std.specs.List.{filter}
use Rattle.std.proofs.lemmas.List.{length-map, length-take, get_or-take}
use Rattle.std.proofs.lemmas.Bool.{and_parts, and_from, eqb-true, ltb-true, both_ways, cases_Bool, cond_both, cond-false, cond_below}
use Rattle.rising.specs.Order.{before, Before}
use Rattle.rising.specs.Lists.{leads, rising, Rising, entered, entering}
use Rattle.rising.proofs.Order.{before_irrefl}
use Rattle.rising.proofs.Lists.{leads_at, rising_entered, rising_without}
use Rattle.message.specs.Rows.{row_key, ranged, all_ranged}
use Rattle.message.specs.declared.row.Row.{Row}
use Rattle.host.specs.Rows.{row, same, look, has, is_there, without_row, tally, Sound}
use Rattle.host.specs.Hosts.{turned, plugs}
use Rattle.host.specs.Tables.{listed, blank, put}
use Rattle.host.specs.declared.rows.Rows.{Rows}
use Rattle.host.proofs.Keys.{same_row, row_same, without-same}

-- what a switch keeps of each row, it keeps of the listing

module _ (f : Row → Row) (at : (r : Row) → (f r).address ≡ r.address) (named : (r : Row) → (f r).id ≡ r.id) where
  tally-map : (a : ℕ) (l : List Row) → tally a (map f l) ≡ tally a l
  tally-map a [] = refl
  tally-map a (r ∷ l) = let e = at r in let ih = tally-map a l in cc

  ranged-map : (l : List Row) → all_ranged (map f l) ≡ all_ranged l
  ranged-map [] = refl
  ranged-map (r ∷ l) = let e = at r in let d = named r in let ih = ranged-map l in cc

  leads-map : (x : Row) (l : List Row) → leads row_key (f x) (map f l) ≡ leads row_key x l
  leads-map x [] = refl
  leads-map x (r ∷ l) =
      let e = at x in
      let d = named x in
      let e' = at r in
      let d' = named r in
      let ih = leads-map x l in
      cc

  rising-map : (l : List Row) → rising row_key (map f l) ≡ rising row_key l
  rising-map [] = refl
  rising-map (r ∷ l) = rw (leads-map r l, rising-map l)

  pub sound_map : (l : List Row) → Sound l → Sound (map f l)
  sound_map l s = record {
    few = simp length-map s.few;
    each = λ a. rw (tally-map a l) (s.each a);
    ranges = ranged-map l ∙ s.ranges;
    order = rising-map l ∙ s.order;
  }

  pub has_map : (l : List Row) (a : ℕ) (i : List ℕ) → has (map f l) a i ≡ has l a i
  has_map [] a i = refl
  has_map (r ∷ l) a i = let e = at r in let d = named r in let h : same a i (f r) ≡ same a i r = cc in go (same a i (f r)) (same a i r) h (has_map l a i)
    where
      go : (x y : Bool) → x ≡ y → has (map f l) a i ≡ has l a i → is_there (cond x (Some (f r).on) (look (map f l) a i)) ≡ is_there (cond y (Some r.on) (look l a i))
      go true true e ih = refl
      go false false e ih = ih
      go true false e ih = absurd (both_ways true e refl)
      go false true e ih = absurd (both_ways false refl e)

-- the row at one place, switched there

and_false : (x : Bool) → (x && false) ≡ false
and_false true = refl
and_false false = refl

pub turned-other : (a : ℕ) (i : List ℕ) (on : Bool) (r : Row) → same a i r ≡ false → turned a i on (λ _. false) r ≡ r
turned-other a i on r h = rw (h, and_false (eqb a r.address), and_false on)

turned_same : (a : ℕ) (i : List ℕ) (on : Bool) (r : Row) → same a i r ≡ true → turned a i on (λ _. false) r ≡ row r.address r.id on
turned_same a i on r h = rw h

-- a row before or behind the one of that key is another
apart_below : (a : ℕ) (i : List ℕ) (y r : Row) → row_key y ≡ a ∷ i → Before (row_key y) (row_key r) → same a i r ≡ false
apart_below a i y r e b =
    ⊎_elim
    (λ (t : (same a i r ≡ true)). absurd (both_ways (before (row_key y) (row_key y)) (before_irrefl (row_key y)) (subst (Before (row_key y)) (same_row a i r t ∙ sym e) b)))
    (λ (t : (same a i r ≡ false)). t)
    (cases_Bool (same a i r))

apart_above : (a : ℕ) (i : List ℕ) (y r : Row) → row_key y ≡ a ∷ i → Before (row_key r) (row_key y) → same a i r ≡ false
apart_above a i y r e b =
    ⊎_elim
    (λ (t : (same a i r ≡ true)).
    absurd (both_ways (before (row_key y) (row_key y)) (before_irrefl (row_key y)) (subst (λ k. Before k (row_key y)) (same_row a i r t ∙ sym e) b)))
    (λ (t : (same a i r ≡ false)). t)
    (cases_Bool (same a i r))

-- the first row is the one: none behind it is
untouched : (a : ℕ) (i : List ℕ) (on : Bool) (y : Row) (l : List Row) → row_key y ≡ a ∷ i → leads row_key y l ≡ true → map (turned a i on (λ _. false)) l ≡ l
untouched a i on y [] e h = refl
untouched a i on y (r ∷ l) e h =
    let p = and_parts (before (row_key y) (row_key r)) (leads row_key y l) h in
    let t : turned a i on (λ _. false) r ≡ r = turned-other a i on r (apart_below a i y r e p.0) in
    let ih = untouched a i on y l e p.1 in
    cc

-- the state put at a place is a switch of the row that stands there
turned-at : (l : List Row) → Rising row_key l → (a : ℕ) (i : List ℕ) (on : Bool) (k : ℕ) (d : Row) → k < length l → row_key (get_or l k d) ≡ a ∷ i
    → set l k (row (get_or l k d).address (get_or l k d).id on) ≡ map (turned a i on (λ _. false)) l
turned-at [] up a i on k d lt e = absurd (omega arith)
turned-at (r ∷ l) up a i on zero d lt e =
    let p = and_parts (leads row_key r l) (rising row_key l) up in
    let t : turned a i on (λ _. false) r ≡ row r.address r.id on = turned_same a i on r (row_same a i r e) in
    let u = untouched a i on r l e p.0 in
    cc
turned-at (r ∷ l) up a i on (suc k) d lt e =
    let p = and_parts (leads row_key r l) (rising row_key l) up in
    let b = leads_at row_key r l p.0 k d (omega arith) in
    let t : turned a i on (λ _. false) r ≡ r = turned-other a i on r (apart_above a i (get_or l k d) r e b) in
    let ih = turned-at l p.1 a i on k d (omega arith) e in
    cc

take-set_in : (n : ℕ) (l : List Row) (k : ℕ) (r : Row) → take n (set l k r) ≡ set (take n l) k r
take-set_in zero l k r = refl
take-set_in (suc n) [] k r = refl
take-set_in (suc n) (x ∷ l) zero r = refl
take-set_in (suc n) (x ∷ l) (suc k) r = ap (λ (t : List Row). x ∷ t) (take-set_in n l k r)

-- the row at a slot in use

module _ (t : Rows) (k : ℕ) (within : k < length (listed t)) where
  used : k < t.count
  used = omega (arith, length-take t.count t.slots)

  slot_row : get_or (listed t) k blank ≡ get_or t.slots k blank
  slot_row = get_or-take t.count t.slots k blank used

  pub slot_state : (o : Option Bool) → o ≡ Some (get_or (listed t) k blank).on → o ≡ Some (get_or t.slots k blank).on
  slot_state o e = e ∙ ap (λ (r : Row). Some r.on) slot_row

  pub turned_listed : (t' : Rows) → Rising row_key (listed t) → (a : ℕ) (i : List ℕ) (on : Bool) → row_key (get_or (listed t) k blank) ≡ a ∷ i
      → t'.slots ≡ put t.slots k on → t'.count ≡ t.count → listed t' ≡ map (turned a i on (λ _. false)) (listed t)
  turned_listed t' up a i on e d c =
      ap (λ n. take n t'.slots) c
      ∙ ap (take t.count) d
      ∙ take-set_in t.count t.slots k (row (get_or t.slots k blank).address (get_or t.slots k blank).id on)
      ∙ ap (λ (r : Row). set (listed t) k (row r.address r.id on)) (sym slot_row)
      ∙ turned-at (listed t) up a i on k blank within e

-- a row that enters

tally-entered : (a : ℕ) (x : Row) (l : List Row) → tally a (entered row_key x l) ≤ tally a l + cond (eqb a x.address) 1 0
tally-entered a x [] = omega arith
tally-entered a x (r ∷ l) =
    let ih = tally-entered a x l in
    cond_both (before (row_key r) (row_key x)) (r ∷ entered row_key x l) (cond (before (row_key x) (row_key r)) (x ∷ r ∷ l) (r ∷ l)) (λ ys. tally a ys ≤ tally a (r ∷ l) + cond (eqb a x.address) 1 0)
    (λ _. omega arith)
    (λ _.
    cond_both (before (row_key x) (row_key r)) (x ∷ r ∷ l) (r ∷ l) (λ ys. tally a ys ≤ tally a (r ∷ l) + cond (eqb a x.address) 1 0) (λ _. omega arith) (λ _. omega arith))

length-entered : (x : Row) (l : List Row) → length (entered row_key x l) ≤ length l + 1
length-entered x [] = omega arith
length-entered x (r ∷ l) =
    let ih = length-entered x l in
    cond_both (before (row_key r) (row_key x)) (r ∷ entered row_key x l) (cond (before (row_key x) (row_key r)) (x ∷ r ∷ l) (r ∷ l)) (λ ys. length ys ≤ length (r ∷ l) + 1)
    (λ _. omega arith)
    (λ _. cond_both (before (row_key x) (row_key r)) (x ∷ r ∷ l) (r ∷ l) (λ ys. length ys ≤ length (r ∷ l) + 1) (λ _. omega arith) (λ _. omega arith))

ranged-entered : (x : Row) (l : List Row) → ranged x.address x.id ≡ true → all_ranged l ≡ true → all_ranged (entered row_key x l) ≡ true
ranged-entered x [] g h = and_from (ranged x.address x.id) true g refl
ranged-entered x (r ∷ l) g h =
    let p = and_parts (ranged r.address r.id) (all_ranged l) h in
    cond_both (before (row_key r) (row_key x)) (r ∷ entered row_key x l) (cond (before (row_key x) (row_key r)) (x ∷ r ∷ l) (r ∷ l)) (λ ys. all_ranged ys ≡ true)
    (λ _. and_from (ranged r.address r.id) (all_ranged (entered row_key x l)) p.0 (ranged-entered x l g p.1))
    (λ _.
    cond_both (before (row_key x) (row_key r)) (x ∷ r ∷ l) (r ∷ l) (λ ys. all_ranged ys ≡ true) (λ _. and_from (ranged x.address x.id) (all_ranged (r ∷ l)) g h) (λ _. h))

pub sound-entered : (l : List Row) → Sound l → (a : ℕ) (i : List ℕ) → ranged a i ≡ true → length l < 64 → tally a l < 21 → Sound (entered row_key (row a i false) l)
sound-entered l s a i g room place = record {
  few = omega (arith, length-entered (row a i false) l);
  each = λ b. each b (eqb b a) refl;
  ranges = ranged-entered (row a i false) l g s.ranges;
  order = rising_entered row_key (row a i false) l s.order;
}
  where
    each : (b : ℕ) (x : Bool) → eqb b a ≡ x → tally b (entered row_key (row a i false) l) ≤ 21
    each b true e =
        let t = tally-entered b (row a i false) l in
        let n : cond {A = ℕ} (eqb b a) 1 0 ≤ 1 = cond_both {A = ℕ} (eqb b a) 1 0 (λ n. n ≤ 1) (λ _. omega arith) (λ _. omega arith) in
        let same : tally b l ≡ tally a l = ap (λ c. tally c l) (eqb-true b a e) in
        omega arith
    each b false e =
        let t = tally-entered b (row a i false) l in
        let n : cond {A = ℕ} (eqb b a) 1 0 ≡ 0 = cond-false {A = ℕ} (eqb b a) 1 0 e in
        let old = s.each b in
        omega arith

pub sound_plugged : (l : List Row) → Sound l → (a : ℕ) (i : List ℕ) → plugs l false a i ≡ true → Sound (entering 64 row_key (row a i false) l)
sound_plugged l s a i h =
    let p = and_parts (ranged a i) (not (has l a i) && (ltb (length l) 64 && ltb (tally a l) 21)) h in
    let q = and_parts (not (has l a i)) (ltb (length l) 64 && ltb (tally a l) 21) p.1 in
    let r = and_parts (ltb (length l) 64) (ltb (tally a l) 21) q.1 in
    subst (λ ys. Sound ys) (cond_below (length l) 64 (entered row_key (row a i false) l) l (ltb-true (length l) 64 r.0))
    (sound-entered l s a i p.0 (ltb-true (length l) 64 r.0) (ltb-true (tally a l) 21 r.1))

-- a row that leaves

module _ (p : Row → Bool) where
  tally-keep : (a : ℕ) (l : List Row) → tally a (filter p l) ≤ tally a l
  tally-keep a [] = omega arith
  tally-keep a (r ∷ l) =
      let ih = tally-keep a l in
      cond_both (p r) (r ∷ filter p l) (filter p l) (λ ys. tally a ys ≤ tally a (r ∷ l)) (λ _. omega arith) (λ _. omega arith)

  length-keep : (l : List Row) → length (filter p l) ≤ length l
  length-keep [] = omega arith
  length-keep (r ∷ l) =
      let ih = length-keep l in
      cond_both (p r) (r ∷ filter p l) (filter p l) (λ ys. length ys ≤ length (r ∷ l)) (λ _. omega arith) (λ _. omega arith)

  ranged-keep : (l : List Row) → all_ranged l ≡ true → all_ranged (filter p l) ≡ true
  ranged-keep [] h = refl
  ranged-keep (r ∷ l) h =
      let q = and_parts (ranged r.address r.id) (all_ranged l) h in
      let ih = ranged-keep l q.1 in
      cond_both (p r) (r ∷ filter p l) (filter p l) (λ ys. all_ranged ys ≡ true) (λ _. and_from (ranged r.address r.id) (all_ranged (filter p l)) q.0 ih) (λ _. ih)

pub sound-without : (l : List Row) → Sound l → (a : ℕ) (i : List ℕ) → Sound (without_row a i l)
sound-without l s a i = record {
  few = omega (arith, length-keep (λ r. not (same a i r)) l, s.few);
  each = λ b. omega (arith, tally-keep (λ r. not (same a i r)) b l, s.each b);
  ranges = ranged-keep (λ r. not (same a i r)) l s.ranges;
  order = subst (λ ys. Rising row_key ys) (without-same l a i false) (rising_without row_key (row a i false) l s.order);
}
