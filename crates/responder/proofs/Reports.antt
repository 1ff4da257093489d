-- Reports of a switch: which rows they are about, and how many.
use Rattle.std.proofs.Common.{◌≡◌, ℕ, zero, suc, ◌+◌, ◌*◌, ◌<◌, ◌≤◌, Bool, true, false, cond, not, ◌&&◌, eqb, List, [], ◌∷◌, ◌++◌, map, length, get_or, drop, Some, Option, sym, refl, ap, ◌∙◌, arith}
use Rattle.std.proofs.lemmas.List.{length-append, append_assoc, append-nil, at_drop_more}
use Rattle.std.specs.List.{AllByRecursion, filter}
use Rattle.std.specs.Str.{bytes_eq}
use Rattle.std.proofs.lemmas.Bool.{and_parts, both_ways, eqb-true, not-true, cond-false}
use Rattle.rising.specs.Lists.{leads, Rising}
use Rattle.rising.proofs.Order.{differs_below, same_refl}
use Rattle.message.specs.Messages.{Fields, encode}
use Rattle.message.specs.Sending.{channels, report}
use Rattle.message.proofs.Encoding.{length-encode}
use Rattle.message.proofs.Parts.{no_row}
use Rattle.message.proofs.Trips.{Fives, fives_kept}
use Rattle.message.specs.Rows.{row_key, ranged, all_ranged}
use Rattle.message.specs.Writing.{Put}
use Rattle.message.proofs.Places.{put_by, written_none, as_bytes}
use Rattle.message.specs.declared.row.Row.{Row}
use Rattle.host.specs.Rows.{same, look, is_on, tally, Sound}
use Rattle.host.specs.Hosts.{Consents, goes, turned, Switched}
use Rattle.host.proofs.Keys.{key_same}
use Rattle.responder.specs.Steps.{fell, put_off, fall_there, falls, reports_bytes, bytes}

-- every row of a rising list is the one that its address and ID find
abbrev Found : List Row → Row → Type 0
Found l r = look l r.address r.id ≡ Some r.on

behind : (x : Row) (xs ys : List Row) → leads row_key x ys ≡ true → AllByRecursion (Found xs) ys → AllByRecursion (Found (x ∷ xs)) ys
behind x xs [] h a = tt
behind x xs (y ∷ ys) h a =
    let p = and_parts _ _ h in
    let e : same y.address y.id x ≡ false = sym (key_same y.address y.id x) ∙ differs_below (row_key x) (row_key y) p.0 in
    (rw e a.0, behind x xs ys p.1 a.1)

pub all_found : (l : List Row) → Rising row_key l → AllByRecursion (Found l) l
all_found [] h = tt
all_found (x ∷ xs) h =
    let p = and_parts _ _ h in
    let e : same x.address x.id x ≡ true = sym (key_same x.address x.id x) ∙ same_refl (row_key x) in
    (rw e, behind x xs xs p.0 (all_found xs p.1))

-- a switch leaves rows at other addresses as they are
elsewhere_go : (a : ℕ) (i : List ℕ) (on : Bool) (N : List ℕ → Bool) (r : Row) (b : ℕ) (j : List ℕ) (y z : Option Bool) (k : Bool) → eqb a b ≡ false → y ≡ z
    → (eqb b r.address && bytes_eq j r.id) ≡ k → cond k (Some (turned a i on N r).on) y ≡ cond k (Some r.on) z
elsewhere_go a i on N r b j y z false h e t = e
elsewhere_go a i on N r b j y z true h e t =
    let p = and_parts (eqb b r.address) (bytes_eq j r.id) t in
    let q : eqb a r.address ≡ false = ap (λ (n : ℕ). eqb a n) (sym (eqb-true b r.address p.0)) ∙ h in
    go on (eqb a r.address) (bytes_eq i r.id) (N r.id) q
  where
    go : (on c s n : Bool) → c ≡ false → ◌≡◌ {A = Option Bool} (Some (cond (c && s) on (cond (on && (c && n)) false r.on))) (Some r.on)
    go true false s n h = refl
    go false false s n h = refl
    go on true s n h = absurd (both_ways true h refl)

look_elsewhere : (a : ℕ) (i : List ℕ) (on : Bool) (N : List ℕ → Bool) (l : List Row) (b : ℕ) (j : List ℕ) → eqb a b ≡ false → look (map (turned a i on N) l) b j ≡ look l b j
look_elsewhere a i on N [] b j h = refl
look_elsewhere a i on N (r ∷ l) b j h = elsewhere_go a i on N r b j _ _ (same b j r) h (look_elsewhere a i on N l b j h) refl

switched_elsewhere : (a : ℕ) (i : List ℕ) (on : Bool) (N : List ℕ → Bool) (l : List Row) (g : Bool) (b : ℕ) (j : List ℕ) → eqb a b ≡ false
    → look (cond g (map (turned a i on N) l) l) b j ≡ look l b j
switched_elsewhere a i on N l true b j h = look_elsewhere a i on N l b j h
switched_elsewhere a i on N l false b j h = refl

-- the rows that pass a test which holds only at an address are at most as many as stand there
kept-few : (p : Row → Bool) (a : ℕ) (l : List Row) → AllByRecursion (λ r. p r ≡ true → eqb a r.address ≡ true) l → length (filter p l) ≤ tally a l
kept-few p a [] h = omega arith
kept-few p a (r ∷ l) h = go (p r) (eqb a r.address) h.0 (kept-few p a l h.1)
  where
    go : (b c : Bool) → (b ≡ true → c ≡ true) → length (filter p l) ≤ tally a l → length (cond b (r ∷ filter p l) (filter p l)) ≤ cond c 1 0 + tally a l
    go true true f k = omega arith
    go true false f k = absurd (both_ways false refl (f refl))
    go false true f k = omega arith
    go false false f k = omega arith

fell-here : (a : ℕ) (i : List ℕ) (l l' : List Row) (r : Row) → ((b : ℕ) (j : List ℕ) → eqb a b ≡ false → look l' b j ≡ look l b j) → Found l r
    → fell a i l' r ≡ true → eqb a r.address ≡ true
fell-here a i l l' r e f t = go (eqb a r.address) refl
  where
    go : (b : Bool) → eqb a r.address ≡ b → b ≡ true
    go true h = refl
    go false h =
        let p = and_parts r.on _ t in
        let q = and_parts (not (same a i r)) _ p.1 in
        let s : look l' r.address r.id ≡ Some r.on = e r.address r.id h ∙ f in
        let u : is_on (look l' r.address r.id) ≡ true = ap is_on s ∙ p.0 in
        absurd (both_ways (is_on (look l' r.address r.id)) (not-true _ q.1) u)

all_here : (a : ℕ) (i : List ℕ) (l l' xs : List Row) → ((b : ℕ) (j : List ℕ) → eqb a b ≡ false → look l' b j ≡ look l b j) → AllByRecursion (Found l) xs
    → AllByRecursion (λ r. fell a i l' r ≡ true → eqb a r.address ≡ true) xs
all_here a i l l' [] e f = tt
all_here a i l l' (r ∷ xs) e f = (fell-here a i l l' r e f.0, all_here a i l l' xs e f.1)

-- at most 21 rows are put off
pub put_off-few : (l : List Row) (c : Consents) (f : Bool) (a : ℕ) (i : List ℕ) (on : Bool) (l' : List Row) (c' : Consents) (f' answer : Bool) → Sound l
    → Switched l c f a i on l' c' f' answer → length (put_off a i l l') ≤ 21
put_off-few l c f a i on l' c' f' answer s w =
    let e : (b : ℕ) (j : List ℕ) → eqb a b ≡ false → look l' b j ≡ look l b j =
    λ b j h. ap (λ (x : List Row). look x b j) w.rows ∙ switched_elsewhere a i on (c.names a i) l (goes l c a i on) b j h in
    let k = kept-few (fell a i l') a l (all_here a i l l' l e (all_found l s.order)) in
    omega (arith, k, s.each a)

-- a row that did not fall gets no report
pub none-fell : (own a : ℕ) (i : List ℕ) (l' : List Row) (r : Row) (before : List ℕ) (at : ℕ) → fell a i l' r ≡ false → at + length (fall_there own a i l' r) ≤ length before
    → Put before at (fall_there own a i l' r) at before
none-fell own a i l' r before at h room =
    let e : fall_there own a i l' r ≡ [] = cond-false _ _ _ h in
    as_bytes (sym e) (put_by (omega (arith, room, ap length e)) (omega arith) (sym (written_none before at)))

-- one more row
pub falls_more : (own a : ℕ) (i : List ℕ) (l' l : List Row) (k : ℕ) → k < length l
    → falls own a i l' (drop k l) ≡ fall_there own a i l' (get_or l k no_row) ++ falls own a i l' (drop (k + 1) l)
falls_more own a i l' l k h = at_drop_more (falls own a i l') l k no_row h

-- the reports one after the other are those of the rows that fell
falls-kept : (own a : ℕ) (i : List ℕ) (l' l : List Row) → falls own a i l' l ≡ bytes (map (λ r. report own r.address r.id false) (filter (fell a i l') l))
falls-kept own a i l' [] = refl
falls-kept own a i l' (r ∷ l) = go (fell a i l' r) (falls-kept own a i l' l)
  where
    go : (b : Bool) → falls own a i l' l ≡ bytes (map (λ r. report own r.address r.id false) (filter (fell a i l') l))
        → cond b (encode (report own r.address r.id false)) [] ++ falls own a i l' l
        ≡ bytes (map (λ r. report own r.address r.id false) (cond b (r ∷ filter (fell a i l') l) (filter (fell a i l') l)))
    go true h = ap (λ (xs : List ℕ). encode (report own r.address r.id false) ++ xs) h
    go false h = h

length-report : (own a : ℕ) (i : List ℕ) (on : Bool) → length i ≡ 5 → length (encode (report own a i on)) ≡ 22
length-report own a i on h = omega (arith, length-encode (report own a i on), length-append i (channels a))

falls-long : (own : ℕ) (xs : List Row) → Fives xs → length (bytes (map (λ r. report own r.address r.id false) xs)) ≡ 22 * length xs
falls-long own [] f = refl
falls-long own (r ∷ xs) (h, s, f) =
    omega (arith, length-append (encode (report own r.address r.id false)) (bytes (map (λ r. report own r.address r.id false) xs)), length-report own r.address r.id false h, falls-long own xs f)

pub falls-fit : (own a : ℕ) (i : List ℕ) (l' l : List Row) → all_ranged l ≡ true → length (put_off a i l l') ≤ 21 → length (falls own a i l' l) ≤ 462
falls-fit own a i l' l v few = omega (arith, ap length (falls-kept own a i l' l), falls-long own (put_off a i l l') (fives_kept (fell a i l') l v))

-- all reports of a switch
bytes_last : (ms : List Fields) (m : Fields) → bytes (ms ++ m ∷ []) ≡ bytes ms ++ encode m
bytes_last [] m = append-nil (encode m)
bytes_last (n ∷ ms) m = ap (λ (xs : List ℕ). encode n ++ xs) (bytes_last ms m) ∙ sym (append_assoc (encode n) (bytes ms) (encode m))

pub reports_end : (own a : ℕ) (i : List ℕ) (l l' : List Row) (on : Bool) → on ≡ is_on (look l' a i)
    → falls own a i l' l ++ encode (report own a i on) ≡ reports_bytes own a i l l'
unfolding reports_bytes
reports_end own a i l l' on e =
    ap (λ (xs : List ℕ). xs ++ encode (report own a i on)) (falls-kept own a i l' l)
    ∙ ap (λ (b : Bool). bytes (map (λ r. report own r.address r.id false) (put_off a i l l')) ++ encode (report own a i b)) e
    ∙ sym (bytes_last (map (λ r. report own r.address r.id false) (put_off a i l l')) (report own a i (is_on (look l' a i))))

-- a row of a list in range is in range
pub ranged_get_d : (l : List Row) (k : ℕ) → all_ranged l ≡ true → k < length l → ranged (get_or l k no_row).address (get_or l k no_row).id ≡ true
ranged_get_d [] k v h = absurd (omega arith)
ranged_get_d (r ∷ l) zero v h = (and_parts _ _ v).0
ranged_get_d (r ∷ l) (suc k) v h = ranged_get_d l k (and_parts _ _ v).1 (omega arith)
