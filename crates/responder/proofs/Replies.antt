-- Replies to a listing inquiry: how long they are together, and one after another.
use Rattle.std.proofs.Common.{◌≡◌, ℕ, zero, suc, ◌+◌, ◌*◌, ◌<◌, ◌≤◌, Bool, true, false, cond, ◌&&◌, eqb, ltb, leb, List, [], ◌∷◌, ◌++◌, map, length, get_or, drop, Ok, sym, refl, ap, ◌∙◌, subst, arith}
use Rattle.std.proofs.lemmas.List.{length-append, append_assoc, append-nil, get_or_at, at_drop_more}
use Rattle.std.proofs.lemmas.Bool.{and_parts, eqb-true, ne_eqb, leb-true, ltb-true, ltb-false, cond-false}
use Rattle.std.proofs.lemmas.Bool.Decides.{nat_tests}
use Rattle.message.specs.Messages.{Fields, encode}
use Rattle.message.specs.Rows.{agree, stands, part, all_ranged}
use Rattle.message.specs.Sending.{counted, profile_list}
use Rattle.message.specs.declared.row.Row.{Row}
use Rattle.message.proofs.Encoding.{length-encode}
use Rattle.message.proofs.Trips.{fives_kept, length-counted}
use Rattle.host.specs.Rows.{tally, Sound}
use Rattle.responder.specs.Plans.{has_row, having_row, replied_at, upto}
use Rattle.message.specs.Writing.{Put, Left}
use Rattle.message.proofs.Places.{left_more, left-all, left_as, as_bytes, put_by, written_none}
use Rattle.responder.specs.Steps.{bytes, reply_there, lists_bytes, Sends}
use Rattle.responder.proofs.Sendings.{put-sends}

-- each row at an address is on or off
halves : (a : ℕ) (l : List Row) → length (part a true l) + length (part a false l) ≡ tally a l
halves a [] = refl
halves a (r ∷ l) = go (eqb r.address a) (eqb a r.address) r.on (both r.address a) (length (part a true l)) (length (part a false l)) (tally a l) refl refl (halves a l)
  where
    both : (x y : ℕ) → eqb x y ≡ eqb y x
    both x y = grind (arith, nat_tests)

    go : (s t on : Bool) → s ≡ t → (m n k : ℕ) → m ≡ length (part a true l) → n ≡ length (part a false l) → m + n ≡ k
        → length (cond (s && agree on true) (r ∷ part a true l) (part a true l)) + length (cond (s && agree on false) (r ∷ part a false l) (part a false l)) ≡ cond t 1 0 + k
    go true true true e m n k p q h = omega arith
    go true true false e m n k p q h = omega arith
    go false false true e m n k p q h = omega arith
    go false false false e m n k p q h = omega arith
    go true false on e m n k p q h = let z : ◌≡◌ {A = ℕ} 0 1 = cc in absurd (omega arith)
    go false true on e m n k p q h = let z : ◌≡◌ {A = ℕ} 0 1 = cc in absurd (omega arith)

-- the reply at an address has 19 bytes, and five for each row there
pub length_reply : (own to a : ℕ) (l : List Row) → all_ranged l ≡ true → length (encode (profile_list own to a l)) ≡ 19 + 5 * tally a l
length_reply own to a l v =
    omega (
      arith,
      length-encode (profile_list own to a l),
      length-append (counted (part a true l)) (counted (part a false l)),
      length-counted (part a true l) (fives_kept (stands a true) l v),
      length-counted (part a false l) (fives_kept (stands a false) l v),
      halves a l,
    )

pub tally-few : (a : ℕ) (l : List Row) → tally a l ≤ length l
tally-few a [] = omega arith
tally-few a (r ∷ l) = go (eqb a r.address) (tally-few a l)
  where
    go : (b : Bool) → tally a l ≤ length l → cond b 1 0 + tally a l ≤ suc (length l)
    go true h = omega arith
    go false h = omega arith

-- the places of a device that have rows: channels, the Group and the Function Block
abbrev pub places : List ℕ
places = upto 16 ++ 0x7E ∷ []

-- how many of the rows stand at these addresses
tallies : List ℕ → List Row → ℕ
tallies [] l = 0
tallies (a ∷ xs) l = tally a l + tallies xs l

-- an address stands once among rising ones
hits : ℕ → List ℕ → ℕ
hits n [] = 0
hits n (a ∷ xs) = cond (eqb a n) 1 0 + hits n xs

abbrev climbs : ℕ → List ℕ → Bool
climbs low [] = true
climbs low (a ∷ xs) = leb low a && climbs (suc a) xs

none_below : (n low : ℕ) (xs : List ℕ) → n < low → climbs low xs ≡ true → hits n xs ≡ 0
unfolding hits
none_below n low [] h c = refl
none_below n low (a ∷ xs) h c =
    let p = and_parts (leb low a) (climbs (suc a) xs) c in
    let q = leb-true low a p.0 in
    let k = none_below n (suc a) xs (omega arith) p.1 in
    let e : eqb a n ≡ false = ne_eqb a n (λ f. omega arith) in
    rw (e, k)

once : (n low : ℕ) (xs : List ℕ) → climbs low xs ≡ true → hits n xs ≤ 1
unfolding hits
once n low [] c = omega arith
once n low (a ∷ xs) c = go (eqb a n) refl (once n (suc a) xs (and_parts (leb low a) (climbs (suc a) xs) c).1)
  where
    go : (b : Bool) → eqb a n ≡ b → hits n xs ≤ 1 → cond b 1 0 + hits n xs ≤ 1
    go true t h =
        let p = and_parts (leb low a) (climbs (suc a) xs) c in
        let k = none_below n (suc a) xs (let e = eqb-true a n t in omega arith) p.1 in
        omega (arith, k)
    go false t h = omega arith

tallies_none : (xs : List ℕ) → tallies xs [] ≡ 0
unfolding tallies
tallies_none [] = refl
tallies_none (a ∷ xs) = let k = tallies_none xs in omega arith

tallies_more : (xs : List ℕ) (r : Row) (l : List Row) → tallies xs (r ∷ l) ≡ hits r.address xs + tallies xs l
unfolding tallies hits
tallies_more [] r l = refl
tallies_more (a ∷ xs) r l = let k = tallies_more xs r l in omega (arith, k)

tallies_few : (low : ℕ) (xs : List ℕ) (l : List Row) → climbs low xs ≡ true → tallies xs l ≤ length l
tallies_few low xs [] c = omega (arith, tallies_none xs)
tallies_few low xs (r ∷ l) c =
    let k = tallies_few low xs l c in
    omega (arith, tallies_more xs r l, once r.address low xs c)

module _ (own to : ℕ) (l : List Row) (v : all_ranged l ≡ true) where
  abbrev pub reply_at : ℕ → Fields
  reply_at a = profile_list own to a l

  -- the replies of some addresses, and a last one
  replies-long : (xs : List ℕ) (z : ℕ) → length (bytes (map reply_at (having_row l xs ++ z ∷ []))) ≤ 19 * (1 + length xs) + 5 * (tallies xs l + tally z l)
  unfolding tallies
  replies-long [] z =
      let n = length-append (encode (reply_at z)) [] in
      omega (arith, n, length_reply own to z l v)
  replies-long (a ∷ xs) z = go (has_row l a) (replies-long xs z)
    where
      go : (b : Bool) → length (bytes (map reply_at (having_row l xs ++ z ∷ []))) ≤ 19 * (1 + length xs) + 5 * (tallies xs l + tally z l)
          → length (bytes (map reply_at (cond b (a ∷ having_row l xs) (having_row l xs) ++ z ∷ []))) ≤ 19 * (1 + length (a ∷ xs)) + 5 * (tallies (a ∷ xs) l + tally z l)
      go true h =
          let n = length-append (encode (reply_at a)) (bytes (map reply_at (having_row l xs ++ z ∷ []))) in
          omega (arith, n, length_reply own to a l v)
      go false h = omega arith

tallies_last : (xs : List ℕ) (z : ℕ) (l : List Row) → tallies (xs ++ z ∷ []) l ≡ tallies xs l + tally z l
unfolding tallies
tallies_last [] z l = omega arith
tallies_last (x ∷ xs) z l = let k = tallies_last xs z l in omega (arith, k)

-- all of them fit an answer buffer
replies_fit : (own to : ℕ) (l : List Row) → Sound l → length (bytes (map (λ a. profile_list own to a l) (having_row l places ++ 0x7F ∷ []))) ≤ 1024
replies_fit own to l s =
    let k = replies-long own to l s.ranges places 0x7F in
    let few = s.few in
    let t = tallies_few 0 (places ++ 0x7F ∷ []) l refl in
    omega (arith, k, t, few, tallies_last places 0x7F l)

-- one of them is no longer than a message may be
pub reply_short : (own to a : ℕ) (l : List Row) → Sound l → length (encode (profile_list own to a l)) ≤ 512
reply_short own to a l s = let few = s.few in omega (arith, length_reply own to a l s.ranges, tally-few a l)

-- the addresses in their order

length-upto : (n : ℕ) → length (upto n) ≡ n
length-upto zero = refl
length-upto (suc n) = let k = length-upto n in omega (arith, length-append (upto n) (n ∷ []))

upto-at : (n k : ℕ) (ys : List ℕ) → k < n → get_or (upto n ++ ys) k 0 ≡ k
upto-at zero k ys h = absurd (omega arith)
upto-at (suc n) k ys h =
    ap (λ (xs : List ℕ). get_or xs k 0) (append_assoc (upto n) (n ∷ []) ys) ∙ go (ltb k n) refl (λ lt. upto-at n k (n ∷ ys) lt)
  where
    go : (b : Bool) → ltb k n ≡ b → (k < n → get_or (upto n ++ n ∷ ys) k 0 ≡ k) → get_or (upto n ++ n ∷ ys) k 0 ≡ k
    go true t f = f (ltb-true k n t)
    go false t f =
        let ge = ltb-false k n t in
        let e : k ≡ n = omega arith in
        get_or_at (upto n) n ys 0 k (length-upto n ∙ sym e) ∙ sym e

pub places_from : (k : ℕ) → k < 16 → drop k places ≡ k ∷ drop (k + 1) places
places_from k h =
    at_drop_more (λ (xs : List ℕ). xs) places k 0 (omega arith) ∙ ap (λ (n : ℕ). n ∷ drop (k + 1) places) (upto-at 16 k (0x7E ∷ []) h)

-- what is left of the replies from an address on
abbrev pub replies_from : (own to : ℕ) → List Row → List ℕ → List ℕ
replies_from own to l xs = bytes (map (λ a. profile_list own to a l) (having_row l xs ++ 0x7F ∷ []))

pub replies_more : (own to : ℕ) (l : List Row) (a : ℕ) (xs : List ℕ) → replies_from own to l (a ∷ xs) ≡ reply_there own to l a ++ replies_from own to l xs
replies_more own to l a xs = go (has_row l a)
  where
    go : (b : Bool)
        → bytes (map (λ a. profile_list own to a l) (cond b (a ∷ having_row l xs) (having_row l xs) ++ 0x7F ∷ [])) ≡ cond b (encode (profile_list own to a l)) [] ++ replies_from own to l xs
    go true = refl
    go false = refl

replies_step : (own to : ℕ) (l : List Row) (k : ℕ) → k < 16
    → replies_from own to l (drop k places) ≡ reply_there own to l k ++ replies_from own to l (drop (k + 1) places)
replies_step own to l k h = ap (replies_from own to l) (places_from k h) ∙ replies_more own to l k (drop (k + 1) places)

-- the Group, and then the Function Block
replies_group : (own to : ℕ) (l : List Row) (k : ℕ) → k ≡ 16
    → replies_from own to l (drop k places) ≡ reply_there own to l 0x7E ++ (encode (profile_list own to 0x7F l) ++ [])
replies_group own to l k e = ap (λ (n : ℕ). replies_from own to l (drop n places)) e ∙ replies_more own to l 0x7E []

-- a loop over the addresses, at the reply that is next
pub at_channel : (own to : ℕ) (l : List Row) (k : ℕ) {b : List ℕ} {at : ℕ} {bs : List ℕ} {mid : ℕ} {is : List ℕ} → k < 16 → Left b at bs mid is (replies_from own to l (drop k places))
    → Left b at bs mid is (reply_there own to l k ++ replies_from own to l (drop (k + 1) places))
at_channel own to l k h p = left_as refl refl (replies_step own to l k h) p

pub at_group : (own to : ℕ) (l : List Row) (k : ℕ) {b : List ℕ} {at : ℕ} {bs : List ℕ} {mid : ℕ} {is : List ℕ} → k ≡ 16 → Left b at bs mid is (replies_from own to l (drop k places))
    → Left b at bs mid is (reply_there own to l 0x7E ++ (encode (profile_list own to 0x7F l) ++ []))
at_group own to l k h p = left_as refl refl (replies_group own to l k h) p

-- there is room for what is next
pub left_room : {b : List ℕ} {at : ℕ} {bs : List ℕ} {mid : ℕ} {is : List ℕ} (xs ys : List ℕ) → Left b at bs mid is (xs ++ ys) → mid + length xs ≤ length is
left_room xs ys p = omega (arith, p.room, length-append xs ys)

pub lists_fit : (own to : ℕ) (l : List Row) → Sound l → length (lists_bytes own to l 0x7F) ≤ 1024
unfolding lists_bytes
lists_fit own to l s = replies_fit own to l s

pub every_list : (own to : ℕ) (l : List Row) → replies_from own to l places ≡ lists_bytes own to l 0x7F
unfolding lists_bytes
every_list own to l = refl

pub one_list : (own to : ℕ) (l : List Row) (a : ℕ) → eqb a 0x7F ≡ false → encode (profile_list own to a l) ≡ lists_bytes own to l a
unfolding lists_bytes
one_list own to l a h =
    sym (append-nil (encode (profile_list own to a l)))
    ∙ ap (λ (b : Bool). bytes (map (λ c. profile_list own to c l) (cond b (having_row l places ++ 0x7F ∷ []) (a ∷ [])))) (sym h)

-- a whole answer, put by its last reply
pub last_reply : (own to : ℕ) (l : List Row) (before mid after : List ℕ) (from at end : ℕ) → Left before from (replies_from own to l places) at mid (encode (profile_list own to 0x7F l) ++ [])
    → from + length (replies_from own to l places) ≤ length before → Put mid at (encode (profile_list own to 0x7F l)) end after → Put before from (lists_bytes own to l 0x7F) end after
last_reply own to l before mid after from at end p room q = as_bytes (every_list own to l) (left-all room (left_more _ _ p q))

-- an address without a row gets none
pub none-there : (own to : ℕ) (l : List Row) (a : ℕ) (before : List ℕ) (at : ℕ) → has_row l a ≡ false → at + length (reply_there own to l a) ≤ length before
    → Put before at (reply_there own to l a) at before
none-there own to l a before at h room =
    let e : reply_there own to l a ≡ [] = cond-false _ _ _ h in
    as_bytes (sym e) (put_by (omega (arith, room, ap length e)) (omega arith) (sym (written_none before at)))

pub reply_put : (own to : ℕ) (l : List Row) (a : ℕ) (before : List ℕ) (at end : ℕ) (after : List ℕ) → eqb a 0x7F ≡ false
    → Put before at (encode (profile_list own to a l)) end after → Put before at (lists_bytes own to l a) end after
reply_put own to l a before at end after h p = as_bytes (one_list own to l a h) p

-- the bytes of the replies are sent
pub lists_sent : (own own' to a : ℕ) (rs l : List Row) (before after : List ℕ) (end : ℕ) → own' ≡ own → rs ≡ l
    → Put before 0 (lists_bytes own' to rs a) end after → Sends (bytes (map (λ b. profile_list own to b l) (replied_at l a))) before (Ok end) after
unfolding lists_bytes
lists_sent own own' to a rs l before after end p q w =
    let e : lists_bytes own' to rs a ≡ bytes (map (λ b. profile_list own to b l) (replied_at l a)) = rw (p, q) in
    subst (λ (x : List ℕ). Sends x before (Ok end) after) e (put-sends (lists_bytes own' to rs a) before after end w)
