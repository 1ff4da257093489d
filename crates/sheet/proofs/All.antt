-- Every layout of valid contents is accepted.
use Rattle.std.proofs.Common.{◌≡◌, ℕ, ◌+◌, ◌*◌, ◌<◌, ◌≤◌, Bool, true, false, cond, eqb, leb, List, [], ◌∷◌, ◌++◌, length, get_or, None, sym, refl, ap, ◌∙◌, append_assoc, append-nil, arith, length-append}
use Rattle.std.specs.List.{list_all}
use Rattle.std.proofs.lemmas.Bool.{and_parts, and_from, lt-ltb, le-leb, eqb-true, eq-eqb}
use Rattle.std.proofs.lemmas.Bool.Decides.{nat_tests}
use Rattle.rising.specs.Lists.{Rising}
use Rattle.message.specs.declared.row.Row.{Row}
use Rattle.layers.specs.declared.member.Member.{Member}
use Rattle.message.specs.declared.pair.Pair.{Pair}
use Rattle.sheet.specs.Words.{kind, first, third, fourth, amount, word}
use Rattle.message.specs.Bytes.{is_address}
use Rattle.message.specs.Rows.{row_key, all_ranged, pair_key, pair_ranged}
use Rattle.host.specs.Rows.{tally}
use Rattle.layers.specs.Lists.{member_key}
use Rattle.sheet.specs.Contents.{Contents, is_set, after}
use Rattle.sheet.specs.Layout.{laid, row_words, member_words, pair_words}
use Rattle.message.specs.Bytes.{is_id}
use Rattle.layers.specs.Lists.{member_ranged}
use Rattle.sheet.proofs.Orderly.{row_ranged}
use Rattle.sheet.specs.Reading.{Outcome, accepted, fault, follows, fits, room, opening, id_of, row_of, member_of, pair_of, fits_end, rises, ending, with_row, with_member, with_pair, entered, body}
use Rattle.sheet.proofs.Turns.{at_last, at_two}
use Rattle.sheet.proofs.Only.{choose}
use Rattle.sheet.proofs.Splits.{five_of, low-at}
use Rattle.sheet.proofs.Parts.{fields, after_rising, tally_more_than}

no_fault : (x y z : Bool) → x ≡ true → y ≡ true → z ≡ true → fault x y z ≡ None
no_fault x y z p q r = rw (p, q, r)

step : (n last : ℕ) (c : Contents) (w v : ℕ) (ws : List ℕ) → opening n last c w ≡ None → (kind w ≡ 8 → ⊥) → ending c w v ≡ None → body n last c (w ∷ v ∷ ws) ≡ body (n + 2) (kind w) (entered c w v) ws
step n last c w v ws h k q =
    at_two n last c w v ws h ∙ choose (kind w) 8 _ _ k ∙ rw q

address_low : (a : ℕ) → is_address a ≡ true → a < 128
address_low a h = grind (arith, nat_tests)

set-low : (a : ℕ) → is_set a ≡ true → a < 128
set-low a h = grind (arith, nat_tests)

-- the parts of an entry's two words
pub record Parts (k head : ℕ) (id : List ℕ) (mark w v : ℕ) : Type 0 where
  pub kind_is : kind w ≡ k
  pub head_is : first w ≡ head
  pub id_is : id_of w v ≡ id
  pub end_is : kind v ≡ 5
  pub zero_is : third v ≡ 0
  pub mark_is : fourth v ≡ mark

parts : (k head : ℕ) (id : List ℕ) (mark : ℕ) → head < 128 → mark < 128 → is_id id ≡ true
    → Parts k head id mark (word k head (get_or id 0 0) (get_or id 1 0) (get_or id 2 0)) (word 5 (get_or id 3 0) (get_or id 4 0) 0 mark)
parts k head id mark lh lm g =
    let five = eqb-true _ _ (and_parts (eqb (length id) 5) _ g).0 in
    let low = low-at id (and_parts (eqb (length id) 5) _ g).1 in
    let w = fields k head (get_or id 0 0) (get_or id 1 0) (get_or id 2 0) lh (low 0) (low 1) (low 2) in
    let v = fields 5 (get_or id 3 0) (get_or id 4 0) 0 mark (low 3) (low 4) (omega arith) lm in
    record {
      kind_is = w.kind_is;
      head_is = w.first_is;
      id_is = same-five w.second_is w.third_is w.fourth_is v.first_is v.second_is ∙ five_of id five;
      end_is = v.kind_is;
      zero_is = v.third_is;
      mark_is = v.fourth_is;
    }
  where
    same-five : {a b c d e a' b' c' d' e' : ℕ} → a ≡ a' → b ≡ b' → c ≡ c' → d ≡ d' → e ≡ e' → a ∷ b ∷ c ∷ d ∷ e ∷ [] ≡ a' ∷ b' ∷ c' ∷ d' ∷ e' ∷ []
    same-five p q r s t = cc

row_same : (a a' : ℕ) (i i' : List ℕ) (o o' : Bool) → a ≡ a' → i ≡ i' → o ≡ o' → ◌≡◌ {A = Row} (record { address = a; id = i; on = o }) (record { address = a'; id = i'; on = o' })
row_same a a' i i' o o' p q r = λ t. record { address = p t; id = q t; on = r t }

mark_on : (o : Bool) → eqb (cond o 1 0) 1 ≡ o
mark_on true = refl
mark_on false = refl

mark_low : (o : Bool) → cond o 1 0 ≤ 1
mark_low true = omega arith
mark_low false = omega arith

member_same : (a a' : ℕ) (i i' : List ℕ) → a ≡ a' → i ≡ i' → ◌≡◌ {A = Member} (record { id = i; set = a }) (record { id = i'; set = a' })
member_same a a' i i' p q = λ t. record { id = q t; set = p t }

pair_same : (a a' : ℕ) (i i' : List ℕ) → a ≡ a' → i ≡ i' → ◌≡◌ {A = Pair} (record { address = a; id = i }) (record { address = a'; id = i' })
pair_same a a' i i' p q = λ t. record { address = p t; id = q t }

-- the two words of an entry, and what is read after them
module _ (n last : ℕ) (c : Contents) (w v : ℕ) (ws : List ℕ) where
  turned : (k : ℕ) (d : Contents) → kind w ≡ k → (k ≡ 8 → ⊥) → follows last k ≡ true → fits n w ≡ true → room c w ≡ true → kind v ≡ 5 → fits_end w v ≡ true → rises c w v ≡ true → entered c w v ≡ d
      → body n last c (w ∷ v ∷ ws) ≡ body (n + 2) k d ws
  turned k d e n8 ord ran roo five fin ris ent =
      step n last c w v ws (no_fault _ _ _ (ap (follows last) e ∙ ord) ran roo) (λ h. n8 (sym e ∙ h)) (no_fault _ _ _ (eq-eqb _ _ five) fin ris)
      ∙ (λ t. body (n + 2) (e t) (ent t) ws)

  row_turn : (r : Row) → Parts 4 r.address r.id (cond r.on 1 0) w v → last ≤ 4 → is_address r.address ≡ true → length c.rows < 64 → tally r.address c.rows < 21 → after row_key c.rows r ≡ true
      → body n last c (w ∷ v ∷ ws) ≡ body (n + 2) 4 (with_row c r) ws
  row_turn r p le g l t u =
      let same : row_of w v ≡ r = row_same _ _ _ _ _ _ p.head_is p.id_is (ap (λ (x : ℕ). eqb x 1) p.mark_is ∙ mark_on r.on) in
      turned 4 (with_row c r) p.kind_is (λ e. omega (arith, e)) (and_from (leb last 4) true (le-leb last 4 le) refl)
      (rw (p.kind_is, p.head_is) g) (rw (p.kind_is, p.head_is) (and_from _ _ (lt-ltb _ _ l) (lt-ltb _ _ t)))
      p.end_is (rw (p.kind_is, p.zero_is, p.mark_is) (le-leb (cond r.on 1 0) 1 (mark_low r.on)))
      (rw p.kind_is (ap (after row_key c.rows) same ∙ u)) (rw p.kind_is (ap (with_row c) same))

  member_turn : (r : Member) → Parts 6 r.set r.id 0 w v → last ≤ 6 → is_set r.set ≡ true → length c.members < 16 → after member_key c.members r ≡ true
      → body n last c (w ∷ v ∷ ws) ≡ body (n + 2) 6 (with_member c r) ws
  member_turn r p le g l u =
      let same : member_of w v ≡ r = member_same _ _ _ _ p.head_is p.id_is in
      turned 6 (with_member c r) p.kind_is (λ e. omega (arith, e)) (and_from (leb last 6) true (le-leb last 6 le) refl)
      (rw (p.kind_is, p.head_is) g) (rw p.kind_is (lt-ltb _ _ l)) p.end_is (rw (p.kind_is, p.zero_is, p.mark_is))
      (rw p.kind_is (ap (after member_key c.members) same ∙ u)) (rw p.kind_is (ap (with_member c) same))

  pair_turn : (r : Pair) → Parts 7 r.address r.id 0 w v → last ≤ 7 → is_address r.address ≡ true → length c.pairs < 16 → after pair_key c.pairs r ≡ true
      → body n last c (w ∷ v ∷ ws) ≡ body (n + 2) 7 (with_pair c r) ws
  pair_turn r p le g l u =
      let same : pair_of w v ≡ r = pair_same _ _ _ _ p.head_is p.id_is in
      turned 7 (with_pair c r) p.kind_is (λ e. omega (arith, e)) (and_from (leb last 7) true (le-leb last 7 le) refl)
      (rw (p.kind_is, p.head_is) g) (rw p.kind_is (lt-ltb _ _ l)) p.end_is (rw (p.kind_is, p.zero_is, p.mark_is))
      (rw p.kind_is (ap (after pair_key c.pairs) same ∙ u)) (rw p.kind_is (ap (with_pair c) same))

row_step : (n : ℕ) (c : Contents) (r : Row) (ws : List ℕ) → row_ranged r ≡ true → length c.rows < 64 → tally r.address c.rows < 21 → after row_key c.rows r ≡ true → body n 4 c (row_words r ++ ws) ≡ body (n + 2) 4 (with_row c r) ws
row_step n c r ws g l t u =
    let gs = and_parts (is_address r.address) (is_id r.id) g in
    let ml = mark_low r.on in
    row_turn n 4 c _ _ ws r (parts 4 r.address r.id (cond r.on 1 0) (address_low r.address gs.0) (omega arith) gs.1) (omega arith) gs.0 l t u

member_step : (n last : ℕ) (c : Contents) (r : Member) (ws : List ℕ) → last ≤ 6 → member_ranged r ≡ true → length c.members < 16 → after member_key c.members r ≡ true → body n last c (member_words r ++ ws) ≡ body (n + 2) 6 (with_member c r) ws
member_step n last c r ws le g l u =
    let gs = and_parts (is_set r.set) (is_id r.id) g in
    member_turn n last c _ _ ws r (parts 6 r.set r.id 0 (set-low r.set gs.0) (omega arith) gs.1) le gs.0 l u

pair_step : (n last : ℕ) (c : Contents) (r : Pair) (ws : List ℕ) → last ≤ 7 → pair_ranged r ≡ true → length c.pairs < 16 → after pair_key c.pairs r ≡ true → body n last c (pair_words r ++ ws) ≡ body (n + 2) 7 (with_pair c r) ws
pair_step n last c r ws le g l u =
    let gs = and_parts (is_address r.address) (is_id r.id) g in
    pair_turn n last c _ _ ws r (parts 7 r.address r.id 0 (address_low r.address gs.0) (omega arith) gs.1) le gs.0 l u

-- contents from their parts
abbrev pub made : List ℕ → ℕ → List Row → List Member → List Pair → Contents
made ids b rs ms ps = record { identity = ids; block = b; rows = rs; members = ms; pairs = ps }

shorter : {X : Type 0} (xs : List X) (x : X) (ys : List X) (n : ℕ) → length (xs ++ x ∷ ys) ≤ n → length xs < n
shorter xs x ys n h = let e = length-append xs (x ∷ ys) in omega (arith, e)

tallied : (seen : List Row) (r : Row) (rs : List Row) → ((a : ℕ) → tally a (seen ++ r ∷ rs) ≤ 21) → tally r.address seen < 21
tallied seen r rs h = let q = tally_more_than r.address seen r rs refl in let s = h r.address in omega (arith, q, s)

module _ (ids : List ℕ) (b : ℕ) (rest : List ℕ) (x : Outcome) where
  -- what is read after all rows is what is read before them
  pub rows_read : (rs seen : List Row) (n : ℕ) → all_ranged rs ≡ true → Rising row_key (seen ++ rs) → length (seen ++ rs) ≤ 64 → ((a : ℕ) → tally a (seen ++ rs) ≤ 21)
      → body (n + 2 * length rs) 4 (made ids b (seen ++ rs) [] []) rest ≡ x → body n 4 (made ids b seen [] []) (laid row_words rs ++ rest) ≡ x
  rows_read [] seen n g u l t h =
      let e : n + 2 * 0 ≡ n = omega arith in
      ap (λ (k : ℕ). body k 4 (made ids b seen [] []) rest) (sym e) ∙ ap (λ (s : List Row). body (n + 2 * 0) 4 (made ids b s [] []) rest) (sym (append-nil seen)) ∙ h
  rows_read (r ∷ rs) seen n g u l t h =
      let gs = and_parts (row_ranged r) (all_ranged rs) g in
      let a : (seen ++ r ∷ []) ++ rs ≡ seen ++ r ∷ rs = append_assoc seen (r ∷ []) rs in
      let m : n + 2 + 2 * length rs ≡ n + 2 * length (r ∷ rs) = omega arith in
      let ih = rows_read rs (seen ++ r ∷ []) (n + 2) gs.1 (rw a u) (rw a l) (λ k. rw a (t k)) (rw (a, m) h) in
      ap (body n 4 (made ids b seen [] [])) (append_assoc (row_words r) (laid row_words rs) rest)
      ∙ row_step n (made ids b seen [] []) r (laid row_words rs ++ rest) gs.0 (shorter seen r rs 64 l) (tallied seen r rs t) (after_rising row_key seen r rs u)
      ∙ ih

  pub members_read : (rows : List Row) (rs seen : List Member) (n last : ℕ) → last ≤ 6 → list_all member_ranged rs ≡ true → Rising member_key (seen ++ rs) → length (seen ++ rs) ≤ 16
      → ((k : ℕ) → k ≤ 6 → body (n + 2 * length rs) k (made ids b rows (seen ++ rs) []) rest ≡ x) → body n last (made ids b rows seen []) (laid member_words rs ++ rest) ≡ x
  members_read rows [] seen n last le g u l h =
      let e : n + 2 * 0 ≡ n = omega arith in
      ap (λ (k : ℕ). body k last (made ids b rows seen []) rest) (sym e) ∙ ap (λ (s : List Member). body (n + 2 * 0) last (made ids b rows s []) rest) (sym (append-nil seen)) ∙ h last le
  members_read rows (r ∷ rs) seen n last le g u l h =
      let gs = and_parts (member_ranged r) (list_all member_ranged rs) g in
      let a : (seen ++ r ∷ []) ++ rs ≡ seen ++ r ∷ rs = append_assoc seen (r ∷ []) rs in
      let m : n + 2 + 2 * length rs ≡ n + 2 * length (r ∷ rs) = omega arith in
      let ih = members_read rows rs (seen ++ r ∷ []) (n + 2) 6 (omega arith) gs.1 (rw a u) (rw a l) (λ k q. rw (a, m) (h k q)) in
      ap (body n last (made ids b rows seen [])) (append_assoc (member_words r) (laid member_words rs) rest)
      ∙ member_step n last (made ids b rows seen []) r (laid member_words rs ++ rest) le gs.0 (shorter seen r rs 16 l) (after_rising member_key seen r rs u)
      ∙ ih

  pub pairs_read : (rows : List Row) (ms : List Member) (rs seen : List Pair) (n last : ℕ) → last ≤ 7 → list_all pair_ranged rs ≡ true → Rising pair_key (seen ++ rs) → length (seen ++ rs) ≤ 16
      → ((k : ℕ) → k ≤ 7 → body (n + 2 * length rs) k (made ids b rows ms (seen ++ rs)) rest ≡ x) → body n last (made ids b rows ms seen) (laid pair_words rs ++ rest) ≡ x
  pairs_read rows ms [] seen n last le g u l h =
      let e : n + 2 * 0 ≡ n = omega arith in
      ap (λ (k : ℕ). body k last (made ids b rows ms seen) rest) (sym e) ∙ ap (λ (s : List Pair). body (n + 2 * 0) last (made ids b rows ms s) rest) (sym (append-nil seen)) ∙ h last le
  pairs_read rows ms (r ∷ rs) seen n last le g u l h =
      let gs = and_parts (pair_ranged r) (list_all pair_ranged rs) g in
      let a : (seen ++ r ∷ []) ++ rs ≡ seen ++ r ∷ rs = append_assoc seen (r ∷ []) rs in
      let m : n + 2 + 2 * length rs ≡ n + 2 * length (r ∷ rs) = omega arith in
      let ih = pairs_read rows ms rs (seen ++ r ∷ []) (n + 2) 7 (omega arith) gs.1 (rw a u) (rw a l) (λ k q. rw (a, m) (h k q)) in
      ap (body n last (made ids b rows ms seen)) (append_assoc (pair_words r) (laid pair_words rs) rest)
      ∙ pair_step n last (made ids b rows ms seen) r (laid pair_words rs ++ rest) le gs.0 (shorter seen r rs 16 l) (after_rising pair_key seen r rs u)
      ∙ ih

-- the closing word
pub closed : (n last : ℕ) (c : Contents) → last ≤ 7 → n < 268435456 → body n last c ((8 * 268435456 + n) ∷ []) ≡ accepted c
closed n last c le l = ending_turn (8 * 268435456 + n) (omega arith) (omega arith)
  where
    ending_turn : (w : ℕ) → kind w ≡ 8 → amount w ≡ n → body n last c (w ∷ []) ≡ accepted c
    ending_turn w k m =
        let ord : follows last (kind w) ≡ true = rw k (and_from (leb last 8) true (le-leb last 8 (omega arith)) refl) in
        let ran : fits n w ≡ true = rw k (eq-eqb _ _ m) in
        let roo : room c w ≡ true = rw k in
        at_last n last c w (no_fault _ _ _ ord ran roo) ∙ rw k
