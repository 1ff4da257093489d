-- What is written reads back.
use Rattle.std.proofs.Common.{◌≡◌, ℕ, ◌+◌, ◌-◌, ◌*◌, ◌/◌, ◌%◌, ◌<◌, ◌≤◌, Bool, true, false, cond, eqb, ltb, leb, List, [], ◌∷◌, ◌++◌, length, get_or, take, drop, sym, refl, ap, ◌∙◌, arith}
use Rattle.std.specs.List.{filter}
use Rattle.std.proofs.lemmas.List.{append_assoc, append-nil, length-append, take_at, take_all, drop_at, get_or_at, get_or_push}
use Rattle.std.proofs.lemmas.Bool.{and_parts, and_from, le-leb, le-ltb, eq-eqb, eqb-true, lt-ltb, cond-true, cond-false}
use Rattle.std.proofs.lemmas.List.Folds.{list_all-append}
use Rattle.std.proofs.lemmas.Bool.Decides.{nat_tests}
use Rattle.message.specs.Bytes.{sevens, is_address, is_id}
use Rattle.message.specs.Codes.{code, status_code}
use Rattle.message.specs.Messages.{Fields, muid, encode, framed, fields}
use Rattle.message.specs.Kinds.{Kind, profile_reply, kind, kind_by, least, count_at, counted_lists, two_lists, with_id, enabled, disabled, added, removed, invalidation}
use Rattle.message.specs.Reading.{refused, taken_apart, reads}
use Rattle.message.specs.Rows.{stands, part, ranged, all_ranged}
use Rattle.message.specs.Sending.{everyone, sends, supports, channels, meant, ids_of, counted, profile_list}
use Rattle.message.specs.Laws.{given_kind, InRange}
use Rattle.message.specs.declared.refusal.Refusal.{Refusal}
use Rattle.message.specs.declared.row.Row.{Row}
use Rattle.message.specs.declared.address.Address.{Address}
use Rattle.message.specs.declared.profile_id.ProfileId.{ProfileId}
use Rattle.message.specs.declared.identity.Identity.{Identity}
use Rattle.message.specs.declared.sub_id.SubId.{SubId}
use Rattle.message.specs.declared.sub_id.NakStatus.{NakStatus}
use Rattle.message.specs.declared.sub_id.NakStatus.TheVariants.{NotSupported, WrongVersion, NoSuchProfile, Malformed}
use Rattle.message.specs.declared.sent.Sent.{Sent}
use Rattle.message.specs.declared.sent.Sent.TheVariants.{Discovery, DiscoveryReply, InvalidateMuid, Enabled, Disabled, Added, Removed, Nak}
use Rattle.message.proofs.Encoding.{length-encode}

-- a message whose fields are in range
pub record Good (m : Fields) : Type 0 where
  pub address : m.address < 0x80
  pub sub : m.sub < 0x80
  pub version : m.version < 0x80
  pub source : m.source < 0x10000000
  pub destination : m.destination < 0x10000000
  pub body : sevens m.body ≡ true

pub sevens-append : (xs ys : List ℕ) → sevens xs ≡ true → sevens ys ≡ true → sevens (xs ++ ys) ≡ true
sevens-append xs ys h k = list_all-append (λ b. ltb b 0x80) xs ys ∙ and_from _ _ h k

pub one_seven : (x : ℕ) → x < 0x80 → sevens (x ∷ []) ≡ true
one_seven x h = grind (arith, nat_tests)

pub muid-sevens : (n : ℕ) → n < 0x10000000 → sevens (muid n) ≡ true
muid-sevens n h = grind (arith, nat_tests)

-- all but the first and the last byte
abbrev inner : Fields → List ℕ
inner m = 0x7E ∷ m.address ∷ 0x0D ∷ m.sub ∷ m.version ∷ (muid m.source ++ (muid m.destination ++ m.body))

inner-sevens : (m : Fields) → Good m → sevens (inner m) ≡ true
inner-sevens m g =
    let head = muid-sevens m.source g.source in
    let tail = sevens-append (muid m.destination) m.body (muid-sevens m.destination g.destination) g.body in
    grind (arith, nat_tests)

last_encode : (m : Fields) → get_or (encode m) (length (encode m) - 1) 0 ≡ 0xF7
last_encode m = get_or_push (0xF0 ∷ inner m) 0xF7 0 (length (encode m) - 1) (omega (arith, length-append m.body (0xF7 ∷ [])))

inner-encode : (m : Fields) → take (length (encode m) - 2) (drop 1 (encode m)) ≡ inner m
inner-encode m = take_at (inner m) (0xF7 ∷ []) (length (encode m) - 2) (omega (arith, length-append m.body (0xF7 ∷ [])))

pub framed-encode : (m : Fields) → Good m → length m.body ≤ 497 → framed (encode m) ≡ true
framed-encode m g h =
    let n = length-encode m in
    and_from _ _ (le-leb 15 (length (encode m)) (omega arith)) (and_from _ _ (le-leb (length (encode m)) 512 (omega arith))
    (and_from _ _ (eq-eqb (get_or (encode m) (length (encode m) - 1) 0) 0xF7 (last_encode m)) (ap sevens (inner-encode m) ∙ inner-sevens m g)))

number_back : (n : ℕ) → n < 0x10000000 → n % 0x80 + n / 0x80 % 0x80 * 0x80 + n / 0x4000 % 0x80 * 0x4000 + n / 0x200000 * 0x200000 ≡ n
number_back n h = omega arith

body_back : (m : Fields) → take (length (encode m) - 15) (m.body ++ 0xF7 ∷ []) ≡ m.body
body_back m = take_at m.body (0xF7 ∷ []) (length (encode m) - 15) (omega (arith, length-append m.body (0xF7 ∷ [])))

same-fields : (m : Fields) (s d : ℕ) (b : List ℕ) → s ≡ m.source → d ≡ m.destination → b ≡ m.body
    → ◌≡◌ {A = Fields} (record { address = m.address; sub = m.sub; version = m.version; source = s; destination = d; body = b }) m
same-fields m s d b e f g = rw (e, f, g)

pub fields-encode : (m : Fields) → Good m → fields (encode m) ≡ m
fields-encode m g =
    same-fields m _ _ _ (number_back m.source g.source) (number_back m.destination g.destination) (body_back m)

pub reads-encode : (m : Fields) → Good m → length m.body ≤ 497 → reads (encode m) ≡ taken_apart m (kind m)
reads-encode m g h =
    cond-true (framed (encode m)) _ (refused Refusal.NotFramed) (framed-encode m g h)
    ∙ ap (λ (f : Fields). taken_apart f (kind f)) (fields-encode m g)

back : (m : Fields) (k : Kind) → Good m → length m.body ≤ 497 → kind m ≡ k → reads (encode m) ≡ taken_apart m k
back m k g h e = reads-encode m g h ∙ ap (taken_apart m) e

-- the fields of what is sent are in range

sends_good : (own a : ℕ) (sub : SubId) (to : ℕ) (body : List ℕ) → own < 0x10000000 → a < 0x80 → code sub < 0x80 → to < 0x10000000
    → sevens body ≡ true → Good (sends own a sub to body)
sends_good own a sub to body o h s t b = record { address = h; sub = s; version = omega arith; source = o; destination = t; body = b }

pub address_low : (a : Address) → a.byte < 0x80
address_low a = let known = a.known in grind (arith, nat_tests)

pub id_sevens : (i : ProfileId) → (length i.bytes ≡ 5) × (sevens i.bytes ≡ true)
id_sevens i = let low = i.low in (grind (arith, nat_tests), grind (arith, nat_tests))

channels-sevens : (a : ℕ) → sevens (channels a) ≡ true
channels-sevens a = go (ltb a 0x10)
  where
    go : (b : Bool) → sevens (cond b 0x01 0x00 ∷ 0x00 ∷ []) ≡ true
    go true = refl
    go false = refl

pub identity-sevens : (d : Identity) → (length d.bytes ≡ 11) × (sevens d.bytes ≡ true)
identity-sevens d = let low = d.low in (grind (arith, nat_tests), grind (arith, nat_tests))

block-low : (d : Identity) → d.block < 0x80
block-low d = let known = d.known in grind (arith, nat_tests)

status_low : (s : NakStatus) → status_code s < 0x80
status_low NotSupported = omega arith
status_low WrongVersion = omega arith
status_low NoSuchProfile = omega arith
status_low Malformed = omega arith

everyone-fits : everyone < 0x10000000
everyone-fits = omega arith

-- a message of version 2 that is long enough is of the kind of its Sub-ID
says : (own a : ℕ) (sub : SubId) (to : ℕ) (body : List ℕ) (k : Kind) → least (code sub) 2 ≤ 15 + length body → kind_by (code sub) body ≡ k
    → kind (sends own a sub to body) ≡ k
says own a sub to body k h e = cond-false _ _ _ (le-ltb (15 + length body) (least (code sub) 2) h) ∙ e

with_front : (k : List ℕ → Kind) (i rest : List ℕ) → length i ≡ 5 → with_id k (i ++ rest) ≡ k i
with_front k i rest h =
    cond-true _ _ _ (le-leb 5 (length (i ++ rest)) (omega (arith, length-append i rest))) ∙ ap k (take_at i rest 5 h)

-- a report at an address begins with the ID, and more bytes may follow
report_back : (own a : ℕ) (sub : SubId) (i rest : List ℕ) (k : List ℕ → Kind) → own < 0x10000000 → a < 0x80 → code sub < 0x80
    → least (code sub) 2 ≡ 15 → kind_by (code sub) (i ++ rest) ≡ with_id k (i ++ rest)
    → length i ≡ 5 → sevens i ≡ true → sevens rest ≡ true → length rest ≤ 2
    → reads (encode (sends own a sub everyone (i ++ rest))) ≡ taken_apart (sends own a sub everyone (i ++ rest)) (k i)
report_back own a sub i rest k o h s l e n v w few =
    back (sends own a sub everyone (i ++ rest)) (k i)
    (sends_good own a sub everyone (i ++ rest) o h s everyone-fits (sevens-append i rest v w))
    (omega (arith, length-append i rest))
    (says own a sub everyone (i ++ rest) (k i) (omega (arith, l)) (e ∙ with_front k i rest n))

abbrev Back : ℕ → Sent → Type 0
Back own s = reads (encode (meant own s)) ≡ taken_apart (meant own s) (given_kind s)

discovery_sends : (own : ℕ) (sub : SubId) (to : ℕ) (d : Identity) (tail : List ℕ) (k : Kind) → own < 0x10000000 → code sub < 0x80 → to < 0x10000000
    → sevens tail ≡ true → length tail ≤ 2 → least (code sub) 2 ≤ 31 + length tail → kind_by (code sub) (d.bytes ++ (supports ++ tail)) ≡ k
    → reads (encode (sends own 0x7F sub to (d.bytes ++ (supports ++ tail)))) ≡ taken_apart (sends own 0x7F sub to (d.bytes ++ (supports ++ tail))) k
discovery_sends own sub to d tail k o s t w few l e =
    let n = length-append d.bytes (supports ++ tail) in
    let eleven = (identity-sevens d).0 in
    back (sends own 0x7F sub to (d.bytes ++ (supports ++ tail))) k
    (sends_good own 0x7F sub to _ o (omega arith) s t (sevens-append d.bytes (supports ++ tail) (identity-sevens d).1 w))
    (omega arith)
    (says own 0x7F sub to (d.bytes ++ (supports ++ tail)) k (omega arith) e)

back_plain : (own a : ℕ) (sub : SubId) (i : List ℕ) (k : List ℕ → Kind)
    → reads (encode (sends own a sub everyone (i ++ []))) ≡ taken_apart (sends own a sub everyone (i ++ [])) (k i)
    → reads (encode (sends own a sub everyone i)) ≡ taken_apart (sends own a sub everyone i) (k i)
back_plain own a sub i k h = rw append-nil at h

pub messages_back : (own : ℕ) (s : Sent) → own < 0x10000000 → InRange s → Back own s
messages_back own (Discovery identity) o r =
    discovery_sends own SubId.Discovery everyone identity (0x00 ∷ []) _ o (omega arith) everyone-fits refl (omega arith) (omega arith) refl
messages_back own (DiscoveryReply to identity path) o r =
    discovery_sends own SubId.ReplyToDiscovery to.number identity (path ∷ identity.block ∷ []) _ o (omega arith) to.fits
    (and_from _ _ (lt-ltb path 0x80 r) (one_seven identity.block (block-low identity))) (omega arith) (omega arith) refl
messages_back own (InvalidateMuid target) o r =
    back (meant own (InvalidateMuid target)) (invalidation (muid target.number))
    (sends_good own 0x7F SubId.InvalidateMuid everyone _ o (omega arith) (omega arith) everyone-fits (muid-sevens target.number target.fits))
    (omega arith) refl
messages_back own (Enabled address id) o r =
    report_back own address.byte SubId.ProfileEnabledReport id.bytes (channels address.byte) enabled o (address_low address) (omega arith) refl refl
    (id_sevens id).0 (id_sevens id).1 (channels-sevens address.byte) (omega arith)
messages_back own (Disabled address id) o r =
    report_back own address.byte SubId.ProfileDisabledReport id.bytes (channels address.byte) disabled o (address_low address) (omega arith) refl refl
    (id_sevens id).0 (id_sevens id).1 (channels-sevens address.byte) (omega arith)
messages_back own (Added address id) o r =
    back_plain own address.byte SubId.ProfileAddedReport id.bytes added
    (report_back own address.byte SubId.ProfileAddedReport id.bytes [] added o (address_low address) (omega arith) refl refl
    (id_sevens id).0 (id_sevens id).1 refl (omega arith))
messages_back own (Removed address id) o r =
    back_plain own address.byte SubId.ProfileRemovedReport id.bytes removed
    (report_back own address.byte SubId.ProfileRemovedReport id.bytes [] removed o (address_low address) (omega arith) refl refl
    (id_sevens id).0 (id_sevens id).1 refl (omega arith))
messages_back own (Nak to address sub status) o r =
    back (meant own (Nak to address sub status)) _
    (sends_good own address.byte SubId.Nak to.number _ o (address_low address) (omega arith) to.fits
    (and_from _ _ (lt-ltb sub 0x80 r) (and_from _ _ (lt-ltb (status_code status) 0x80 (status_low status)) refl)))
    (omega arith) refl

-- the reply to a listing inquiry

abbrev pub Fives : List Row → Type 0
Fives [] = Unit {0}
Fives (r ∷ l) = (length r.id ≡ 5) × (sevens r.id ≡ true) × Fives l

fives_go : (r : Row) (xs : List Row) (k : Bool) → ranged r.address r.id ≡ true → Fives xs → Fives (cond k (r ∷ xs) xs)
fives_go r xs true h f =
    let p = and_parts (is_address r.address) (is_id r.id) h in
    let q = and_parts (eqb (length r.id) 5) (sevens r.id) p.1 in
    (eqb-true _ _ q.0, q.1, f)
fives_go r xs false h f = f

pub fives_kept : (p : Row → Bool) (l : List Row) → all_ranged l ≡ true → Fives (filter p l)
fives_kept p [] v = tt
fives_kept p (r ∷ l) v =
    let h = and_parts (ranged r.address r.id) (all_ranged l) v in
    fives_go r (filter p l) (p r) h.0 (fives_kept p l h.1)

pub length_ids : (l : List Row) → Fives l → length (ids_of l) ≡ 5 * length l
length_ids [] f = refl
length_ids (r ∷ l) (h, s, f) = omega (arith, length-append r.id (ids_of l), length_ids l f)

sevens-ids : (l : List Row) → Fives l → sevens (ids_of l) ≡ true
sevens-ids [] f = refl
sevens-ids (r ∷ l) (h, s, f) = sevens-append r.id (ids_of l) s (sevens-ids l f)

pub length-counted : (l : List Row) → Fives l → length (counted l) ≡ 2 + 5 * length l
length-counted l f = omega (arith, length_ids l f)

sevens-counted : (l : List Row) → Fives l → length l < 0x4000 → sevens (counted l) ≡ true
sevens-counted l f h =
    and_from _ _ (lt-ltb (length l % 0x80) 0x80 (omega arith)) (and_from _ _ (lt-ltb (length l / 0x80) 0x80 (omega arith)) (sevens-ids l f))

count_back : (n : ℕ) → n % 0x80 + n / 0x80 * 0x80 ≡ n
count_back n = omega arith

module _ (xs ys : List Row) (f : Fives xs) (g : Fives ys) where
  abbrev both : List ℕ
  both = counted xs ++ counted ys

  first_count : count_at 0 both ≡ length xs
  first_count = count_back (length xs)

  second-low : get_or both (2 + 5 * length xs) 0 ≡ length ys % 0x80
  second-low = get_or_at (counted xs) (length ys % 0x80) (length ys / 0x80 ∷ ids_of ys) 0 (2 + 5 * length xs) (length-counted xs f)

  second-high : get_or both (2 + 5 * length xs + 1) 0 ≡ length ys / 0x80
  second-high =
      ap (λ (zs : List ℕ). get_or zs (2 + 5 * length xs + 1) 0) (sym (append_assoc (counted xs) (length ys % 0x80 ∷ []) (length ys / 0x80 ∷ ids_of ys)))
      ∙ get_or_at (counted xs ++ length ys % 0x80 ∷ []) (length ys / 0x80) (ids_of ys) 0 (2 + 5 * length xs + 1)
      (omega (arith, length-append (counted xs) (length ys % 0x80 ∷ []), length-counted xs f))

  second-count : count_at (2 + 5 * length xs) both ≡ length ys
  second-count = rw (second-low, second-high) (count_back (length ys))

  first-ids : take (5 * length xs) (drop 2 both) ≡ ids_of xs
  first-ids = take_at (ids_of xs) (counted ys) (5 * length xs) (length_ids xs f)

  second-ids : take (5 * length ys) (drop (4 + 5 * length xs) both) ≡ ids_of ys
  second-ids =
      ap (λ (zs : List ℕ). take (5 * length ys) (drop (4 + 5 * length xs) zs)) (sym (append_assoc (counted xs) (length ys % 0x80 ∷ length ys / 0x80 ∷ []) (ids_of ys)))
      ∙ ap (take (5 * length ys)) (drop_at (counted xs ++ length ys % 0x80 ∷ length ys / 0x80 ∷ []) (ids_of ys) (4 + 5 * length xs)
      (omega (arith, length-append (counted xs) (length ys % 0x80 ∷ length ys / 0x80 ∷ []), length-counted xs f)))
      ∙ take_all (5 * length ys) (ids_of ys) (omega (arith, length_ids ys g))

  whole-lists : leb (4 + 5 * length xs + 5 * length ys) (length both) ≡ true
  whole-lists = le-leb _ _ (omega (arith, length-append (counted xs) (counted ys), length-counted xs f, length-counted ys g))

  lists_back : two_lists both ≡ profile_reply (ids_of xs) (ids_of ys)
  lists_back =
      ap (λ (n : ℕ). counted_lists n (count_at (2 + 5 * n) both) both) first_count
      ∙ ap (λ (k : ℕ). counted_lists (length xs) k both) second-count
      ∙ cond-true _ _ _ whole-lists
      ∙ ap (λ (zs : List ℕ). profile_reply zs (take (5 * length ys) (drop (4 + 5 * length xs) both))) first-ids
      ∙ ap (profile_reply (ids_of xs)) second-ids

pub profile_lists_back : (own to a : ℕ) (rows : List Row) → own < 0x10000000 → to < 0x10000000 → a < 0x80 → all_ranged rows ≡ true
    → length (encode (profile_list own to a rows)) ≤ 512
    → reads (encode (profile_list own to a rows)) ≡ taken_apart (profile_list own to a rows) (profile_reply (ids_of (part a true rows)) (ids_of (part a false rows)))
profile_lists_back own to a rows o t h v few =
    let xs : List Row = part a true rows in
    let ys : List Row = part a false rows in
    let f : Fives xs = fives_kept (stands a true) rows v in
    let g : Fives ys = fives_kept (stands a false) rows v in
    let n = length-encode (profile_list own to a rows) in
    let m = length-append (counted xs) (counted ys) in
    let p = length-counted xs f in
    let q = length-counted ys g in
    back (profile_list own to a rows) (profile_reply (ids_of xs) (ids_of ys))
    (sends_good own a SubId.ReplyToProfileInquiry to _ o h (omega arith) t
    (sevens-append (counted xs) (counted ys) (sevens-counted xs f (omega arith)) (sevens-counted ys g (omega arith))))
    (omega arith)
    (says own a SubId.ReplyToProfileInquiry to (counted xs ++ counted ys) _ (omega arith) (lists_back xs ys f g))
