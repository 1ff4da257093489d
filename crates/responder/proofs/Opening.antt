-- What is decided of a framed message.
use Rattle.std.proofs.Common.{◌≡◌, ℕ, ◌+◌, ◌-◌, ◌≤◌, Bool, true, false, cond, not, ◌&&◌, ◌||◌, eqb, ltb, List, [], ◌∷◌, length, drop, Ok, Err, Result, sym, refl, ap, ◌∙◌, arith}
use Rattle.std.proofs.lemmas.List.{length-take, length-drop}
use Rattle.std.proofs.lemmas.Bool.{and_parts, or_parts, cond-true, cond-false, eq-eqb, eqb-true, ne_eqb, leb-true}
use Rattle.message.specs.Messages.{Fields, framed, fields}
use Rattle.message.specs.Kinds.{Kind, kind, too_short}
use Rattle.message.specs.Reading.{Reading, refused, message, reads, told, kind_of, taken_apart}
use Rattle.message.specs.Shapes.{Shaped, ShapedReading}
use Rattle.message.specs.Sending.{discover, invalidate}
use Rattle.message.specs.declared.identity.Identity.{Identity}
use Rattle.message.specs.declared.message.Message.{Message}
use Rattle.message.specs.declared.refusal.Refusal.{Refusal}
use Rattle.message.specs.declared.row.Row.{Row}
use Rattle.numbers.specs.Device.{noted, forgotten, renewed}
use Rattle.responder.specs.Actions.{Shows, sorted}
use Rattle.responder.specs.Inquiries.{heard, usable, clash, for_us, for_us_by, fault, target}
use Rattle.responder.specs.Plans.{Plan, refuse, send, hearing, inquiring, opened}
use Rattle.responder.specs.declared.action.Sorted.{Sorted}
use Rattle.responder.specs.declared.action.Sorted.TheVariants.{Reply, Invalidation, Heard, Inquiry}

-- what was read shows the fields of the bytes, which are framed
shows_go : (m : Message) (q : Fields) → message m.address m.sub_id m.version m.source m.destination (kind_of m.content) ≡ taken_apart q (kind q)
    → Shaped (kind_of m.content) → Shows m q
shows_go m q e s = record { address = cc; sub = cc; version = cc; source = cc; destination = cc; holds = cc; shaped = s }

read_go : (m : Message) (bs : List ℕ) (b : Bool) → framed bs ≡ b
    → message m.address m.sub_id m.version m.source m.destination (kind_of m.content) ≡ cond b (taken_apart (fields bs) (kind (fields bs))) (refused Refusal.NotFramed)
    → Shaped (kind_of m.content) → (framed bs ≡ true) × Shows m (fields bs)
read_go m bs true f e s = (f, shows_go m (fields bs) e s)
read_go m bs false f e s = let z : ◌≡◌ {A = ℕ} 0 1 = cc in absurd (omega arith)

pub read_shows : (m : Message) (bs : List ℕ) → told (Ok m) ≡ reads bs → ShapedReading (told (Ok m)) → (framed bs ≡ true) × Shows m (fields bs)
read_shows m bs e s = read_go m bs (framed bs) refl e s.parts

refused_go : (e : Refusal) (x : Reading) (p : Plan) (b : Bool) (k : Kind) (q : Fields) → refused e ≡ cond b (taken_apart q k) (refused Refusal.NotFramed)
    → refuse e ≡ cond b p (refuse Refusal.NotFramed)
refused_go e x p true k q h = let z : ◌≡◌ {A = ℕ} 0 1 = cc in absurd (omega arith)
refused_go e x p false k q h = cc

pub read_refused : (e : Refusal) (bs : List ℕ) (p : Plan) → told (Err e) ≡ reads bs → refuse e ≡ cond (framed bs) p (refuse Refusal.NotFramed)
read_refused e bs p h = refused_go e (reads bs) p (framed bs) (kind (fields bs)) (fields bs) h

-- how long framed bytes are
pub framed-length : (bs : List ℕ) → framed bs ≡ true → (15 ≤ length bs) × (15 + length (fields bs).body ≡ length bs)
framed-length bs f =
    let long = leb-true 15 (length bs) (and_parts _ _ f).0 in
    (long, omega (arith, long, length-take (length bs - 15) (drop 14 bs), length-drop 14 bs))

-- the plan by how a message is sorted
by_sort : (p q r s : Plan) → Result Sorted Refusal → Plan
by_sort p q r s (Err e) = refuse e
by_sort p q r s (Ok Reply) = p
by_sort p q r s (Ok Invalidation) = q
by_sort p q r s (Ok Heard) = r
by_sort p q r s (Ok Inquiry) = s

sort_plan : (p q r s : Plan) (h e a b : Bool)
    → cond h (cond e (refuse Refusal.NotUnderstood) (cond a p (cond b q r))) s
    ≡ by_sort p q r s (cond h (cond e (Err Refusal.NotUnderstood) (cond a (Ok Reply) (cond b (Ok Invalidation) (Ok Heard)))) (Ok Inquiry))
unfolding by_sort
sort_plan p q r s true true a b = refl
sort_plan p q r s true false true b = refl
sort_plan p q r s true false false true = refl
sort_plan p q r s true false false false = refl
sort_plan p q r s false e a b = refl

invalid_tests : (h e a b : Bool) → cond h (cond e (Err Refusal.NotUnderstood) (cond a (Ok Reply) (cond b (Ok Invalidation) (Ok Heard)))) (Ok Inquiry) ≡ Ok Invalidation
    → (b ≡ true) × (e ≡ false)
invalid_tests true true a b h = absurd (cc)
invalid_tests true false true b h = absurd (cc)
invalid_tests true false false true h = (refl, refl)
invalid_tests true false false false h = absurd (cc)
invalid_tests false e a b h = absurd (cc)

module _ (d : Identity) (own : ℕ) (others : List ℕ) (l : List Row) (draw : ℕ) (m : Message) (bs : List ℕ) (f : framed bs ≡ true) (w : Shows m (fields bs)) where
  abbrev q : Fields
  q = fields bs

  abbrev goal : Plan
  goal = cond (framed bs) (opened d own others l q draw) (refuse Refusal.NotFramed)

  goal-opened : goal ≡ opened d own others l q draw
  goal-opened = cond-true _ _ _ f

  same-usable : usable q.source ≡ ltb m.source 268435200
  same-usable = ap usable (sym w.source)

  pub source_refused : ltb m.source 268435200 ≡ false → refuse Refusal.SourceNotUsable ≡ goal
  source_refused h = sym (goal-opened ∙ cond-true _ _ _ (ap not (same-usable ∙ h)))

  usable-opened : ltb m.source 268435200 ≡ true
      → goal ≡ cond (clash own q) (send (invalidate own own ∷ discover d (renewed own others draw) ∷ []) (renewed own others draw) others)
      (cond (eqb q.source own) (refuse Refusal.SourceNotUsable)
      (cond (not (for_us own q)) (refuse Refusal.NotForUs) (cond (heard q.sub) (hearing d own others l q draw) (inquiring d own others l (fault l q) q))))
  usable-opened h = goal-opened ∙ cond-false _ _ _ (ap not (same-usable ∙ h))

  clash-go : (b c : Bool) (x y z : Plan) → c ≡ true → cond (b && c) x (cond c y z) ≡ cond b x y
  clash-go true true x y z h = refl
  clash-go false true x y z h = refl
  clash-go true false x y z h = let e : ◌≡◌ {A = ℕ} 0 1 = cc in absurd (omega arith)
  clash-go false false x y z h = let e : ◌≡◌ {A = ℕ} 0 1 = cc in absurd (omega arith)

  pub from_own : (x : Plan) → ltb m.source 268435200 ≡ true → m.source ≡ own
      → x ≡ cond (eqb m.sub_id 0x70 || eqb m.sub_id 0x71)
      (send (invalidate own own ∷ discover d (renewed own others draw) ∷ []) (renewed own others draw) others) (refuse Refusal.SourceNotUsable)
      → x ≡ goal
  from_own x u o e =
      e
      ∙ ap (λ (n : ℕ). cond (eqb n 0x70 || eqb n 0x71) (send (invalidate own own ∷ discover d (renewed own others draw) ∷ []) (renewed own others draw) others) (refuse Refusal.SourceNotUsable)) w.sub
      ∙ sym (usable-opened u
      ∙ clash-go (eqb q.sub 0x70 || eqb q.sub 0x71) (eqb q.source own) _ _ _ (eq-eqb q.source own (sym w.source ∙ o)))

  other-go : (b c : Bool) (x y z : Plan) → c ≡ false → cond (b && c) x (cond c y z) ≡ z
  other-go true false x y z h = refl
  other-go false false x y z h = refl
  other-go true true x y z h = let e : ◌≡◌ {A = ℕ} 0 1 = cc in absurd (omega arith)
  other-go false true x y z h = let e : ◌≡◌ {A = ℕ} 0 1 = cc in absurd (omega arith)

  from-other : ltb m.source 268435200 ≡ true → (m.source ≡ own → ⊥)
      → goal ≡ cond (not (for_us own q)) (refuse Refusal.NotForUs) (cond (heard q.sub) (hearing d own others l q draw) (inquiring d own others l (fault l q) q))
  from-other u o =
      usable-opened u
      ∙ other-go (eqb q.sub 0x70 || eqb q.sub 0x71) (eqb q.source own) _ _ _ (ne_eqb q.source own (λ e. o (w.source ∙ e)))

  same-for-us : for_us own q ≡ for_us_by own m.destination m.sub_id
  same-for-us =
      ap (λ (n : ℕ). for_us_by own n q.sub) (sym w.destination) ∙ ap (for_us_by own m.destination) (sym w.sub)

  pub not_for_us : ltb m.source 268435200 ≡ true → (m.source ≡ own → ⊥) → for_us_by own m.destination m.sub_id ≡ false → refuse Refusal.NotForUs ≡ goal
  not_for_us u o h = sym (from-other u o ∙ cond-true _ _ _ (ap not (same-for-us ∙ h)))

-- a message that was read, comes from another device and is for us
pub record Ours (own : ℕ) (m : Message) (bs : List ℕ) : Type 0 where
  pub whole : framed bs ≡ true
  pub shows : Shows m (fields bs)
  pub usable : ltb m.source 268435200 ≡ true
  pub other : m.source ≡ own → ⊥
  pub ours : for_us_by own m.destination m.sub_id ≡ true

pub ours_read : (own : ℕ) (m : Message) (bs : List ℕ) → told (Ok m) ≡ reads bs → ShapedReading (told (Ok m)) → ltb m.source 268435200 ≡ true → (m.source ≡ own → ⊥)
    → true ≡ for_us_by own m.destination m.sub_id → Ours own m bs
ours_read own m bs e s u o f =
    let r = read_shows m bs e s in
    record { whole = r.0; shows = r.1; usable = u; other = o; ours = sym f }

module _ (d : Identity) (own : ℕ) (others : List ℕ) (l : List Row) (draw : ℕ) (m : Message) (bs : List ℕ) (o : Ours own m bs) where
  abbrev fs : Fields
  fs = fields bs

  abbrev lost : Plan
  lost = cond (eqb (target fs) own) (send (discover d (renewed own others draw) ∷ []) (renewed own others draw) others) (send [] own (forgotten (target fs) others))

  abbrev plan_by : Result Sorted Refusal → Plan
  plan_by = by_sort (send [] own (noted own fs.source others)) lost (send [] own others) (inquiring d own others l (fault l fs) fs)

  abbrev ends : Plan
  ends = cond (framed bs) (opened d own others l fs draw) (refuse Refusal.NotFramed)

  for-us-plan : ends ≡ plan_by (sorted fs.sub fs.version (15 + length fs.body))
  for-us-plan =
      from-other d own others l draw m bs o.whole o.shows o.usable o.other
      ∙ cond-false _ _ _ (ap not (same-for-us d own others l draw m bs o.whole o.shows ∙ o.ours))
      ∙ sort_plan (send [] own (noted own fs.source others)) lost (send [] own others) (inquiring d own others l (fault l fs) fs)
      (heard fs.sub) (eqb fs.version 0 || too_short fs) (eqb fs.sub 0x71) (eqb fs.sub 0x7E)

  same-sort : sorted fs.sub fs.version (15 + length fs.body) ≡ sorted m.sub_id m.version (length bs)
  same-sort =
      ap (λ (n : ℕ). sorted n fs.version (15 + length fs.body)) (sym o.shows.sub)
      ∙ ap (λ (n : ℕ). sorted m.sub_id n (15 + length fs.body)) (sym o.shows.version)
      ∙ ap (sorted m.sub_id m.version) (framed-length bs o.whole).1

  ends-by : (s : Result Sorted Refusal) → s ≡ sorted m.sub_id m.version (length bs) → ends ≡ plan_by s
  ends-by s e = for-us-plan ∙ ap plan_by (same-sort ∙ sym e)

  pub sort_refused : (e : Refusal) → Err e ≡ sorted m.sub_id m.version (length bs) → refuse e ≡ ends
  unfolding by_sort
  sort_refused e h = sym (ends-by (Err e) h)

  pub reply_noted : (from : ℕ) → from ≡ m.source → Ok Reply ≡ sorted m.sub_id m.version (length bs) → send [] own (noted own from others) ≡ ends
  unfolding by_sort
  reply_noted from e h = ap (λ (n : ℕ). send [] own (noted own n others)) (e ∙ o.shows.source) ∙ sym (ends-by (Ok Reply) h)

  pub only_heard : Ok Heard ≡ sorted m.sub_id m.version (length bs) → send [] own others ≡ ends
  unfolding by_sort
  only_heard h = sym (ends-by (Ok Heard) h)

  pub inquired : (x : Plan) → Ok Inquiry ≡ sorted m.sub_id m.version (length bs) → x ≡ inquiring d own others l (fault l fs) fs → x ≡ ends
  unfolding by_sort
  inquired x h e = e ∙ sym (ends-by (Ok Inquiry) h)

  pub invalidated_number : (x : Plan) → Ok Invalidation ≡ sorted m.sub_id m.version (length bs)
      → (fs.sub ≡ 0x7E → eqb fs.version 0 ≡ false → too_short fs ≡ false → x ≡ lost) → x ≡ ends
  unfolding by_sort
  invalidated_number x h e =
      let t = invalid_tests (heard fs.sub) (eqb fs.version 0 || too_short fs) (eqb fs.sub 0x71) (eqb fs.sub 0x7E) (same-sort ∙ sym h) in
      let p = or_parts (eqb fs.version 0) (too_short fs) t.1 in
      e (eqb-true fs.sub 0x7E t.0) p.0 p.1 ∙ sym (ends-by (Ok Invalidation) h)
