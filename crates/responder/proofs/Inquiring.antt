-- An inquiry with a version, a supported Sub-ID and an address, by its kind.
use Rattle.std.proofs.Common.{◌≡◌, ℕ, ◌+◌, Bool, true, false, cond, not, ◌||◌, eqb, ltb, leb, ◌⊎◌, List, [], ◌∷◌, map, length, get_or, take, Some, None, sym, refl, ap, ◌∙◌, subst, inl, inr, ⊎_elim, arith}
use Rattle.std.proofs.lemmas.Bool.{or_cases, both_ways, eqb-true, le-ltb, ne_eqb}
use Rattle.message.specs.Bytes.{is_address}
use Rattle.message.specs.Messages.{Fields}
use Rattle.message.specs.Kinds.{Kind, discovery, discovery_reply, invalidation, profile_inquiry, profile_reply, set_on, set_off, enabled, disabled, added, removed, nak, other, kind}
use Rattle.message.specs.Reading.{kind_of}
use Rattle.message.specs.Shapes.{Shaped}
use Rattle.message.specs.Sending.{discover_reply, profile_list}
use Rattle.message.specs.declared.identity.Identity.{Identity}
use Rattle.message.specs.declared.message.Message.{Message}
use Rattle.message.specs.declared.message.Content.{Content}
use Rattle.message.specs.declared.message.Content.TheVariants.{Discovery, DiscoveryReply, InvalidateMuid, ProfileInquiry, ProfileReply, SetOn, SetOff, Enabled, Disabled, Added, Removed, Nak, Other}
use Rattle.message.specs.declared.address.Address.{Address}
use Rattle.message.specs.declared.row.Row.{Row}
use Rattle.message.specs.declared.sub_id.NakStatus.{NakStatus}
use Rattle.numbers.specs.Device.{has, noted}
use Rattle.host.specs.Rows.{has as listed}
use Rattle.responder.specs.Actions.{Shows, header_of}
use Rattle.responder.specs.Inquiries.{fault, supported}
use Rattle.responder.specs.Plans.{Plan, send, turn, replied_at, answering, denying, inquiring}

module _ (d : Identity) (own : ℕ) (others : List ℕ) (l : List Row) where
  abbrev denied : NakStatus → Fields → Plan
  denied status q = denying d own others l status q

  -- what comes of an inquiry, by its kind
  abbrev pub by_kind : Fields → Kind → Plan
  by_kind q (discovery body) =
      cond (eqb q.address 0x7F)
      (send (discover_reply d own q.source (cond (leb q.version 1) 0x00 (get_or body 16 0)) ∷ []) own (noted own q.source others))
      (denied NakStatus.Malformed q)
  by_kind q (discovery_reply body) = denied NakStatus.Malformed q
  by_kind q (invalidation target) = denied NakStatus.Malformed q
  by_kind q profile_inquiry = send (map (λ a. profile_list own q.source a l) (replied_at l q.address)) own others
  by_kind q (profile_reply on off) = denied NakStatus.Malformed q
  by_kind q (set_on id) = cond (listed l q.address id) (turn q.address id true) (denied NakStatus.NoSuchProfile q)
  by_kind q (set_off id) = cond (listed l q.address id) (turn q.address id false) (denied NakStatus.NoSuchProfile q)
  by_kind q (enabled id) = denied NakStatus.Malformed q
  by_kind q (disabled id) = denied NakStatus.Malformed q
  by_kind q (added id) = denied NakStatus.Malformed q
  by_kind q (removed id) = denied NakStatus.Malformed q
  by_kind q (nak body) = denied NakStatus.Malformed q
  by_kind q other = denied NakStatus.Malformed q

  abbrev comes : Fields → Plan
  comes q = inquiring d own others l (fault l q) q

  listing-comes : (q : Fields) → q.sub ≡ 0x20 → eqb q.version 0 ≡ false → is_address q.address ≡ true → comes q ≡ by_kind q (kind q)
  listing-comes q e v k =
      let sh : ltb (15 + length q.body) 15 ≡ false = le-ltb (15 + length q.body) 15 (omega arith) in
      rw (e, v, k, sh)

  short-last : (f : Fields) (b : Bool) → inquiring d own others l (cond (not b || true) (Some NakStatus.Malformed) None) f ≡ denied NakStatus.Malformed f
  short-last f true = refl
  short-last f false = refl

  whole-last : (f : Fields) (b : Bool)
      → inquiring d own others l (cond (not b || false) (Some NakStatus.Malformed) None) f ≡ cond b (answering d own others l f) (denied NakStatus.Malformed f)
  whole-last f true = refl
  whole-last f false = refl

  discovery-comes : (q : Fields) → q.sub ≡ 0x70 → eqb q.version 0 ≡ false → is_address q.address ≡ true → comes q ≡ by_kind q (kind q)
  discovery-comes q e v k = go (ltb (15 + length q.body) (cond (leb q.version 1) 31 32)) refl
    where
      go : (s : Bool) → ltb (15 + length q.body) (cond (leb q.version 1) 31 32) ≡ s → comes q ≡ by_kind q (kind q)
      go true t = rw (e, v, k, t) (short-last _ (eqb q.address 0x7F))
      go false t = rw (e, v, k, t) (whole-last _ (eqb q.address 0x7F))

  on-comes : (q : Fields) → q.sub ≡ 0x22 → eqb q.version 0 ≡ false → is_address q.address ≡ true → comes q ≡ by_kind q (kind q)
  on-comes q e v k =
      go (listed l q.address (take 5 q.body)) (ltb (15 + length q.body) (cond (leb q.version 1) 20 22)) refl refl
    where
      go : (b s : Bool) → listed l q.address (take 5 q.body) ≡ b → ltb (15 + length q.body) (cond (leb q.version 1) 20 22) ≡ s
          → comes q ≡ by_kind q (kind q)
      go true true a t = rw (e, v, k, t)
      go true false a t = rw (e, v, k, t, a)
      go false true a t = rw (e, v, k, t)
      go false false a t = rw (e, v, k, t, a)

  off-comes : (q : Fields) → q.sub ≡ 0x23 → eqb q.version 0 ≡ false → is_address q.address ≡ true → comes q ≡ by_kind q (kind q)
  off-comes q e v k =
      go (listed l q.address (take 5 q.body)) (ltb (15 + length q.body) (cond (leb q.version 1) 20 22)) refl refl
    where
      go : (b s : Bool) → listed l q.address (take 5 q.body) ≡ b → ltb (15 + length q.body) (cond (leb q.version 1) 20 22) ≡ s
          → comes q ≡ by_kind q (kind q)
      go true true a t = rw (e, v, k, t)
      go true false a t = rw (e, v, k, t, a)
      go false true a t = rw (e, v, k, t)
      go false false a t = rw (e, v, k, t, a)

supported_cases : (s : ℕ) → has s supported ≡ true → (0x20 ≡ s) ⊎ ((0x22 ≡ s) ⊎ ((0x23 ≡ s) ⊎ (0x70 ≡ s)))
supported_cases s h =
    ⊎_elim (λ t. inl (eqb-true 0x20 s t))
    (λ u. inr (⊎_elim (λ t. inl (eqb-true 0x22 s t))
    (λ w. inr (⊎_elim (λ t. inl (eqb-true 0x23 s t)) (λ x. inr (⊎_elim (λ t. eqb-true 0x70 s t) (λ y. absurd (both_ways false refl y)) (or_cases _ _ x))) (or_cases _ _ w)))
    (or_cases _ _ u)))
    (or_cases (eqb 0x20 s) _ h)

pub comes_by_kind : (d : Identity) (own : ℕ) (others : List ℕ) (l : List Row) (q : Fields) → eqb q.version 0 ≡ false → has q.sub supported ≡ true
    → is_address q.address ≡ true → inquiring d own others l (fault l q) q ≡ by_kind d own others l q (kind q)
comes_by_kind d own others l q v s k =
    ⊎_elim (λ e. listing-comes d own others l q (sym e) v k)
    (⊎_elim (λ e. on-comes d own others l q (sym e) v k)
    (⊎_elim (λ e. off-comes d own others l q (sym e) v k) (λ e. discovery-comes d own others l q (sym e) v k)))
    (supported_cases q.sub s)

-- what was read is of a kind that no inquiry has
pub by_other : (d : Identity) (own : ℕ) (others : List ℕ) (l : List Row) (q : Fields) (c : Content) → (c ≡ ProfileInquiry → ⊥)
    → ((id : _) → c ≡ SetOn id → ⊥) → ((id : _) → c ≡ SetOff id → ⊥) → ((body : _) → c ≡ Discovery body → eqb q.address 0x7F ≡ false)
    → denying d own others l NakStatus.Malformed q ≡ by_kind d own others l q (kind_of c)
by_other d own others l q (Discovery body) p s t u = rw (u body refl)
by_other d own others l q (DiscoveryReply body) p s t u = refl
by_other d own others l q (InvalidateMuid target) p s t u = refl
by_other d own others l q ProfileInquiry p s t u = absurd (p refl)
by_other d own others l q (ProfileReply on off) p s t u = refl
by_other d own others l q (SetOn id) p s t u = absurd (s id refl)
by_other d own others l q (SetOff id) p s t u = absurd (t id refl)
by_other d own others l q (Enabled id) p s t u = refl
by_other d own others l q (Disabled id) p s t u = refl
by_other d own others l q (Added id) p s t u = refl
by_other d own others l q (Removed id) p s t u = refl
by_other d own others l q (Nak body) p s t u = refl
by_other d own others l q Other p s t u = refl

-- the header alone decides a NAK
pub deny_same : (d : Identity) (own : ℕ) (others : List ℕ) (l : List Row) (status : NakStatus) (m : Message) (q : Fields) (to : ℕ) → Shows m q → to ≡ q.source
    → denying d own others l status (header_of m to) ≡ denying d own others l status q
deny_same d own others l status m q to w e =
    let a = w.address in
    let s = w.sub in
    let t = w.destination in
    rw (a, s, t, e)

-- a message that passed the first checks, and what it holds
pub record Passed (m : Message) (address : ℕ) : Type 0 where
  pub version : m.version ≡ 0 → ⊥
  pub sub : has m.sub_id supported ≡ true
  pub address_is : address ≡ m.address
  pub known : is_address address ≡ true

pub passed : (m : Message) (a : Address) → (m.version ≡ 0 → ⊥) → true ≡ has m.sub_id supported → a.byte ≡ m.address → Passed m a.byte
passed m a v s e = record { version = v; sub = sym s; address_is = e; known = a.known }

module _ (d : Identity) (own : ℕ) (others : List ℕ) (l : List Row) (m : Message) (to address : ℕ) (p : Passed m address) (q : Fields) (w : Shows m q) (e : to ≡ q.source) where
  same_address : address ≡ q.address
  same_address = p.address_is ∙ w.address

  pub passed_comes : inquiring d own others l (fault l q) q ≡ by_kind d own others l q (kind_of m.content)
  passed_comes =
      comes_by_kind d own others l q (ap (λ (n : ℕ). eqb n 0) (sym w.version) ∙ ne_eqb m.version 0 p.version)
      (ap (λ (n : ℕ). has n supported) (sym w.sub) ∙ p.sub) (ap is_address (sym same_address) ∙ p.known)
      ∙ ap (by_kind d own others l q) (sym w.holds)

  pub listing_passed : m.content ≡ ProfileInquiry
      → send (map (λ a. profile_list own to a l) (replied_at l address)) own others ≡ inquiring d own others l (fault l q) q
  listing_passed c =
      ap (λ (n : ℕ). send (map (λ a. profile_list own n a l) (replied_at l address)) own others) e
      ∙ ap (λ (n : ℕ). send (map (λ a. profile_list own q.source a l) (replied_at l n)) own others) same_address
      ∙ ap (λ (k : Content). by_kind d own others l q (kind_of k)) (sym c)
      ∙ sym passed_comes

  denied-same : (status : NakStatus) → denying d own others l status (header_of m to) ≡ denying d own others l status q
  denied-same status = deny_same d own others l status m q to w e

  switched : (id : List ℕ) (on : Bool) (x : Plan)
      → x ≡ cond (listed l address id) (turn address id on) (denying d own others l NakStatus.NoSuchProfile (header_of m to))
      → x ≡ cond (listed l q.address id) (turn q.address id on) (denying d own others l NakStatus.NoSuchProfile q)
  switched id on x h =
      h ∙ ap (λ (y : Plan). cond (listed l address id) (turn address id on) y) (denied-same NakStatus.NoSuchProfile)
      ∙ ap (λ (n : ℕ). cond (listed l n id) (turn n id on) (denying d own others l NakStatus.NoSuchProfile q)) same_address

  pub on_passed : (id : _) (x : Plan) → m.content ≡ SetOn id
      → x ≡ cond (listed l address id.now) (turn address id.now true) (denying d own others l NakStatus.NoSuchProfile (header_of m to))
      → x ≡ inquiring d own others l (fault l q) q
  on_passed id x c h =
      switched id.now true x h ∙ ap (λ (k : Content). by_kind d own others l q (kind_of k)) (sym c) ∙ sym passed_comes

  pub off_passed : (id : _) (x : Plan) → m.content ≡ SetOff id
      → x ≡ cond (listed l address id.now) (turn address id.now false) (denying d own others l NakStatus.NoSuchProfile (header_of m to))
      → x ≡ inquiring d own others l (fault l q) q
  off_passed id x c h =
      switched id.now false x h ∙ ap (λ (k : Content). by_kind d own others l q (kind_of k)) (sym c) ∙ sym passed_comes

  pub other_passed : (x : Plan) → (m.content ≡ ProfileInquiry → ⊥) → ((id : _) → m.content ≡ SetOn id → ⊥) → ((id : _) → m.content ≡ SetOff id → ⊥)
      → ((body : _) → m.content ≡ Discovery body → ⊥) → x ≡ denying d own others l NakStatus.Malformed (header_of m to)
      → x ≡ inquiring d own others l (fault l q) q
  other_passed x f g h k z =
      z ∙ denied-same NakStatus.Malformed ∙ by_other d own others l q m.content f g h (λ body r. absurd (k body r)) ∙ sym passed_comes

-- the ID of a switching inquiry has five bytes
pub five_on : (c : Content) (id : _) → c ≡ SetOn id → Shaped (kind_of c) → length id.now ≡ 5
five_on c id e h = subst (λ (k : Content). Shaped (kind_of k)) e h

pub five_off : (c : Content) (id : _) → c ≡ SetOff id → Shaped (kind_of c) → length id.now ≡ 5
five_off c id e h = subst (λ (k : Content). Shaped (kind_of k)) e h
