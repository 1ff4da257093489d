-- What reading and writing have to do with each other.
use Rattle.std.specs.Prelude.{◌≡◌, ℕ, ◌*◌, ◌/◌, ◌%◌, ◌<◌, ◌≤◌, true, false, cond, List, [], ◌∷◌, ◌++◌, length, nat_le}
use Rattle.message.specs.Codes.{code, status_code}
use Rattle.message.specs.Messages.{Fields, muid, encode, framed, fields}
use Rattle.message.specs.Kinds.{Kind, discovery, discovery_reply, invalidation, profile_inquiry, profile_reply, set_on, set_off, enabled, disabled, added, removed, nak, other, kind}
use Rattle.message.specs.Reading.{taken_apart, reads}
use Rattle.message.specs.Rows.{part, all_ranged}
use Rattle.message.specs.Sending.{supports, meant, ids_of, profile_list}
use Rattle.message.specs.declared.row.Row.{Row}
use Rattle.message.specs.declared.sub_id.SubId.{SubId}
use Rattle.message.specs.declared.sent.Sent.{Sent}
use Rattle.message.specs.declared.sent.Sent.TheVariants.{Discovery, DiscoveryReply, InvalidateMuid, Enabled, Disabled, Added, Removed, Nak}

-- the kind of a message that is sent, with what it was given to hold
abbrev pub given_kind : Sent → Kind
given_kind (Discovery identity) = discovery (identity.bytes ++ (supports ++ 0x00 ∷ []))
given_kind (DiscoveryReply to identity path) = discovery_reply (identity.bytes ++ (supports ++ path ∷ identity.block ∷ []))
given_kind (InvalidateMuid target) = invalidation (muid target.number)
given_kind (Enabled address id) = enabled id.bytes
given_kind (Disabled address id) = disabled id.bytes
given_kind (Added address id) = added id.bytes
given_kind (Removed address id) = removed id.bytes
given_kind (Nak to address sub status) = nak (sub ∷ status_code status ∷ 0x00 ∷ 0x00 ∷ 0x00 ∷ 0x00 ∷ 0x00 ∷ 0x00 ∷ 0x00 ∷ 0x00 ∷ [])

-- the bytes that a message is given alone have seven bits; all else is in range by its type
abbrev pub InRange : Sent → Type 0
InRange (Discovery identity) = Unit {0}
InRange (DiscoveryReply to identity path) = path < 0x80
InRange (InvalidateMuid target) = Unit {0}
InRange (Enabled address id) = Unit {0}
InRange (Disabled address id) = Unit {0}
InRange (Added address id) = Unit {0}
InRange (Removed address id) = Unit {0}
InRange (Nak to address sub status) = sub < 0x80

-- what is written reads back: the same fields, and the kind with what it was given to hold
pub record ReadsBack : Type 0 where
  pub messages : (own : ℕ) (s : Sent) → own < 0x10000000 → InRange s → reads (encode (meant own s)) ≡ taken_apart (meant own s) (given_kind s)
  pub profile_lists : (own to a : ℕ) (rows : List Row) → own < 0x10000000 → to < 0x10000000 → a < 0x80 → all_ranged rows ≡ true
      → length (encode (profile_list own to a rows)) ≤ 512
      → reads (encode (profile_list own to a rows)) ≡ taken_apart (profile_list own to a rows) (profile_reply (ids_of (part a true rows)) (ids_of (part a false rows)))

-- a message of that Sub-ID, with a version
abbrev pub Of : SubId → Fields → Type 0
Of sub m = (m.sub ≡ code sub) × (0 < m.version)

-- a part of n bytes in front; later bytes are ignored
abbrev pub InFront : ℕ → List ℕ → List ℕ → Type 0
InFront n xs body = (length xs ≡ n) × ((later : List ℕ) × (body ≡ xs ++ later))

-- a count of two bytes of seven bits, lowest first, and so many IDs of five bytes
abbrev pub Counts : ℕ → List ℕ → Type 0
Counts n ids = length ids ≡ 5 * n

-- the layout of each kind
abbrev pub LaidOut : Fields → Kind → Type 0
LaidOut m (discovery body) = Of SubId.Discovery m × (body ≡ m.body) × (cond (nat_le m.version 1) 16 17 ≤ length body)
LaidOut m (discovery_reply body) = Of SubId.ReplyToDiscovery m × (body ≡ m.body) × (cond (nat_le m.version 1) 16 18 ≤ length body)
LaidOut m (invalidation target) = Of SubId.InvalidateMuid m × InFront 4 target m.body
LaidOut m profile_inquiry = Of SubId.ProfileInquiry m
LaidOut m (profile_reply on off) =
    Of SubId.ReplyToProfileInquiry m × ((n k : ℕ) × Counts n on × Counts k off × ((later : List ℕ)
    × (m.body ≡ n % 0x80 ∷ n / 0x80 ∷ (on ++ (k % 0x80 ∷ k / 0x80 ∷ (off ++ later))))))
LaidOut m (set_on id) = Of SubId.SetProfileOn m × InFront 5 id m.body × (cond (nat_le m.version 1) 5 7 ≤ length m.body)
LaidOut m (set_off id) = Of SubId.SetProfileOff m × InFront 5 id m.body × (cond (nat_le m.version 1) 5 7 ≤ length m.body)
LaidOut m (enabled id) = Of SubId.ProfileEnabledReport m × InFront 5 id m.body
LaidOut m (disabled id) = Of SubId.ProfileDisabledReport m × InFront 5 id m.body
LaidOut m (added id) = Of SubId.ProfileAddedReport m × InFront 5 id m.body
LaidOut m (removed id) = Of SubId.ProfileRemovedReport m × InFront 5 id m.body
LaidOut m (nak body) = Of SubId.Nak m × (body ≡ m.body)
LaidOut m other = Unit {0}

-- framed bytes are the layout of the fields that they read as, and their body is the layout of their kind
abbrev pub ReadsAsLaidOut : Type 0
ReadsAsLaidOut = (bs : List ℕ) → framed bs ≡ true → (encode (fields bs) ≡ bs) × LaidOut (fields bs) (kind (fields bs))
