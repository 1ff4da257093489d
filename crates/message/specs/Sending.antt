-- The messages that are sent: version 02h, from the own number.
use Rattle.std.specs.Prelude.{ℕ, ◌/◌, ◌%◌, Bool, true, false, cond, List, [], ◌∷◌, ◌++◌, length, nat_lt}
use Rattle.std.specs.List.{flat_map}
use Rattle.message.specs.Codes.{code, status_code}
use Rattle.message.specs.Messages.{Fields, muid}
use Rattle.message.specs.Rows.{part}
use Rattle.message.specs.declared.row.Row.{Row}
use Rattle.message.specs.declared.identity.Identity.{Identity}
use Rattle.message.specs.declared.sub_id.SubId.{SubId}
use Rattle.message.specs.declared.sub_id.NakStatus.{NakStatus}
use Rattle.message.specs.declared.sent.Sent.{Sent}
use Rattle.message.specs.declared.sent.Sent.TheVariants.{Discovery, DiscoveryReply, InvalidateMuid, Enabled, Disabled, Added, Removed, Nak}

-- the destination that means every device
abbrev pub everyone : ℕ
everyone = 268435455

abbrev pub sends : (own address : ℕ) → SubId → (to : ℕ) → List ℕ → Fields
sends own a sub to body = record { address = a; sub = code sub; version = 0x02; source = own; destination = to; body = body }

-- what is supported: 04h for profile configuration, and the largest message that is received, 512 bytes
abbrev pub supports : List ℕ
supports = 0x04 ∷ 0x00 ∷ 0x04 ∷ 0x00 ∷ 0x00 ∷ []

-- how many channels a report is about: one at a channel, else none
abbrev pub channels : ℕ → List ℕ
channels a = cond (nat_lt a 0x10) 0x01 0x00 ∷ 0x00 ∷ []

-- a device makes itself known
abbrev pub discover : Identity → (own : ℕ) → Fields
discover d own = sends own 0x7F SubId.Discovery everyone (d.bytes ++ (supports ++ 0x00 ∷ []))

-- and answers another that did, with that one's Output Path Id
abbrev pub discover_reply : Identity → (own to path : ℕ) → Fields
discover_reply d own to path = sends own 0x7F SubId.ReplyToDiscovery to (d.bytes ++ (supports ++ path ∷ d.block ∷ []))

-- a MUID is no longer valid
abbrev pub invalidate : (own target : ℕ) → Fields
invalidate own target = sends own 0x7F SubId.InvalidateMuid everyone (muid target)

-- the state of a row
abbrev pub report : (own address : ℕ) → (id : List ℕ) → (on : Bool) → Fields
report own a i on = sends own a (cond on SubId.ProfileEnabledReport SubId.ProfileDisabledReport) everyone (i ++ channels a)

-- a row is new, or gone
abbrev pub added_report : (own address : ℕ) → (id : List ℕ) → Fields
added_report own a i = sends own a SubId.ProfileAddedReport everyone i

abbrev pub removed_report : (own address : ℕ) → (id : List ℕ) → Fields
removed_report own a i = sends own a SubId.ProfileRemovedReport everyone i

-- an inquiry of that Sub-ID fails a check
abbrev pub nak_reply : (own to address sub : ℕ) → NakStatus → Fields
nak_reply own to a sub status =
    sends own a SubId.Nak to (sub ∷ status_code status ∷ 0x00 ∷ 0x00 ∷ 0x00 ∷ 0x00 ∷ 0x00 ∷ 0x00 ∷ 0x00 ∷ 0x00 ∷ [])

-- the fields of a message that is sent from the own number
abbrev pub meant : ℕ → Sent → Fields
meant own (Discovery identity) = discover identity own
meant own (DiscoveryReply to identity path) = discover_reply identity own to.number path
meant own (InvalidateMuid target) = invalidate own target.number
meant own (Enabled address id) = report own address.byte id.bytes true
meant own (Disabled address id) = report own address.byte id.bytes false
meant own (Added address id) = added_report own address.byte id.bytes
meant own (Removed address id) = removed_report own address.byte id.bytes
meant own (Nak to address sub status) = nak_reply own to.number address.byte sub status

-- the IDs of rows, one after the other
abbrev pub ids_of : List Row → List ℕ
ids_of rows = flat_map (λ r. r.id) rows

-- how many rows, in two bytes of seven bits, lowest first, and then their IDs
abbrev pub counted : List Row → List ℕ
counted rows = length rows % 0x80 ∷ length rows / 0x80 ∷ ids_of rows

-- the reply to a listing inquiry at an address: the rows there that are on, and those that are off
abbrev pub profile_list : (own to address : ℕ) → List Row → Fields
profile_list own to a rows =
    sends own a SubId.ReplyToProfileInquiry to (counted (part a true rows) ++ counted (part a false rows))
