-- Which messages are heard, which are for us, and what an inquiry asks.
use Rattle.std.specs.Prelude.{ℕ, Bool, cond, not, ◌&&◌, ◌||◌, List, [], ◌∷◌, take, Some, None, Option, ◌==◌, nat_le, nat_lt, slice_index}
use Rattle.message.specs.Bytes.{is_address}
use Rattle.message.specs.Codes.{code}
use Rattle.message.specs.Kinds.{too_short}
use Rattle.message.specs.Messages.{Fields, number_at}
use Rattle.message.specs.Sending.{everyone}
use Rattle.message.specs.declared.row.Row.{Row}
use Rattle.message.specs.declared.sub_id.SubId.{SubId}
use Rattle.message.specs.declared.sub_id.NakStatus.{NakStatus}
use Rattle.numbers.specs.Device.{has}
use Rattle.host.specs.Rows.{has as listed}

-- Sub-IDs that are heard and never answered; every other is an inquiry
abbrev pub heard : ℕ → Bool
heard sub =
    has sub
    (0x21 ∷ 0x24 ∷ 0x25 ∷ 0x26 ∷ 0x27 ∷ 0x29 ∷ 0x2F ∷ 0x31 ∷ 0x35 ∷ 0x37 ∷ 0x39 ∷ 0x3F ∷ 0x41 ∷ 0x43 ∷ 0x44 ∷ 0x71 ∷ 0x73 ∷ 0x7D ∷ 0x7E ∷ 0x7F ∷ [])

-- a device may have this number
abbrev pub usable : ℕ → Bool
usable n = nat_lt n 268435200

-- a Discovery, or a reply to one, from the own number: another device has it too
abbrev pub clash : ℕ → Fields → Bool
clash own q = (q.sub == code SubId.Discovery || q.sub == code SubId.ReplyToDiscovery) && q.source == own

-- Sub-IDs that may be sent to every device
abbrev pub broadcasts : List ℕ
broadcasts =
    code SubId.ProfileEnabledReport ∷ code SubId.ProfileDisabledReport ∷ code SubId.ProfileAddedReport ∷ code SubId.ProfileRemovedReport
    ∷ code SubId.Discovery ∷ code SubId.InvalidateMuid ∷ []

abbrev pub for_us_by : (own destination sub : ℕ) → Bool
for_us_by own destination sub = destination == own || (destination == everyone && has sub broadcasts)

abbrev pub for_us : ℕ → Fields → Bool
for_us own q = for_us_by own q.destination q.sub

-- an inquiry to switch a row
abbrev pub switching : Fields → Bool
switching q = q.sub == code SubId.SetProfileOn || q.sub == code SubId.SetProfileOff

-- the Profile ID that it names
abbrev pub asked_id : Fields → List ℕ
asked_id q = take 5 q.body

-- the inquiries that are answered
abbrev pub supported : List ℕ
supported = code SubId.ProfileInquiry ∷ code SubId.SetProfileOn ∷ code SubId.SetProfileOff ∷ code SubId.Discovery ∷ []

-- an address outside the ranges, another than the Function Block's at a Discovery, or a message below its least length
abbrev pub malformed : Fields → Bool
malformed q = not (is_address q.address) || ((q.sub == code SubId.Discovery && not (q.address == 0x7F)) || too_short q)

-- the first check that an inquiry fails, if it fails one
abbrev pub fault : List Row → Fields → Option NakStatus
fault l q =
    cond (q.version == 0) (Some NakStatus.WrongVersion)
    (cond (not (has q.sub supported)) (Some NakStatus.NotSupported)
    (cond (malformed q) (Some NakStatus.Malformed)
    (cond (switching q && not (listed l q.address (asked_id q))) (Some NakStatus.NoSuchProfile) None)))

-- the asker's Output Path Id, which a Discovery of version 1 does not tell
abbrev pub path_of : Fields → ℕ
path_of q = cond (nat_le q.version 1) 0x00 (slice_index q.body 16)

-- a NAK is sent at the inquiry's address, or at the Function Block's where that is none
abbrev pub nak_address : Fields → ℕ
nak_address q = cond (is_address q.address) q.address 0x7F

-- the MUID that an Invalidate MUID names
abbrev pub target : Fields → ℕ
target q = number_at 0 q.body
