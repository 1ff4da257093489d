-- The numbers of the Sub-IDs and of the statuses of a NAK.
use Rattle.std.specs.Prelude.{◌≡◌, ℕ, ◌≢◌, Result, MatchResult}
use Rattle.message.specs.declared.sub_id.SubId.{SubId}
use Rattle.message.specs.declared.sub_id.SubId.TheVariants.{ProfileInquiry, ReplyToProfileInquiry, SetProfileOn, SetProfileOff, ProfileEnabledReport, ProfileDisabledReport, ProfileAddedReport, ProfileRemovedReport, Discovery, ReplyToDiscovery, InvalidateMuid, Nak}
use Rattle.message.specs.declared.sub_id.UnknownSubId.{UnknownSubId}
use Rattle.message.specs.declared.sub_id.NakStatus.{NakStatus}
use Rattle.message.specs.declared.sub_id.NakStatus.TheVariants.{NotSupported, WrongVersion, NoSuchProfile, Malformed}

abbrev pub code : SubId → ℕ
code ProfileInquiry = 0x20
code ReplyToProfileInquiry = 0x21
code SetProfileOn = 0x22
code SetProfileOff = 0x23
code ProfileEnabledReport = 0x24
code ProfileDisabledReport = 0x25
code ProfileAddedReport = 0x26
code ProfileRemovedReport = 0x27
code Discovery = 0x70
code ReplyToDiscovery = 0x71
code InvalidateMuid = 0x7E
code Nak = 0x7F

-- the Sub-ID that the byte stands for, or an error with a byte that stands for none
abbrev pub Decodes : ℕ → Result SubId UnknownSubId → Type 0
Decodes byte r = MatchResult r (λ s. code s ≡ byte) (λ e. (e.0 ≡ byte) × ((s : SubId) → code s ≢ byte))

abbrev pub status_code : NakStatus → ℕ
status_code NotSupported = 0x01
status_code WrongVersion = 0x02
status_code NoSuchProfile = 0x04
status_code Malformed = 0x41
