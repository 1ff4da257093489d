-- How large the parts of a message are: what callers may index and send on.
use Rattle.std.specs.Prelude.{◌≡◌, ℕ, ◌<◌, ◌≤◌, length}
use Rattle.message.specs.Kinds.{Kind, discovery, discovery_reply, invalidation, profile_inquiry, profile_reply, set_on, set_off, enabled, disabled, added, removed, nak, other}
use Rattle.message.specs.Reading.{Reading, refused, message}

abbrev pub Shaped : Kind → Type 0
Shaped (discovery body) = 16 ≤ length body
Shaped (discovery_reply body) = 16 ≤ length body
Shaped (invalidation target) = length target ≡ 4
Shaped profile_inquiry = Unit {0}
Shaped (profile_reply on off) = Unit {0}
Shaped (set_on id) = length id ≡ 5
Shaped (set_off id) = length id ≡ 5
Shaped (enabled id) = length id ≡ 5
Shaped (disabled id) = length id ≡ 5
Shaped (added id) = length id ≡ 5
Shaped (removed id) = length id ≡ 5
Shaped (nak body) = Unit {0}
Shaped other = Unit {0}

pub record ShapedMessage (address sub version source destination : ℕ) (k : Kind) : Type 0 where
  pub address_low : address < 0x80
  pub sub_low : sub < 0x80
  pub version_low : version < 0x80
  pub source_fits : source < 0x10000000
  pub destination_fits : destination < 0x10000000
  pub parts : Shaped k

abbrev pub ShapedReading : Reading → Type 0
ShapedReading (refused e) = Unit {0}
ShapedReading (message address sub version source destination k) = ShapedMessage address sub version source destination k
