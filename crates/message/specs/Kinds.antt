-- What a message holds, by its Sub-ID.
use Rattle.std.specs.Prelude.{ℕ, ◌+◌, ◌*◌, Bool, cond, ◌||◌, List, length, take, drop, ◌==◌, nat_le, nat_lt, slice_index}
use Rattle.message.specs.Codes.{code}
use Rattle.message.specs.Messages.{Fields}
use Rattle.message.specs.declared.sub_id.SubId.{SubId}

-- the kinds, each with the part of the body that it holds
pub data Kind : Type 0 where
  discovery : (body : List ℕ) → Kind
  discovery_reply : (body : List ℕ) → Kind
  invalidation : (target : List ℕ) → Kind
  profile_inquiry : Kind
  profile_reply : (on off : List ℕ) → Kind
  set_on : (id : List ℕ) → Kind
  set_off : (id : List ℕ) → Kind
  enabled : (id : List ℕ) → Kind
  disabled : (id : List ℕ) → Kind
  added : (id : List ℕ) → Kind
  removed : (id : List ℕ) → Kind
  nak : (body : List ℕ) → Kind
  other : Kind

-- the least length of a message, at version 1 and from version 2 on
abbrev pub least : ℕ → ℕ → ℕ
least sub version =
    cond (sub == code SubId.SetProfileOn || sub == code SubId.SetProfileOff) (cond (nat_le version 1) 20 22)
    (cond (sub == code SubId.Discovery) (cond (nat_le version 1) 31 32)
    (cond (sub == code SubId.ReplyToDiscovery) (cond (nat_le version 1) 31 33)
    (cond (sub == code SubId.InvalidateMuid) 19 15)))

-- a message has 15 bytes beside its body
abbrev pub short : (sub version : ℕ) → List ℕ → Bool
short sub version body = nat_lt (15 + length body) (least sub version)

abbrev pub too_short : Fields → Bool
too_short m = short m.sub m.version m.body

-- a count is two bytes of seven bits, lowest first
abbrev pub count_at : ℕ → List ℕ → ℕ
count_at k bs = slice_index bs k + slice_index bs (k + 1) * 0x80

-- the count of IDs on, these IDs, the count of IDs off, these IDs: five bytes each
abbrev pub counted_lists : (on off : ℕ) → List ℕ → Kind
counted_lists on off body =
    cond (nat_le (4 + 5 * on + 5 * off) (length body))
    (profile_reply (take (5 * on) (drop 2 body)) (take (5 * off) (drop (4 + 5 * on) body))) other

abbrev pub two_lists : List ℕ → Kind
two_lists body = counted_lists (count_at 0 body) (count_at (2 + 5 * count_at 0 body) body) body

-- a report of one profile begins with its ID
abbrev pub with_id : (List ℕ → Kind) → List ℕ → Kind
with_id k body = cond (nat_le 5 (length body)) (k (take 5 body)) other

abbrev pub kind_by : ℕ → List ℕ → Kind
kind_by sub body =
    cond (sub == code SubId.ProfileInquiry) profile_inquiry
    (cond (sub == code SubId.ReplyToProfileInquiry) (two_lists body)
    (cond (sub == code SubId.SetProfileOn) (set_on (take 5 body))
    (cond (sub == code SubId.SetProfileOff) (set_off (take 5 body))
    (cond (sub == code SubId.ProfileEnabledReport) (with_id enabled body)
    (cond (sub == code SubId.ProfileDisabledReport) (with_id disabled body)
    (cond (sub == code SubId.ProfileAddedReport) (with_id added body)
    (cond (sub == code SubId.ProfileRemovedReport) (with_id removed body)
    (cond (sub == code SubId.Discovery) (discovery body)
    (cond (sub == code SubId.ReplyToDiscovery) (discovery_reply body)
    (cond (sub == code SubId.InvalidateMuid) (invalidation (take 4 body))
    (cond (sub == code SubId.Nak) (nak body) other)))))))))))

-- a message of version 0, or one too short for what it is to hold, is of no kind
abbrev pub kind_at : (sub version : ℕ) → List ℕ → Kind
kind_at sub version body = cond (version == 0 || short sub version body) other (kind_by sub body)

abbrev pub kind : Fields → Kind
kind m = kind_at m.sub m.version m.body
