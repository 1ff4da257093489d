-- What comes of a call, as a function of the device's identity, the own number, the listed devices and the host's rows.
use Rattle.std.specs.Prelude.{ℕ, zero, suc, Bool, false, cond, not, ◌&&◌, ◌||◌, List, [], ◌∷◌, ◌++◌, map, Some, None, Option, ◌==◌, nat_lt}
use Rattle.message.specs.Codes.{code}
use Rattle.message.specs.Kinds.{too_short}
use Rattle.message.specs.Messages.{Fields, framed, fields}
use Rattle.message.specs.Sending.{everyone, discover, discover_reply, invalidate, nak_reply, profile_list}
use Rattle.message.specs.declared.identity.Identity.{Identity}
use Rattle.message.specs.declared.refusal.Refusal.{Refusal}
use Rattle.message.specs.declared.row.Row.{Row}
use Rattle.message.specs.declared.sub_id.SubId.{SubId}
use Rattle.message.specs.declared.sub_id.NakStatus.{NakStatus}
use Rattle.numbers.specs.Device.{noted, forgotten, renewed}
use Rattle.responder.specs.Inquiries.{heard, usable, clash, for_us, asked_id, fault, path_of, nak_address, target}

-- A refusal, which changes nothing; messages to send, with the own number and the listed devices after them; or a question to the host to
-- switch a row, with the reports that follow from what it does.
pub data Plan : Type 0 where
  refuse : Refusal → Plan
  send : (messages : List Fields) (own : ℕ) (others : List ℕ) → Plan
  turn : (address : ℕ) (id : List ℕ) (on : Bool) → Plan

-- 0 to n - 1
abbrev pub upto : ℕ → List ℕ
upto zero = []
upto (suc n) = upto n ++ n ∷ []

-- whether some row stands at an address
abbrev pub has_row : List Row → ℕ → Bool
has_row [] a = false
has_row (r ∷ l) a = a == r.address || has_row l a

-- those of the addresses that have a row
abbrev pub having_row : List Row → List ℕ → List ℕ
having_row l [] = []
having_row l (a ∷ rest) = cond (has_row l a) (a ∷ having_row l rest) (having_row l rest)

-- Where a listing inquiry gets its replies: at a channel or the Group one there; at the Function Block one for each channel that has a row,
-- rising, then for the Group if it has one, and always one at the Function Block itself.
abbrev pub replied_at : List Row → ℕ → List ℕ
replied_at l a = cond (a == 0x7F) (having_row l (upto 16 ++ 0x7E ∷ []) ++ 0x7F ∷ []) (a ∷ [])

module _ (d : Identity) (own : ℕ) (others : List ℕ) (l : List Row) where
  -- an inquiry that passes every check
  abbrev pub answering : Fields → Plan
  answering q =
      cond (q.sub == code SubId.Discovery) (send (discover_reply d own q.source (path_of q) ∷ []) own (noted own q.source others))
      (cond (q.sub == code SubId.ProfileInquiry) (send (map (λ a. profile_list own q.source a l) (replied_at l q.address)) own others)
      (turn q.address (asked_id q) (q.sub == code SubId.SetProfileOn)))

  -- one that fails a check: a NAK, but for a Discovery to every device
  abbrev pub denying : NakStatus → Fields → Plan
  denying status q =
      cond (q.sub == code SubId.Discovery && q.destination == everyone) (refuse Refusal.NotUnderstood)
      (send (nak_reply own q.source (nak_address q) q.sub status ∷ []) own others)

  abbrev pub inquiring : Option NakStatus → Fields → Plan
  inquiring None q = answering q
  inquiring (Some status) q = denying status q

  -- a message that is heard: a reply to a Discovery lists its source, an invalidated MUID is no longer listed, and if it is the own number
  -- a new one is chosen and made known; nothing else follows
  abbrev pub hearing : Fields → ℕ → Plan
  hearing q draw =
      cond (q.version == 0 || too_short q) (refuse Refusal.NotUnderstood)
      (cond (q.sub == code SubId.ReplyToDiscovery) (send [] own (noted own q.source others))
      (cond (q.sub == code SubId.InvalidateMuid)
      (cond (target q == own) (send (discover d (renewed own others draw) ∷ []) (renewed own others draw) others)
      (send [] own (forgotten (target q) others)))
      (send [] own others)))

  -- a framed message, in the order of the checks
  abbrev pub opened : Fields → ℕ → Plan
  opened q draw =
      cond (not (usable q.source)) (refuse Refusal.SourceNotUsable)
      (cond (clash own q) (send (invalidate own own ∷ discover d (renewed own others draw) ∷ []) (renewed own others draw) others)
      (cond (q.source == own) (refuse Refusal.SourceNotUsable)
      (cond (not (for_us own q)) (refuse Refusal.NotForUs)
      (cond (heard q.sub) (hearing q draw) (inquiring (fault l q) q)))))

  -- announce and take, with the length of the answer buffer
  abbrev pub announcing : ℕ → Plan
  announcing room = cond (nat_lt room 1024) (refuse Refusal.BufferTooSmall) (send (discover d own ∷ []) own others)

  abbrev pub taking : (room : ℕ) (message : List ℕ) (draw : ℕ) → Plan
  taking room m draw =
      cond (nat_lt room 1024) (refuse Refusal.BufferTooSmall) (cond (framed m) (opened (fields m) draw) (refuse Refusal.NotFramed))
