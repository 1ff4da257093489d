-- The plan that an action stands for.
use Rattle.std.specs.Prelude.{◌≡◌, ℕ, cond, ◌||◌, List, [], ◌∷◌, map, Ok, Err, Result, ◌==◌, nat_lt}
use Rattle.message.specs.Codes.{code}
use Rattle.message.specs.Kinds.{least, kind}
use Rattle.message.specs.Messages.{Fields}
use Rattle.message.specs.Reading.{kind_of}
use Rattle.message.specs.Shapes.{Shaped}
use Rattle.message.specs.Sending.{discover, discover_reply, invalidate, meant, profile_list}
use Rattle.message.specs.declared.message.Message.{Message}
use Rattle.message.specs.declared.identity.Identity.{Identity}
use Rattle.message.specs.declared.refusal.Refusal.{Refusal}
use Rattle.message.specs.declared.row.Row.{Row}
use Rattle.message.specs.declared.sub_id.SubId.{SubId}
use Rattle.numbers.specs.Device.{noted, forgotten, renewed}
use Rattle.responder.specs.Inquiries.{heard}
use Rattle.responder.specs.Plans.{Plan, refuse, send, turn, replied_at}
use Rattle.responder.specs.declared.action.Action.{Action}
use Rattle.responder.specs.declared.action.Action.TheVariants.{GiveUpNumber, ChooseNumber, Note, Forget, Nothing, Send, Discovered, List as Lists, Switch}
use Rattle.responder.specs.declared.action.Sorted.{Sorted}

-- a heard message of version 0 or below its least length is not understood
abbrev pub sorted : (sub version length : ℕ) → Result Sorted Refusal
sorted sub version n =
    cond (heard sub)
    (cond (version == 0 || nat_lt n (least sub version)) (Err Refusal.NotUnderstood)
    (cond (sub == code SubId.ReplyToDiscovery) (Ok Sorted.Reply)
    (cond (sub == code SubId.InvalidateMuid) (Ok Sorted.Invalidation) (Ok Sorted.Heard))))
    (Ok Sorted.Inquiry)

module _ (d : Identity) (own : ℕ) (others : List ℕ) (l : List Row) (draw : ℕ) where
  abbrev pub action_plan : Action → Plan
  action_plan GiveUpNumber = send (invalidate own own ∷ discover d (renewed own others draw) ∷ []) (renewed own others draw) others
  action_plan ChooseNumber = send (discover d (renewed own others draw) ∷ []) (renewed own others draw) others
  action_plan (Note from) = send [] own (noted own from.number others)
  action_plan (Forget number) = send [] own (forgotten number others)
  action_plan Nothing = send [] own others
  action_plan (Send sent) = send (meant own sent ∷ []) own others
  action_plan (Discovered to path) = send (discover_reply d own to.number path ∷ []) own (noted own to.number others)
  action_plan (Lists to address) = send (map (λ a. profile_list own to.number a l) (replied_at l address.byte)) own others
  action_plan (Switch named on) = turn named.address.byte named.id.bytes on

  abbrev pub decided : Result Action Refusal → Plan
  decided (Ok action) = action_plan action
  decided (Err e) = refuse e

-- the header of a message, without its body
abbrev pub header_of : Message → (source : ℕ) → Fields
header_of m source =
    record { address = m.address; sub = m.sub_id; version = m.version; source = source; destination = m.destination; body = [] }

-- a message that was read shows the fields of its bytes
pub record Shows (m : Message) (q : Fields) : Type 0 where
  pub address : m.address ≡ q.address
  pub sub : m.sub_id ≡ q.sub
  pub version : m.version ≡ q.version
  pub source : m.source ≡ q.source
  pub destination : m.destination ≡ q.destination
  pub holds : kind_of m.content ≡ kind q
  pub shaped : Shaped (kind_of m.content)
