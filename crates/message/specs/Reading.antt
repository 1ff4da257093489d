-- What reading bytes gives.
use Rattle.std.specs.Prelude.{ℕ, cond, List, Ok, Err, Result}
use Rattle.message.specs.Messages.{Fields, framed, fields}
use Rattle.message.specs.Kinds.{Kind, discovery, discovery_reply, invalidation, profile_inquiry, profile_reply, set_on, set_off, enabled, disabled, added, removed, nak, other, kind}
use Rattle.message.specs.declared.refusal.Refusal.{Refusal}
use Rattle.message.specs.declared.message.Message.{Message}
use Rattle.message.specs.declared.message.Content.{Content}
use Rattle.message.specs.declared.message.Content.TheVariants.{Discovery, DiscoveryReply, InvalidateMuid, ProfileInquiry, ProfileReply, SetOn, SetOff, Enabled, Disabled, Added, Removed, Nak, Other}

-- a refusal, or a message's header and its kind with what it holds
pub data Reading : Type 0 where
  refused : Refusal → Reading
  message : (address sub version source destination : ℕ) → Kind → Reading

abbrev pub taken_apart : Fields → Kind → Reading
taken_apart m k = message m.address m.sub m.version m.source m.destination k

-- framed bytes are a message, all others are refused
abbrev pub reads : List ℕ → Reading
reads bs = cond (framed bs) (taken_apart (fields bs) (kind (fields bs))) (refused Refusal.NotFramed)

-- the kind that a content is, its parts as lists of bytes
abbrev pub kind_of : Content → Kind
kind_of (Discovery body) = discovery body.now
kind_of (DiscoveryReply body) = discovery_reply body.now
kind_of (InvalidateMuid target) = invalidation target.now
kind_of ProfileInquiry = profile_inquiry
kind_of (ProfileReply on off) = profile_reply on.now off.now
kind_of (SetOn id) = set_on id.now
kind_of (SetOff id) = set_off id.now
kind_of (Enabled id) = enabled id.now
kind_of (Disabled id) = disabled id.now
kind_of (Added id) = added id.now
kind_of (Removed id) = removed id.now
kind_of (Nak body) = nak body.now
kind_of Other = other

abbrev pub told : Result Message Refusal → Reading
told (Ok m) = message m.address m.sub_id m.version m.source m.destination (kind_of m.content)
told (Err e) = refused e
