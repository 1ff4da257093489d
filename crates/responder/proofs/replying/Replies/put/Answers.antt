use Rattle.message.specs.Messages.{encode}
use Rattle.message.specs.Sending.{profile_list}
use Rattle.responder.proofs.Replies.{reply_short}
use Rattle.responder.proofs.Sendings.{put_fits}
use Rattle.responder.proofs.replying.Replies.put.Goals as goal

pub unwrap-requires : goal.unwrap-requires
unwrap-requires c =
    let me = c.args.self in
    (put_fits (encode (profile_list me.own.number me.to.number c.args.address.byte me.listing.rows.now)) _ _ c.put_profile_reply.result
    (reply_short me.own.number me.to.number c.args.address.byte me.listing.rows.now me.listing.sound) c.requires c.put_profile_reply.ensures).0

pub returns : goal.returns
returns c =
    let me = c.args.self in
    (put_fits (encode (profile_list me.own.number me.to.number c.args.address.byte me.listing.rows.now)) _ _ c.put_profile_reply.result
    (reply_short me.own.number me.to.number c.args.address.byte me.listing.rows.now me.listing.sound) c.requires c.put_profile_reply.ensures).1
