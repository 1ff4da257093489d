use Rattle.std.proofs.Common.{[], length, refl, ap, ◌∙◌, arith}
use Rattle.message.specs.Messages.{encode}
use Rattle.message.specs.Sending.{profile_list}
use Rattle.message.proofs.Places.{left-none, left_more}
use Rattle.responder.proofs.Replies.{places, replies_from, at_channel, at_group, left_room, every_list, last_reply}
use Rattle.responder.proofs.replying.Replies.put_every.Goals as goal

pub loop-channel-init : goal.loop-channel-init
loop-channel-init c =
    let me = c.args.self in
    record {
      left =
          left-none c.args.pen.now.out.now c.args.pen.now.at (replies_from me.own.number me.to.number me.listing.rows.now places)
          (let h = c.requires in omega (arith, ap length (every_list me.own.number me.to.number me.listing.rows.now)));
      same = refl;
    }

pub put_if_any-requires : goal.put_if_any-requires
put_if_any-requires c =
    let me = c.args.self in
    left_room _ _ (at_channel me.own.number me.to.number me.listing.rows.now c.loop-channel.channel (omega arith) c.loop-channel.invariant.left)

pub loop-channel-preserved : goal.loop-channel-preserved
loop-channel-preserved c =
    let me = c.args.self in
    record {
      left =
          left_more _ _ (at_channel me.own.number me.to.number me.listing.rows.now c.loop-channel.channel (omega arith) c.loop-channel.invariant.left)
          c.put_if_any.ensures.put;
      same = c.put_if_any.ensures.same ∙ c.loop-channel.invariant.same;
    }

pub put_if_any-requires-2 : goal.put_if_any-requires-2
put_if_any-requires-2 c =
    let me = c.args.self in
    left_room _ _ (at_group me.own.number me.to.number me.listing.rows.now c.loop-channel.channel (omega arith) c.loop-channel.invariant.left)

pub put-requires : goal.put-requires
put-requires c =
    let own = c.args.self.own.number in
    let to = c.args.self.to.number in
    let l = c.args.self.listing.rows.now in
    let p = at_group own to l c.loop-channel.channel (omega arith) c.loop-channel.invariant.left in
    left_room (encode (profile_list own to 0x7F l)) [] (left_more _ _ p c.put_if_any-2.ensures.put)

pub returns : goal.returns
returns c =
    let own = c.args.self.own.number in
    let to = c.args.self.to.number in
    let l = c.args.self.listing.rows.now in
    let p = at_group own to l c.loop-channel.channel (omega arith) c.loop-channel.invariant.left in
    let h = c.requires in
    record {
      put =
          last_reply own to l c.args.pen.now.out.now c.put_if_any-2.new.pen.out.now c.put.new.pen.out.now c.args.pen.now.at c.put_if_any-2.new.pen.at c.put.new.pen.at
          (left_more _ _ p c.put_if_any-2.ensures.put) (omega (arith, ap length (every_list own to l))) c.put.ensures.put;
      same = c.put.ensures.same ∙ (c.put_if_any-2.ensures.same ∙ c.loop-channel.invariant.same);
    }
