use Rattle.std.proofs.Common.{true, false, arith, rules}
use Rattle.std.proofs.lemmas.List.{length-append}
use Rattle.message.specs.Rows.{part}
use Rattle.message.specs.Sending.{counted, profile_list}
use Rattle.message.specs.declared.sub_id.SubId.{SubId}
use Rattle.message.proofs.Encoding.{length-encode, whole_parts}
use Rattle.message.proofs.Places.{and_then, as_bytes}
use Rattle.message.proofs.listing.put_profile_reply.Goals as goal

pub returns : goal.returns
returns c =
    let rows = c.args.rows.now in
    let a = c.args.address.byte in
    let m = profile_list c.args.own.number c.args.to.number a rows in (
      omega (arith, length-encode m, length-append (counted (part a true rows)) (counted (part a false rows)), c.count-on_count.ensures.ids, c.count-off_count.ensures.ids),
      record {
        put =
            as_bytes (whole_parts SubId.ReplyToProfileInquiry a c.args.own.number c.args.to.number (counted (part a true rows)) (counted (part a false rows)))
            (and_then c.put.ensures.put (and_then c.put-2.ensures.put (and_then c.put-3.ensures.put c.put-4.ensures.put)));
        same = search rules;
      },
    )
