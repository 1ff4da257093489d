use Rattle.std.proofs.Common.{◌++◌, arith, rules}
use Rattle.std.proofs.lemmas.List.{length-append}
use Rattle.message.specs.Sending.{sends}
use Rattle.message.proofs.Encoding.{length-encode, whole_parts}
use Rattle.message.proofs.Places.{and_then, as_bytes}
use Rattle.message.proofs.head.Head.write.Goals as goal

pub returns : goal.returns
returns c =
    let first = c.args.first.now in
    let second = c.args.second.now in
    let m = sends c.args.self.source.number c.args.self.address.byte c.args.self.sub_id c.args.self.destination.number (first ++ second) in (
      omega (arith, length-encode m, length-append first second),
      record {
        put =
            as_bytes (whole_parts c.args.self.sub_id c.args.self.address.byte c.args.self.source.number c.args.self.destination.number first second)
            (and_then c.put.ensures.put (and_then c.put-2.ensures.put (and_then c.put-3.ensures.put c.put-4.ensures.put)));
        same = search rules;
      },
    )
