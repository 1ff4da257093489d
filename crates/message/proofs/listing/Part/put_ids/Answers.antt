use Rattle.std.proofs.Common.{sym, refl, ap, arith, rules}
use Rattle.std.proofs.lemmas.List.{at_drop_all}
use Rattle.message.specs.Rows.{part}
use Rattle.message.specs.Sending.{ids_of}
use Rattle.message.proofs.Parts.{part_taken, part_passed}
use Rattle.message.proofs.Places.{left_more, left-all, left_as}
use Rattle.message.proofs.listing.Part.put_ids.Goals as goal
use Rattle.message.proofs.listing.Part.put_ids.Goals.{then-stands_at, else-stands_at}

pub loop-k-preserved : goal.loop-k-preserved
loop-k-preserved c =
    elim c.if-stands_at.branch [
      | then-stands_at w ↦
          let e = ap ids_of (part_taken c.args.self.address c.args.self.on c.args.self.rows.now c.loop-k.k (omega arith) (sym w.if-stands_at.ensures.value)) in
          rw w.pen-is (record {
            bytes = left_more _ _ (left_as refl refl e c.loop-k.invariant.bytes) w.put.ensures.put;
            same_buffer = cc;
          })
      | else-stands_at w ↦
          let e = ap ids_of (part_passed c.args.self.address c.args.self.on c.args.self.rows.now c.loop-k.k (omega arith) (sym w.if-stands_at.ensures.value)) in
          rw w.pen-is (record {
            bytes = left_as refl refl e c.loop-k.invariant.bytes;
            same_buffer = c.loop-k.invariant.same_buffer;
          })
    ]

pub returns : goal.returns
returns c =
    let e = ap ids_of (at_drop_all (part c.args.self.address c.args.self.on) c.args.self.rows.now c.loop-k.k (omega arith)) in
    record { put = left-all c.requires (left_as refl refl e c.loop-k.invariant.bytes); same = search rules }
