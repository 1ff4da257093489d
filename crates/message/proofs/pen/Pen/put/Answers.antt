use Rattle.std.proofs.Common.{refl, arith, rules}
use Rattle.message.proofs.Places.{written-part, put_by}
use Rattle.message.proofs.pen.Pen.put.Goals as goal

pub returns : goal.returns
returns c = record { put = put_by c.requires refl (written-part _ _ _ _ _ (rw c.copy_from_slice.ensures.after refl) (omega arith)); same = search rules }
