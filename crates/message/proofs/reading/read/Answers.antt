use Rattle.std.proofs.Common.{◌≡◌, true, false, sym, arith}
use Rattle.std.proofs.lemmas.Bool.{cond-false}
use Rattle.std.proofs.lemmas.Bool.Decides.{nat_tests}
use Rattle.message.specs.Messages.{framed}
use Rattle.message.proofs.Framing.{well_framed, number_fits, header-low}
use Rattle.message.proofs.reading.read.Goals as goal

pub returns-in_default-clause-value : goal.returns-in_default-clause-value
returns-in_default-clause-value c =
    let e : framed c.args.message.now ≡ false =
    elim c.in_default.branch [
      | goal.in_default-via-then-message-lt15 w ↦ grind (arith, nat_tests)
      | goal.in_default-via-else-message-lt15+in-240+in-126+in-13+in_default-1 w ↦ grind (arith, nat_tests)
      | goal.in_default-via-else-message-lt15+in-240+in-126+in_default-1 w ↦ grind (arith, nat_tests)
      | goal.in_default-via-else-message-lt15+in-240+in_default-1 w ↦ grind (arith, nat_tests)
      | goal.in_default-via-else-message-lt15+in_default-1 w ↦ grind (arith, nat_tests)
    ] in
    sym (cond-false (framed c.args.message.now) _ _ e)

pub returns : goal.returns
returns c =
    let f : framed c.args.message.now ≡ true = grind (arith, nat_tests) in
    let bs = c.args.message.now in
    record {
      value = well_framed bs f _ _ _ c.muid_number.ensures c.muid_number-2.ensures c.content.ensures.value;
      shape = record {
        address_low = header-low bs 2 f (omega arith) (omega arith);
        sub_low = header-low bs 4 f (omega arith) (omega arith);
        version_low = header-low bs 5 f (omega arith) (omega arith);
        source_fits = number_fits bs 6 _ f (omega arith) (omega arith) c.muid_number.ensures;
        destination_fits = number_fits bs 10 _ f (omega arith) (omega arith) c.muid_number-2.ensures;
        parts = c.content.ensures.shape;
      };
    }
