use Rattle.std.proofs.Common.{arith}
use Rattle.std.proofs.lemmas.Bool.Decides.{nat_tests}
use Rattle.message.specs.declared.sub_id.SubId.{SubId}
use Rattle.message.proofs.reading.content.Goals as goal

pub returns-in_default-clause-value : goal.returns-in_default-clause-value
returns-in_default-clause-value c =
    let none = c.in_default.ensures.1 in
    grind (
      arith,
      nat_tests,
      none SubId.ProfileInquiry,
      none SubId.ReplyToProfileInquiry,
      none SubId.SetProfileOn,
      none SubId.SetProfileOff,
      none SubId.ProfileEnabledReport,
      none SubId.ProfileDisabledReport,
      none SubId.ProfileAddedReport,
      none SubId.ProfileRemovedReport,
      none SubId.Discovery,
      none SubId.ReplyToDiscovery,
      none SubId.InvalidateMuid,
      none SubId.Nak,
    )
