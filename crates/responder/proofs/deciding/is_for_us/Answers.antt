use Rattle.std.proofs.Common.{arith}
use Rattle.std.proofs.lemmas.Bool.Decides.{nat_tests}
use Rattle.message.specs.declared.sub_id.SubId.{SubId}
use Rattle.responder.proofs.Codes.{unknown}
use Rattle.responder.proofs.deciding.is_for_us.Goals as goal

pub returns-in_default-2-2 : goal.returns-in_default-2-2
returns-in_default-2-2 c =
    let none = unknown c.args.sub c.try_from.result c.in_default-2.field-0 c.try_from.ensures c.in_default-2.is in
    grind (arith, nat_tests, none SubId.ProfileEnabledReport, none SubId.ProfileDisabledReport, none SubId.ProfileAddedReport, none SubId.ProfileRemovedReport, none SubId.Discovery, none SubId.InvalidateMuid)
