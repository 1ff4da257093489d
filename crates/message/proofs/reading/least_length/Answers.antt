use Rattle.std.proofs.Common.{◌≡◌, ℕ, Ok, Err, Result, MatchResult, ap, ◌∙◌, arith, rules}
use Rattle.std.proofs.lemmas.Bool.Decides.{nat_tests}
use Rattle.message.specs.Codes.{code, Decodes}
use Rattle.message.specs.Kinds.{least}
use Rattle.message.specs.declared.sub_id.SubId.{SubId}
use Rattle.message.specs.declared.sub_id.UnknownSubId.{UnknownSubId}
use Rattle.message.proofs.reading.least_length.Goals as goal

least_known : {P : SubId → Type 0} (sub version n : ℕ) (r : Result SubId UnknownSubId) → Decodes sub r → MatchResult r P (λ e. n ≡ 15)
    → ((s : SubId) → P s → n ≡ least (code s) version) → n ≡ least sub version
least_known sub version n (Ok s) d p f = f s p ∙ ap (λ (k : ℕ). least k version) d
least_known sub version n (Err e) d p f =
    let none = d.1 in
    grind (arith, nat_tests, none SubId.SetProfileOn, none SubId.SetProfileOff, none SubId.Discovery, none SubId.ReplyToDiscovery, none SubId.InvalidateMuid)

pub returns-clause-value : goal.returns-clause-value
returns-clause-value c = least_known c.args.sub c.args.version _ c.try_from.result c.try_from.ensures c.map_or.ensures (λ s h. search rules)
