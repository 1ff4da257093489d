use Rattle.std.proofs.Common.{◌≡◌, sym, ap, ◌∙◌, rules, tests}
use Rattle.std.specs.Str.{bytes_eq}
use Rattle.std.proofs.lemmas.Iterator.{YieldsList-from_slice}
use Rattle.std.proofs.lemmas.Iterator.Search.{find_from_yields_List}
use Rattle.layers.specs.declared.member.Member.{Member}
use Rattle.layers.specs.Sets.{set_of, some_set}
use Rattle.sheet.proofs.Plain.{set_in, set_found, set_told}
use Rattle.sheet.proofs.collisions.set_of.Goals as goal

pub returns-in_err-member : goal.returns-in_err-member
returns-in_err-member c =
    let e = find_from_yields_List (λ (m : Member). bytes_eq c.args.id m.id) _ _ c.find.result c.find.ensures.ran (YieldsList-from_slice c.args.members.now cc) (λ x b q k. search (rules, tests)) in
    let w = c.in_err-member.was in
    let z : set_of c.args.members.now c.args.id ≡ 0 = set_found c.args.members.now c.args.id ∙ ap set_in (sym e) ∙ rw w in
    rw (c.from_residual.ensures) (sym (ap some_set z))

pub returns : goal.returns
returns c =
    let e = find_from_yields_List (λ (m : Member). bytes_eq c.args.id m.id) _ _ c.find.result c.find.ensures.ran (YieldsList-from_slice c.args.members.now cc) (λ x b q k. search (rules, tests)) in
    let w = c.in_ok-member.was in
    let z : set_of c.args.members.now c.args.id ≡ c.in_ok-member.member.now.set = set_found c.args.members.now c.args.id ∙ ap set_in (sym e) ∙ rw w in
    rw (c.then_some.ensures) (set_told _ _ z)
