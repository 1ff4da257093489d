use Rattle.std.proofs.Common.{◌≡◌, [], List, get_or, sym, ap, ◌∙◌, arith, rules}
use Rattle.std.proofs.lemmas.Option.{MatchOption-at_none, MatchOption-at_some}
use Rattle.layers.specs.declared.member.Member.{Member}
use Rattle.layers.specs.Sets.{set_of, some_set}
use Rattle.layers.proofs.Options.{mapped}
use Rattle.layers.proofs.Places.{set_in, set_found, set_positive, some_positive}
use Rattle.layers.proofs.members.Entries+Member.set_of.Goals as goal

abbrev none : Member
none = record { id = []; set = 0 }

pub returns : goal.returns
returns c =
    let s = c.as_slice-list.ensures in
    let l : List Member = c.as_slice-list.result.now in
    let i = c.args.id in
    mapped c.find.result c.map.result (some_set (set_of l i)) _ c.map.ensures.cases
    (λ e. ap some_set (set_found l i 0 ∙ ap set_in (MatchOption-at_none _ _ e c.find.ensures.content s.up)))
    (λ k y e p.
    let at : y ≡ (get_or l k none).set = search rules in
    let positive = set_positive l k none s.fit (MatchOption-at_some _ _ k e c.find.ensures.place).0 in
    ap some_set (set_found l i 0 ∙ ap set_in (MatchOption-at_some _ _ k e c.find.ensures.content s.up none) ∙ sym at)
    ∙ some_positive y (omega (arith, at, positive)))
    ∙ ap (λ (m : List Member). some_set (set_of m i)) s.value
