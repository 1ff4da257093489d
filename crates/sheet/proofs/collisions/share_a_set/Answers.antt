use Rattle.std.proofs.Common.{◌≡◌, Some, nat_eq, sym, ◌∙◌, rules}
use Rattle.std.specs.Option.{option_eq}
use Rattle.layers.specs.Sets.{set_of, some_set, together}
use Rattle.layers.proofs.Options.{some_and, shared_none, shared_some}
use Rattle.sheet.proofs.collisions.share_a_set.Goals as goal

pub returns : goal.returns
returns c =
    let ms = c.args.members.now in
    some_and c.set_of.result c.is_some_and.result (together ms c.args.one c.args.other) _ c.is_some_and.ensures
    (λ e. shared_none _ _ (sym c.set_of.ensures ∙ e))
    (λ s e p.
    let same : c.is_some_and.result ≡ option_eq nat_eq (some_set (set_of ms c.args.other)) (Some s) = search rules in
    same ∙ shared_some (set_of ms c.args.one) (set_of ms c.args.other) s (sym c.set_of.ensures ∙ e))
