use Rattle.std.proofs.Common.{false, ap, ◌∙◌, arith, rules}
use Rattle.rising.specs.Lists.{without}
use Rattle.message.specs.Rows.{row_key}
use Rattle.message.specs.declared.row.Row.{Row}
use Rattle.host.specs.Tables.{listed}
use Rattle.host.proofs.Keys.{without-same}
use Rattle.host.proofs.rows.Rows.remove.Goals as goal

pub returns : goal.returns
returns c =
    let t = c.args.self.now in
    record {
      rows =
          c.remove-self.ensures.value (omega (arith, c.requires.within, c.requires.whole)) c.requires.order
          ∙ ap (λ (x : Row). without row_key x (listed t)) c.new.ensures
          ∙ without-same (listed t) c.args.pair.address c.args.pair.id false;
      within = search rules;
      whole = search rules;
    }
