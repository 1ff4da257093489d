use Rattle.std.proofs.Common.{sym, subst}
use Rattle.std.proofs.lemmas.Result.{err_from_is_err_and}
use Rattle.host.specs.Rows.{Sound}
use Rattle.host.specs.Tables.{listed}
use Rattle.host.proofs.Makings.{exact}
use Rattle.host.proofs.table.Table.from_rows.Goals as goal

pub returns-in_err-rows : goal.returns-in_err-rows
returns-in_err-rows c =
    let p = err_from_is_err_and c.from_residual.result c.from_residual.ensures.1 in
    record { made = rw (p.1, p.2) c.in_err-rows.ensures; exact = exact c.args.rows.now }

pub invariant_of-result : goal.invariant_of-result
invariant_of-result c =
    let h = c.in_ok-rows.ensures in
    let s : Sound (listed c.in_ok-rows.rows) = subst (λ ys. Sound ys) (sym h.1) ((exact c.args.rows.now).faultless h.0) in
    record { within = h.2; whole = h.3; each = s.each; ranges = s.ranges; order = s.order }
