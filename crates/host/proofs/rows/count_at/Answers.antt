use Rattle.std.proofs.Common.{ℕ, eqb, get_or, arith}
use Rattle.std.proofs.lemmas.List.{at_drop_more, at_drop_all}
use Rattle.std.proofs.lemmas.Bool.{cond-true, cond-false, eq-eqb, ne_eqb}
use Rattle.message.proofs.Parts.{no_row}
use Rattle.host.specs.Rows.{tally}
use Rattle.host.proofs.rows.count_at.Goals as goal
use Rattle.host.proofs.rows.count_at.Goals.{then-address-row, else-address-row}

pub loop-row-preserved : goal.loop-row-preserved
loop-row-preserved c =
    let a = c.args.address in
    let r = get_or c.args.rows.now c.loop-row.row-index no_row in
    let e = at_drop_more (tally a) c.args.rows.now c.loop-row.row-index no_row (omega arith) in
    elim c.if-address-row.branch [
      | then-address-row w ↦
          let one = cond-true {A = ℕ} (eqb a r.address) 1 0 (eq-eqb a r.address w.if-address-row.true) in
          (omega (arith, w.count-is), omega (arith, w.count-is))
      | else-address-row w ↦
          let none = cond-false {A = ℕ} (eqb a r.address) 1 0 (ne_eqb a r.address w.if-address-row.false) in
          (omega (arith, w.count-is), omega (arith, w.count-is))
    ]

pub returns-clause-value : goal.returns-clause-value
returns-clause-value c = let e = at_drop_all (tally c.args.address) c.args.rows.now c.loop-row.row-index (omega arith) in omega arith
