use Rattle.std.proofs.Common.{ℕ, false, List, Some, None, Option, MatchOption}
use Rattle.rising.specs.Lists.{Rising, Absent, Stands}
use Rattle.message.specs.Rows.{row_key}
use Rattle.message.specs.declared.row.Row.{Row}
use Rattle.host.specs.Finding.{Within}
use Rattle.host.proofs.FindingRows.{placed-listed, placed_state}
use Rattle.host.proofs.Keys.{placed}
use Rattle.host.proofs.finding.find_row.Goals as goal

within : (r : Option ℕ) (l : List Row) (x : Row) → MatchOption r (Rising row_key l → Absent row_key x l) (Stands row_key x l) → Within r l
within None l x h = tt
within (Some k) l x h = h.0

pub returns : goal.returns
returns c =
    let l = c.args.rows.now in
    let a = c.args.pair.address in
    let i = c.args.pair.id in
    let r = c.find.result in
    let e = c.find.ensures in
    record {
      within = within r l c.new.result e.place;
      listed = λ up. placed-listed l a i r (placed l up a i false c.new.result c.new.ensures r (e.place, e.content));
      state = λ up. placed_state l a i r (placed l up a i false c.new.result c.new.ensures r (e.place, e.content));
      place = λ up. placed l up a i false c.new.result c.new.ensures r (e.place, e.content);
    }
