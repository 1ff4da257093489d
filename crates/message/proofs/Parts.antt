-- One more row of those at an address.
use Rattle.std.proofs.Common.{◌≡◌, ℕ, ◌+◌, ◌<◌, Bool, true, false, cond, List, [], ◌∷◌, length, get_or, drop, ap, ◌∙◌}
use Rattle.std.proofs.lemmas.List.{at_drop_more}
use Rattle.message.specs.declared.row.Row.{Row}
use Rattle.message.specs.Rows.{stands, part}

-- what a row reads as past the end
abbrev pub no_row : Row
no_row = record { address = 0; id = []; on = false }

pub part_taken : (a : ℕ) (on : Bool) (rows : List Row) (k : ℕ) → k < length rows → stands a on (get_or rows k no_row) ≡ true
    → part a on (drop k rows) ≡ get_or rows k no_row ∷ part a on (drop (k + 1) rows)
part_taken a on rows k h t =
    at_drop_more (part a on) rows k no_row h
    ∙ ap (λ (b : Bool). cond b (get_or rows k no_row ∷ part a on (drop (k + 1) rows)) (part a on (drop (k + 1) rows))) t

pub part_passed : (a : ℕ) (on : Bool) (rows : List Row) (k : ℕ) → k < length rows → stands a on (get_or rows k no_row) ≡ false
    → part a on (drop k rows) ≡ part a on (drop (k + 1) rows)
part_passed a on rows k h t =
    at_drop_more (part a on) rows k no_row h
    ∙ ap (λ (b : Bool). cond b (get_or rows k no_row ∷ part a on (drop (k + 1) rows)) (part a on (drop (k + 1) rows))) t
