-- The two hosts that hold their rows in a table.
use Rattle.std.specs.Prelude.{◌≡◌, ℕ, ◌<◌, Bool, false, List, [], ◌∷◌, length, take, Some, None, Option, MatchOption, slice_index_or, slice_set}
use Rattle.message.specs.Rows.{row_key}
use Rattle.message.specs.declared.row.Row.{Row}
use Rattle.host.specs.declared.rows.Rows.{Rows}
use Rattle.host.specs.Rows.{row, look, has}
use Rattle.host.specs.Hosts.{Consents}

-- the rows in use, in their order
abbrev pub listed : Rows → List Row
listed t = take t.count t.slots

-- the place of a row, with its state, or that it is not listed
abbrev pub Placed : List Row → ℕ → List ℕ → Option ℕ → Type 0
Placed l a i o =
    MatchOption o (look l a i ≡ None) (λ k. (k < length l) × ((d : Row) → (row_key (slice_index_or l k d) ≡ a ∷ i) × (look l a i ≡ Some (slice_index_or l k d).on)))

-- what is read past the last slot
abbrev pub blank : Row
blank = row 0 [] false

-- the slots with the row at a place put on or off
abbrev pub put : List Row → ℕ → Bool → List Row
put l k on = slice_set l k (row (slice_index_or l k blank).address (slice_index_or l k blank).id on)

-- the table host consents to every switch of a listed row, and its ons put no other row off
abbrev pub freely : List Row → Consents
freely l = record { on = has l; off = has l; names = λ _ _ _. false }

-- the fixed host consents to nothing
abbrev pub never : Consents
never = record { on = λ _ _. false; off = λ _ _. false; names = λ _ _ _. false }
