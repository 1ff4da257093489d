-- How far the sets layer has come below while it puts rivals off, one by one, before a row goes on.
use Rattle.std.specs.Prelude.{◌≡◌, ℕ, ◌<◌, Bool, true, false, cond, ◌&&◌, List, map, ◌==◌, slice_index_or}
use Rattle.std.specs.List.{list_any}
use Rattle.std.specs.Str.{bytes_eq}
use Rattle.message.specs.declared.row.Row.{Row}
use Rattle.host.specs.Rows.{row}
use Rattle.host.specs.Hosts.{Consents}
use Rattle.layers.specs.declared.member.Member.{Member}
use Rattle.layers.specs.Sets.{rival}

-- a row once those at an address with certain IDs are off
abbrev pub cleared : ℕ → (List ℕ → Bool) → Row → Row
cleared a ids r = row r.address r.id (cond (a == r.address && ids r.id) false r.on)

-- The rivals among the first k rows are off below, where the rows were l and the consents c: the row's consent is still there, and so is
-- the consent to the off of every rival that is left; the consent names what it named, but for rows that are off by now.
pub record Cleared (ms : List Member) (l : List Row) (c : Consents) (f : Bool) (a : ℕ) (i : List ℕ) (k : ℕ) (l' : List Row) (c' : Consents) (f' : Bool) : Type 0 where
  -- the IDs put off so far
  pub ids : List ℕ → Bool
  pub rows : l' ≡ map (cleared a ids) l
  pub picks : (j : List ℕ) → ids j ≡ true → list_any (λ r. rival ms a i r && bytes_eq j r.id) l ≡ true
  pub front : (m : ℕ) (d : Row) → m < k → rival ms a i (slice_index_or l m d) ≡ true → ids (slice_index_or l m d).id ≡ true
  pub on : c'.on a i ≡ true
  pub off : (j : List ℕ) → ids j ≡ false → c.off a j ≡ true → c'.off a j ≡ true
  pub names : (j : List ℕ) → ids j ≡ false → c'.names a i j ≡ c.names a i j
  pub fixed : f' ≡ f
