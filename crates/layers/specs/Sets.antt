-- The layer that keeps at most one row of a set on at an address.
use Rattle.std.specs.Prelude.{ℕ, zero, suc, ◌+◌, ◌<◌, ◌≤◌, Bool, cond, not, ◌&&◌, ◌||◌, List, [], ◌∷◌, Some, None, Option, ◌==◌, nat_lt}
use Rattle.std.specs.List.{list_any}
use Rattle.std.specs.Str.{bytes_eq}
use Rattle.message.specs.declared.row.Row.{Row}
use Rattle.host.specs.Hosts.{Consents}
use Rattle.layers.specs.declared.member.Member.{Member}

-- the set that an ID is in, or 0 where it is in none
abbrev pub set_of : List Member → List ℕ → ℕ
set_of [] i = 0
set_of (m ∷ ms) i = cond (bytes_eq i m.id) m.set (set_of ms i)

-- that set, if there is one
abbrev pub some_set : ℕ → Option ℕ
some_set zero = None
some_set (suc n) = Some (suc n)

-- two IDs are in one set
abbrev pub together : List Member → List ℕ → List ℕ → Bool
together ms i j = nat_lt 0 (set_of ms i) && set_of ms i == set_of ms j

-- a rival of the row with that address and ID: another row that is on, at its address and in the set of its ID
abbrev pub rival : List Member → ℕ → List ℕ → Row → Bool
rival ms a i r = a == r.address && (r.on && (together ms i r.id && not (bytes_eq i r.id)))

-- the layer consents to an on exactly if the host below does, and also to the off of each rival
abbrev pub set_on : List Member → List Row → Consents → ℕ → List ℕ → Bool
set_on ms l c a i = c.on a i && not (list_any (λ r. rival ms a i r && not (c.off a r.id)) l)

-- The consents of the layer over a host with the rows l and the consents c: its on names the rivals and what is named below; an off is as
-- below.
abbrev pub setted : List Member → List Row → Consents → Consents
setted ms l c =
    record {
      on = set_on ms l c;
      off = c.off;
      names = λ a i j. set_on ms l c a i && (c.names a i j || list_any (λ r. rival ms a i r && bytes_eq j r.id) l);
    }

-- how many rows of a set are on at an address
abbrev pub count_on : List Member → ℕ → ℕ → List Row → ℕ
count_on ms a g [] = 0
count_on ms a g (r ∷ l) = cond (r.on && (a == r.address && g == set_of ms r.id)) 1 0 + count_on ms a g l

-- at each address at most one row of each set is on
abbrev pub AtMostOne : List Member → List Row → Type 0
AtMostOne ms l = (a g : ℕ) → 0 < g → count_on ms a g l ≤ 1
