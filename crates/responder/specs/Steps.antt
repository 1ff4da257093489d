-- What a call does, over any host.
use Rattle.std.specs.Prelude.{◌≡◌, ℕ, ◌≤◌, Bool, false, cond, not, ◌&&◌, List, [], ◌∷◌, ◌++◌, map, length, take, drop, Ok, Err, Result}
use Rattle.std.specs.List.{flat_map, filter}
use Rattle.std.specs.List.Sorted.{IsPermutation}
use Rattle.message.specs.Messages.{Fields, encode}
use Rattle.message.specs.Sending.{profile_list, report}
use Rattle.message.specs.declared.refusal.Refusal.{Refusal}
use Rattle.message.specs.declared.row.Row.{Row}
use Rattle.host.specs.Rows.{same, look, is_on}
use Rattle.host.specs.Hosts.{Consents, Switched}
use Rattle.responder.specs.Plans.{Plan, refuse, send, turn, has_row, replied_at}

-- a responder by what it knows: the own number, the listed devices, and its host
pub record State (S : Type 0) : Type 0 where
  pub own : ℕ
  pub others : List ℕ
  pub host : S

-- what comes out of a call: a refusal, or the bytes that are sent
pub data Outcome : Type 0 where
  refused : Refusal → Outcome
  sent : List ℕ → Outcome

-- a call sends as many bytes as it returns, from its buffer's front; a refused call sends none
abbrev pub outcome : Result ℕ Refusal → List ℕ → Outcome
outcome (Ok n) buffer = sent (take n buffer)
outcome (Err e) buffer = refused e

-- the rest of the buffer stays, and all of it where the call is refused
abbrev pub Rest : Result ℕ Refusal → List ℕ → List ℕ → Type 0
Rest (Ok n) before after = (n ≤ length before) × (drop n after ≡ drop n before)
Rest (Err e) before after = after ≡ before

-- messages one after the other
abbrev pub bytes : List Fields → List ℕ
bytes ms = flat_map encode ms

-- the reply at an address that has a row, and nothing at another
abbrev pub reply_there : (own to : ℕ) → List Row → ℕ → List ℕ
reply_there own to l a = cond (has_row l a) (encode (profile_list own to a l)) []

-- the whole answer to a listing inquiry at an address
unfoldable pub lists_bytes : (own to : ℕ) → List Row → ℕ → List ℕ
lists_bytes own to l a = bytes (map (λ b. profile_list own to b l) (replied_at l a))

-- a call sent these bytes, and the rest of its buffer stays
pub record Sends (bs before : List ℕ) (r : Result ℕ Refusal) (after : List ℕ) : Type 0 where
  pub says : outcome r after ≡ sent bs
  pub rest : Rest r before after

-- a row that stood on, is not the named one, and stands off in the listing after
abbrev pub fell : ℕ → List ℕ → List Row → Row → Bool
fell a i l' r = r.on && (not (same a i r) && not (is_on (look l' r.address r.id)))

-- the other rows that stood on before and stand off after
abbrev pub put_off : ℕ → List ℕ → List Row → List Row → List Row
put_off a i l l' = filter (fell a i l') l

-- the Disabled Report of a row that fell, and nothing for another
abbrev pub fall_there : (own a : ℕ) → List ℕ → List Row → Row → List ℕ
fall_there own a i l' r = cond (fell a i l' r) (encode (report own r.address r.id false)) []

-- those of all rows, one after the other
abbrev pub falls : (own a : ℕ) → List ℕ → List Row → List Row → List ℕ
falls own a i l' l = flat_map (fall_there own a i l') l

-- their Disabled Reports, and last the report of the named row's state as it is then
abbrev pub reports : ℕ → ℕ → List ℕ → List Row → List Row → List Fields
reports own a i offs l' = map (λ r. report own r.address r.id false) offs ++ report own a i (is_on (look l' a i)) ∷ []

-- the bytes of these reports, where the other rows stand in the listing's order
unfoldable pub reports_bytes : (own a : ℕ) → List ℕ → List Row → List Row → List ℕ
reports_bytes own a i l l' = bytes (reports own a i (put_off a i l l') l')

module _ {S : Type 0} (listing : S → List Row) (consents : S → Consents) (fixed : S → Bool) (keeps : S → S → Type 0) where
  -- the host is asked to switch; each other row put off is reported once, in any order, before the named row
  pub record Turned (a : ℕ) (i : List ℕ) (on : Bool) (s : State S) (o : Outcome) (s' : State S) : Type 0 where
    pub own : s'.own ≡ s.own
    pub others : s'.others ≡ s.others
    pub answer : Bool
    pub host : Switched (listing s.host) (consents s.host) (fixed s.host) a i on (listing s'.host) (consents s'.host) (fixed s'.host) answer
    pub kept : keeps s.host s'.host
    pub offs : List Row
    pub order : IsPermutation (put_off a i (listing s.host) (listing s'.host)) offs
    pub says : o ≡ sent (bytes (reports s.own a i offs (listing s'.host)))

  -- what a plan comes to: a refusal changes nothing, and only a question to the host changes the host
  abbrev pub Done : Plan → State S → Outcome → State S → Type 0
  Done (refuse e) s o s' = (o ≡ refused e) × (s' ≡ s)
  Done (send ms own others) s o s' = (o ≡ sent (bytes ms)) × (s' ≡ record { own = own; others = others; host = s.host })
  Done (turn a i on) s o s' = Turned a i on s o s'
