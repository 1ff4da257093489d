-- What the calls of the sets layer do, told with the rows, the consents and the fixedness of the host below.
use Rattle.std.specs.Prelude.{◌≡◌, ℕ, Bool, List}
use Rattle.message.specs.declared.row.Row.{Row}
use Rattle.host.specs.Hosts.{Consents, Switched, Plugged, Pulled}
use Rattle.layers.specs.declared.sets.Sets.{Sets}
use Rattle.layers.specs.Models.{set_members}
use Rattle.layers.specs.Sets.{setted, AtMostOne}

-- what the layer consents to
abbrev pub sets_consents : {X : Type 0} → (X → List Row) → (X → Consents) → Sets X → Consents
sets_consents listing consents s = setted (set_members s) (listing s.below) (consents s.below)

-- a switch of the layer
abbrev pub SetsSwitched : {X : Type 0} → (X → List Row) → (X → Consents) → (X → Bool) → Sets X → ℕ → List ℕ → Bool → Sets X → Bool → Type 0
SetsSwitched listing consents fixed s a i on s' answer =
    Switched (listing s.below) (sets_consents listing consents s) (fixed s.below) a i on (listing s'.below) (sets_consents listing consents s') (fixed s'.below) answer

-- a plug of the layer
abbrev pub SetsPlugged : {X : Type 0} → (X → List Row) → (X → Consents) → (X → Bool) → Sets X → ℕ → List ℕ → Sets X → Bool → Type 0
SetsPlugged listing consents fixed s a i s' answer =
    Plugged (listing s.below) (sets_consents listing consents s) (fixed s.below) a i (listing s'.below) (sets_consents listing consents s') (fixed s'.below) answer

-- a pull of the layer
abbrev pub SetsPulled : {X : Type 0} → (X → List Row) → (X → Consents) → (X → Bool) → Sets X → ℕ → List ℕ → Sets X → Bool → Type 0
SetsPulled listing consents fixed s a i s' answer =
    Pulled (listing s.below) (sets_consents listing consents s) (fixed s.below) a i (listing s'.below) (sets_consents listing consents s') (fixed s'.below) answer

-- no call changes the members, nor what no call of the host below changes
abbrev pub SetsKeep : {X : Type 0} → (X → X → Type 0) → Sets X → Sets X → Type 0
SetsKeep keeps s s' = (set_members s ≡ set_members s') × keeps s.below s'.below

-- where at most one row of each set was on at each address, so it is after the call
abbrev pub StaysOne : {X : Type 0} → (X → List Row) → Sets X → Sets X → Type 0
StaysOne listing s s' = AtMostOne (set_members s) (listing s.below) → AtMostOne (set_members s') (listing s'.below)
