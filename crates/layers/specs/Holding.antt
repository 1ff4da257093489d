-- The layer that withholds consents.
use Rattle.std.specs.Prelude.{ℕ, Bool, false, cond, List}
use Rattle.rising.specs.Lists.{holds}
use Rattle.host.specs.Hosts.{Consents}
use Rattle.message.specs.declared.pair.Pair.{Pair}
use Rattle.message.specs.Rows.{pair_key}

-- whether the row of that address and ID is among the pairs
abbrev pub withheld : List Pair → ℕ → List ℕ → Bool
withheld ps a i = holds pair_key (record { address = a; id = i }) ps

-- the consents of a host but those for the pairs, on and off; where the on is withheld it names none
abbrev pub held : List Pair → Consents → Consents
held ps c =
    record {
      on = λ a i. cond (withheld ps a i) false (c.on a i);
      off = λ a i. cond (withheld ps a i) false (c.off a i);
      names = λ a i. cond (withheld ps a i) (λ _. false) (c.names a i);
    }
