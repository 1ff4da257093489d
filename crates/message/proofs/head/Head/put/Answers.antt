use Rattle.std.proofs.Common.{◌≡◌, ℕ, List, [], ◌∷◌, ◌++◌, refl, rules}
use Rattle.message.specs.Messages.{muid, header}
use Rattle.message.proofs.Places.{and_then, as_bytes}
use Rattle.message.proofs.head.Head.put.Goals as goal

together : (sub sub' address own to : ℕ) (source destination : List ℕ) → sub ≡ sub' → source ≡ muid own → destination ≡ muid to
    → (0xF0 ∷ 0x7E ∷ address ∷ 0x0D ∷ sub ∷ 0x02 ∷ []) ++ (source ++ destination) ≡ header sub' address own to
together sub sub' address own to source destination p q r = rw (p, q, r) refl

pub returns : goal.returns
returns c = record { put = as_bytes (together _ _ _ _ _ _ _ c.byte.ensures c.bytes.ensures c.bytes-2.ensures) (and_then c.put.ensures.put (and_then c.put-2.ensures.put c.put-3.ensures.put)); same = search rules }
