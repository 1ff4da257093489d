-- How long messages are, and how their bytes go together.
use Rattle.std.proofs.Common.{◌≡◌, ℕ, ◌+◌, List, [], ◌∷◌, ◌++◌, length, sym, ap, append_assoc, arith}
use Rattle.std.proofs.lemmas.List.{length-append}
use Rattle.message.specs.Messages.{Fields, encode, header}
use Rattle.message.specs.Codes.{code}
use Rattle.message.specs.Sending.{sends}
use Rattle.message.specs.declared.sub_id.SubId.{SubId}

pub length-encode : (m : Fields) → length (encode m) ≡ 15 + length m.body
length-encode m = omega (arith, length-append m.body (0xF7 ∷ []))

-- header, body and end
pub whole_parts : (sub : SubId) (a own to : ℕ) (first second : List ℕ)
    → header (code sub) a own to ++ (first ++ (second ++ 0xF7 ∷ [])) ≡ encode (sends own a sub to (first ++ second))
whole_parts sub a own to first second = ap (λ (xs : List ℕ). header (code sub) a own to ++ xs) (sym (append_assoc first second (0xF7 ∷ [])))
