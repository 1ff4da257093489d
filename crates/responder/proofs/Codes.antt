-- A byte that is no known Sub-ID.
use Rattle.std.proofs.Common.{◌≡◌, ℕ, ◌≢◌, Err, Result, subst}
use Rattle.message.specs.Codes.{code, Decodes}
use Rattle.message.specs.declared.sub_id.SubId.{SubId}
use Rattle.message.specs.declared.sub_id.UnknownSubId.{UnknownSubId}

pub unknown : (sub : ℕ) (r : Result SubId UnknownSubId) (e : UnknownSubId) → Decodes sub r → r ≡ Err e → (s : SubId) → code s ≢ sub
unknown sub r e d p = (subst (λ x. Decodes sub x) p d).1
