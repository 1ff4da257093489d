-- What a pen does to the buffer that it holds.
use Rattle.std.specs.Prelude.{◌≡◌, ℕ, ◌+◌, ◌≤◌, false, List, length, ⊤, Result, MatchResult}
use Rattle.message.specs.Writing.{Put, room_for}
use Rattle.message.specs.declared.refusal.Refusal.{Refusal}
use Rattle.message.specs.declared.pen.Pen.{Pen}

-- there is room for these bytes
abbrev pub Room : List ℕ → Pen → Type 0
Room bs p = p.at + length bs ≤ length p.out.now

-- these bytes are put where the pen stood, and it stands at their end, over the same buffer
pub record Puts (bs : List ℕ) (p q : Pen) : Type 0 where
  pub put : Put p.out.now p.at bs q.at q.out.now
  pub same : q.out.ghost_name ≡ p.out.ghost_name

-- a message that fits is put; one that does not fit is refused, and nothing changes
abbrev pub PutOrNot : List ℕ → Pen → Result ⊤ Refusal → Pen → Type 0
PutOrNot bs p r q =
    MatchResult r (λ _. (length bs ≤ 512) × Puts bs p q) (λ e. (e ≡ Refusal.BufferTooSmall) × (room_for (length bs) p.out.now p.at ≡ false) × (q ≡ p))
