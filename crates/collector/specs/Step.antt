-- What one byte does to a collector and its buffer.
use Rattle.std.specs.Prelude.{ℕ, ◌+◌, cond, List, length, Some, None, Ok, Err, Option, Result, ◌==◌, nat_le, nat_lt, slice_set}
use Rattle.message.specs.declared.refusal.Refusal.{Refusal}
use Rattle.message.specs.declared.refusal.Refusal.TheVariants.{BufferTooSmall}

-- How a call leaves things: how many bytes of an open message are held, the buffer, and what is answered.
pub record Fed : Type 0 where
  pub held : Option ℕ
  pub buffer : List ℕ
  pub answer : Result (Option ℕ) Refusal

-- nothing is told
abbrev pub quiet : Option ℕ → List ℕ → Fed
quiet held buffer = record { held = held; buffer = buffer; answer = Ok None }

-- a message of n bytes has ended
abbrev pub ended : ℕ → List ℕ → Fed
ended n buffer = record { held = None; buffer = buffer; answer = Ok (Some n) }

-- With n bytes held, a byte other than F0h and F8h–FFh: a 513th byte drops the message, F7h ends it, another byte from 80h drops it,
-- and a lower byte joins it.
abbrev pub goes_on : ℕ → ℕ → List ℕ → Fed
goes_on n byte buffer =
    cond (nat_le 512 n) (quiet None buffer)
    (cond (byte == 0xF7) (ended (n + 1) (slice_set buffer n 0xF7))
    (cond (nat_le 0x80 byte) (quiet None buffer)
    (quiet (Some (n + 1)) (slice_set buffer n byte))))

-- the same, where a message may be open: without one nothing happens
abbrev pub continues : Option ℕ → ℕ → List ℕ → Fed
continues None byte buffer = quiet None buffer
continues (Some n) byte buffer = goes_on n byte buffer

-- A buffer under 512 bytes is refused and nothing changes. F8h–FFh are skipped, F0h opens a message and drops an open one.
abbrev pub feeds : Option ℕ → ℕ → List ℕ → Fed
feeds held byte buffer =
    cond (nat_lt (length buffer) 512) (record { held = held; buffer = buffer; answer = Err BufferTooSmall })
    (cond (nat_le 0xF8 byte) (quiet held buffer)
    (cond (byte == 0xF0) (quiet (Some 1) (slice_set buffer 0 0xF0))
    (continues held byte buffer)))
