-- What is counted along a stream of bytes.
use Rattle.std.specs.Prelude.{ℕ, ◌+◌, ◌-◌, ◌^◌, min, Bool, cond, List, [], ◌∷◌, length}
use Rattle.message.specs.Messages.{framed}
use Rattle.trace.specs.declared.counts.Counts.{Counts}

-- a count goes up to what 64 bits hold, and stays there
abbrev pub up : ℕ → ℕ → ℕ
up count n = min (count + n) (2 ^ 64 - 1)

abbrev pub none : Counts
none = record { bytes = 0; messages = 0; midi_ci = 0; told = 0 }

-- so many bytes more
abbrev pub with_bytes : Counts → ℕ → Counts
with_bytes c n = record { bytes = up c.bytes n; messages = c.messages; midi_ci = c.midi_ci; told = c.told }

-- a message more, of so many bytes
abbrev pub with_message : Counts → ℕ → Bool → Counts
with_message c n of_midi_ci =
    record { bytes = c.bytes; messages = up c.messages 1; midi_ci = up c.midi_ci (cond of_midi_ci 1 0); told = up c.told n }

-- the same, by the bytes of the message
abbrev pub counted : Counts → List ℕ → Counts
counted c message = with_message c (length message) (framed message)

abbrev pub all_counted : Counts → List (List ℕ) → Counts
all_counted c [] = c
all_counted c (message ∷ messages) = all_counted (counted c message) messages
