-- What a tracer does with the blocks of a stream.
use Rattle.std.specs.Prelude.{ℕ, List, length, replicate}
use Rattle.collector.specs.Streams.{State, new_with, call, left, told, after, heard}
use Rattle.trace.specs.Counting.{none, with_bytes, all_counted}
use Rattle.trace.specs.declared.counts.Counts.{Counts}
use Rattle.trace.specs.declared.tracer.Tracer.{Tracer}

-- a collector with its buffer, and what was counted
pub record Traced : Type 0 where
  pub collecting : State
  pub counts : Counts

abbrev pub state_of : Tracer → Traced
state_of t = record { collecting = record { held = t.collector.held; buffer = t.buffer }; counts = t.counts }

abbrev pub new_tracer : Traced
new_tracer = record { collecting = new_with (replicate 512 0); counts = none }

-- A byte: it is collected, and the message that it ends is counted.
abbrev pub steps : Traced → ℕ → Traced
steps t byte =
    record {
      collecting = left (call t.collecting byte);
      counts = all_counted t.counts (told (call t.collecting byte).answer (call t.collecting byte).buffer);
    }

-- Bytes, one after the other: each message that is heard is counted.
abbrev pub goes : Traced → List ℕ → Traced
goes t bytes =
    record {
      collecting = after t.collecting bytes;
      counts = all_counted t.counts (heard t.collecting bytes);
    }

-- A block: the number of its bytes is counted, and they go one after the other.
abbrev pub takes : Traced → List ℕ → Traced
takes t block = goes (record { collecting = t.collecting; counts = with_bytes t.counts (length block) }) block
