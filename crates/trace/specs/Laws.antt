-- What holds of the counts, however a stream is cut into blocks.
use Rattle.std.specs.Prelude.{◌≡◌, ℕ, ◌-◌, ◌^◌, ◌<◌, min, List, [], ◌∷◌, length, sum_by, count_by}
use Rattle.std.specs.List.{concat}
use Rattle.message.specs.Messages.{framed}
use Rattle.collector.specs.Streams.{messages}
use Rattle.trace.specs.Tracing.{Traced, new_tracer, takes}
use Rattle.trace.specs.declared.counts.Counts.{Counts}

-- a block after the other
abbrev pub running : Traced → List (List ℕ) → Traced
running t [] = t
running t (block ∷ blocks) = running (takes t block) blocks

-- a number, or the largest of 64 bits where it is above that
abbrev pub capped : ℕ → ℕ
capped n = min n (2 ^ 64 - 1)

-- The counts are those of the messages that stand in the stream, and what is skipped is all else.
pub record Counted (stream : List ℕ) (c : Counts) : Type 0 where
  pub bytes : c.bytes ≡ capped (length stream)
  pub messages_told : c.messages ≡ capped (length (messages stream))
  pub of_midi_ci : c.midi_ci ≡ capped (count_by framed (messages stream))
  pub bytes_told : c.told ≡ capped (sum_by length (messages stream))
  pub bytes_skipped : length stream < 2 ^ 64 → c.bytes - c.told ≡ length stream - sum_by length (messages stream)

abbrev pub CountsTheStream : Type 0
CountsTheStream = (blocks : List (List ℕ)) → Counted (concat blocks) (running new_tracer blocks).counts
