use Rattle.std.proofs.Common.{◌≡◌, drop}
use Rattle.trace.specs.Tracing.{state_of, goes}
use Rattle.trace.proofs.tracer.Tracer.take.Given as goal

-- what is still to come leads where the whole block does
abbrev pub invariant-loop-byte : goal.invariant-loop-byte
invariant-loop-byte g l = goes (state_of l.self) (drop l.byte-index l.block) ≡ goes (state_of l.initial.self) l.block
