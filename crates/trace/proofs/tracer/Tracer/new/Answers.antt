use Rattle.std.proofs.Common.{rules}
use Rattle.collector.proofs.Meanings.{tells_the_messages}
use Rattle.trace.proofs.Sums.{counts_the_stream}
use Rattle.trace.proofs.tracer.Tracer.new.Goals as goal

pub returns : goal.returns
returns c = record { value = search rules; streams = counts_the_stream tells_the_messages }
