use Rattle.std.proofs.Common.{rules}
use Rattle.collector.proofs.Tellings.{real_time_skipped}
use Rattle.collector.proofs.laws.first_real_time_byte.Goals as goal

pub returns : goal.returns
returns c = record { value = search rules; law = real_time_skipped }
