use Rattle.std.proofs.Common.{rules}
use Rattle.collector.proofs.Runs.{whole}
use Rattle.collector.proofs.laws.longest_message.Goals as goal

pub returns : goal.returns
returns c = record { value = search rules; law = whole }
