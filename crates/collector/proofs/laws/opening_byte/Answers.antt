use Rattle.std.proofs.Common.{rules}
use Rattle.collector.proofs.Meanings.{opening_forgets}
use Rattle.collector.proofs.Tellings.{opening-answers}
use Rattle.collector.proofs.laws.opening_byte.Goals as goal

pub returns : goal.returns
returns c = record { value = search rules; messages = opening_forgets; answers = opening-answers }
