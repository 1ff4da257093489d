use Rattle.std.proofs.Common.{rules}
use Rattle.collector.proofs.Meanings.{tells_the_messages, tells-whole}
use Rattle.collector.proofs.laws.shortest_message.Goals as goal

pub returns : goal.returns
returns c = record { value = search rules; whole = tells-whole; exact = tells_the_messages }
