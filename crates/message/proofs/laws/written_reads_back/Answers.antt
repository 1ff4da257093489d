use Rattle.message.proofs.Trips.{messages_back, profile_lists_back}
use Rattle.message.proofs.laws.written_reads_back.Goals as goal

pub returns : goal.returns
returns c = record { messages = messages_back; profile_lists = profile_lists_back }
