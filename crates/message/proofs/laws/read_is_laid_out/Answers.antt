use Rattle.message.proofs.Layouts.{laid_out}
use Rattle.message.proofs.laws.read_is_laid_out.Goals as goal

pub returns : goal.returns
returns c = laid_out
