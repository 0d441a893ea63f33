use Rattle.tm_verdict.proofs.Values.{reads_levels}
use Rattle.tm_verdict.proofs.set_laws.ids_read_their_levels.Goals as goal

pub returns : goal.returns
returns c = reads_levels
