use Rattle.std.proofs.lemmas.Option.{none-some}
use Rattle.tm_refine.proofs.memory.Memory.new.Goals as goal

pub returns : goal.returns
returns c = λ g cells is. absurd (none-some cells is)
