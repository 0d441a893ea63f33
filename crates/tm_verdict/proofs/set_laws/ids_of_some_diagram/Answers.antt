use Rattle.tm_verdict.specs.Sets.{id_holds, values_of}
use Rattle.tm_verdict.proofs.set_laws.ids_of_some_diagram.Goals as goal

pub returns : goal.returns
unfolding id_holds values_of
returns c = λ bits low high. rw (low, high)
