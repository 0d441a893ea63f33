use Rattle.tm_syntax.proofs.first_faults_join.Goals as goal
use Rattle.tm_syntax.specs.Faults.Marks.{Mark}
use Rattle.tm_syntax.proofs.Places.{earliest-append}

pub returns : goal.returns
returns c = earliest-append (λ (m : Mark). m.place)
