use Rattle.tm_dd.proofs.CallerLaws.{means-FALSE, means-TRUE}
use Rattle.test_game.proofs.solving.example.constant.Goals as goal

pub returns-then-value-clause-meaning : goal.returns-then-value-clause-meaning
returns-then-value-clause-meaning c = λ t v. let e = means-TRUE t v in cc

pub returns-else-value-clause-meaning : goal.returns-else-value-clause-meaning
returns-else-value-clause-meaning c = λ t v. let e = means-FALSE t v in cc
