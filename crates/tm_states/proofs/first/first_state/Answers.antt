use Rattle.std.proofs.Common.{rules}
use Rattle.tm_syntax.specs.Design.View.{design_tree}
use Rattle.tm_sem.proofs.Firsts.{first_initial}
use Rattle.tm_states.proofs.StateLaws.{initial_valid}
use Rattle.tm_states.proofs.first.first_state.Goals as goal

pub returns-clause-initial : goal.returns-clause-initial
returns-clause-initial c =
    first_initial (design_tree c.args.design.now) c.args.choices.now _
    (record { values = search rules; places = search rules; last = search rules })

pub returns-clause-valid : goal.returns-clause-valid
returns-clause-valid c = λ typed numbered.
    initial_valid (design_tree c.args.design.now) typed numbered _
    (first_initial (design_tree c.args.design.now) c.args.choices.now _
    (record { values = search rules; places = search rules; last = search rules }))
