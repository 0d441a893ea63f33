use Rattle.test_game.proofs.forcing.known.knows_parts.Goals.{then-knows_both, else-knows_both}
use Rattle.std.proofs.Common.{rules}
use Rattle.test_game.proofs.forcing.known.knows_parts.Goals as goal

pub returns-then-knows_steps-clause-stutter : goal.returns-then-knows_steps-clause-stutter
returns-then-knows_steps-clause-stutter c = λ passed.
    elim c.if-knows_both.branch [
      | then-knows_both w ↦ w.knows_changes.ensures (search rules)
      | else-knows_both w ↦ absurd (cc)
    ]
