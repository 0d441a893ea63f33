-- The exact operator grows with its sets, and absorbs what lies in Y.
use Rattle.tm_game.specs.Game.{GameData}
use Rattle.tm_solve.specs.Game.{IsAbsorbing, IsMonotone}
use Rattle.tm_solve.specs.OperatorLaws.{absorbing_of, monotone_of}
use Rattle.std.specs.Prelude.{length}
use Rattle.tm_solve_exact.specs.Exact.{coding, exact_game, exact_operator, states_of, valid_set}
use Rattle.tm_solve_exact.specs.Rising.{exact_rises}

pub exact_monotone : (g : GameData) → IsMonotone (exact_game g)
exact_monotone g =
    monotone_of (states_of (coding g) (valid_set g)) (length g.goals) (length g.fairs) (exact_operator g)
    (exact_rises g)

pub exact_absorbing : (g : GameData) → IsAbsorbing (exact_game g)
exact_absorbing g =
    absorbing_of (states_of (coding g) (valid_set g)) (length g.goals) (length g.fairs) (exact_operator g)
    (exact_rises g)
