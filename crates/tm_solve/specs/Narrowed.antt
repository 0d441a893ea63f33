-- The game of which a set of states alone is looked at.
use Rattle.tm_solve.specs.Sets.{StateSet, common}
use Rattle.tm_solve.specs.Game.{Game}
use Rattle.tm_solve.specs.Sides.{with_part}

-- the game in which the step operator makes states of a set alone
abbrev pub narrowed : Game → StateSet → Game
narrowed g w = with_part g (λ z y x j i. common (g.part z y x j i) w)
