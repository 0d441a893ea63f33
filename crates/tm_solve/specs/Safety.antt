-- Safe sets of states: those in which the state can be kept for ever.
use Rattle.tm_solve.specs.Sets.{StateSet, IsWithin}
use Rattle.tm_solve.specs.Game.{Game}

-- a set lies in what the operator makes of it, by the first goal and the first condition: over one set all are the same
abbrev pub IsSafe : Game → StateSet → Type 0
IsSafe g z = IsWithin g.states z (g.part z z z 0 0)
