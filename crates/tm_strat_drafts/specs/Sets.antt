-- Sets of states, compared at the states n of a list: whether a set has a state, and two sets joined by a test.
use Rattle.std.specs.Prelude.{List, if◌then◌else◌}
use Rattle.tm_sem.specs.Certificates.{nowhere}
use Rattle.tm_sem.specs.State.{StateData}
use Rattle.tm_solve.specs.Sets.{StateSet, Gains}

-- a set holds a listed state: it has one that the empty set does not have
abbrev pub HasState : List StateData → StateSet → Type 0
HasState n a = Gains n nowhere a

-- the states of one set where a test holds, and those of another one elsewhere
abbrev pub chosen : StateSet → StateSet → StateSet → StateSet
chosen test a b s = if test s then a s else b s
