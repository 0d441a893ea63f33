-- The states of a set as a test, and sets that hold at no valid state.
use Rattle.std.specs.Prelude.{Bool}
use Rattle.tm_game_bits.specs.AssignedStates.{assignment_of}
use Rattle.tm_dd.specs.declared.node.NodeId.{NodeId}
use Rattle.tm_dd.specs.Table.{means}
use Rattle.tm_game.specs.Game.{GameData}
use Rattle.tm_sem.specs.Certificates.{IsIn}
use Rattle.tm_sem.specs.State.{StateData}
use Rattle.tm_syntax.specs.Design.{DesignTree}

-- whether a state is in the set of an id
abbrev pub test_of : DesignTree → GameData → NodeId → StateData → Bool
test_of d g a s = means g.diagrams.table a (assignment_of d g.order s)

-- a set holds at no valid state
abbrev pub HoldsNowhere : DesignTree → (StateData → Bool) → Type 0
HoldsNowhere d set = (s : StateData) → ¬ IsIn d set s
