-- A state of a set, narrowed down by predicates.
-- d a design, first a game as it was, s the diagrams that it has now, set a set of the first game; set is a test in
-- the last definition, and cut a set of a game g.
use Rattle.std.specs.Prelude.{◌≡◌, Bool, true, false, List}
use Rattle.tm_dd.specs.declared.node.NodeId.{NodeId}
use Rattle.tm_dd.specs.Table.{Table}
use Rattle.tm_flat_pool.specs.Cells.{IsInUpper, SameCell}
use Rattle.tm_flat_pool.specs.Predicates.{Predicate}
use Rattle.tm_game.specs.Game.{GameData, IsStates}
use Rattle.tm_game.specs.Least.{test_of}
use Rattle.tm_sem.specs.State.{StateData}
use Rattle.tm_sem.specs.Step.{IsState}
use Rattle.tm_syntax.specs.Design.{DesignTree}

-- the state is a valid one of the set, the one id is its cell, and the other is what of the set lies in that cell
pub record IsNarrowed (d : DesignTree) (first : GameData) (s : Table) (set : NodeId) (predicates : List Predicate)
    (state : StateData) (cell sought : NodeId) : Type 0 where
  pub valid : IsState d state
  pub there : test_of d first set state ≡ true
  pub cell_is : IsStates d first.order s (λ t. SameCell d predicates state t) cell
  pub sought_is : IsStates d first.order s
      (λ t. SameCell d predicates state t × (test_of d first set t ≡ true)) sought

-- some state is a valid one of the set, the one id is its cell, and the other is what of the set lies in that cell
abbrev pub IsSought : DesignTree → GameData → Table → NodeId → List Predicate → NodeId → NodeId → Type 0
IsSought d first s set predicates cell sought =
    (state : StateData) × IsNarrowed d first s set predicates state cell sought

-- a set has states alone whose cell meets a set that they are not in
abbrev pub IsCutOff : DesignTree → GameData → List Predicate → (StateData → Bool) → NodeId → Type 0
IsCutOff d g predicates set cut =
    (s : StateData) → IsState d s → test_of d g cut s ≡ true → IsInUpper d predicates set s × (set s ≡ false)
