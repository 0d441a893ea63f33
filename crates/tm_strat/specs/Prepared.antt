-- What a driver's blocks are made from, and what it is in C. In this file g is a game of a design d.
use Rattle.std.specs.Prelude.{◌≡◌, ℕ, ◌+◌, ◌≤◌, List, Vec, length, map}
use Rattle.std.specs.declared.alloc.Global.{Global}
use Rattle.tm_dd.specs.declared.node.NodeId.{NodeId}
use Rattle.tm_game.specs.Game.{GameData}
use Rattle.tm_game.specs.declared.moves.MoveShape.{MoveShape}
use Rattle.tm_solve.specs.declared.iterates.Iterates.{Iterates}
use Rattle.tm_strat.specs.Served.{AreMadeFor, candidate_trees}
use Rattle.tm_strat.specs.Shapes.{all_shapes}
use Rattle.tm_strat.specs.Tested.{AreFewTests, AreTestSets}
use Rattle.tm_strat.specs.declared.choosing.GoalMoves.{GoalMoves}
use Rattle.tm_strat.specs.declared.spelling.Spelling.{Spelling}
use Rattle.tm_syntax.specs.Design.{DesignTree}

-- where 32 bits number all shapes of the design's moves, these are all
abbrev pub AreShapesOf : DesignTree → List MoveShape → Type 0
AreShapesOf d shapes =
    1 + length d.processes + length d.tasks ≤ 4294967295 → shapes ≡ all_shapes (length d.processes) (length d.tasks)

-- rows of widths are those of the parameters of each task
abbrev pub AreWidthsOf : GameData → List (Vec ℕ Global) → Type 0
AreWidthsOf g rows = map (λ row. row.items) rows ≡ g.flat.parameters

-- tests and moves of the goals of a solution are sets over the game, and are spelled as they were read
pub record IsPrepared (d : DesignTree) (g : GameData) (it : Iterates) (s : Spelling) (tests : List NodeId)
    (goals : List GoalMoves) : Type 0 where
  pub tests_are : AreTestSets d g s.counts s.predicates.items tests
  pub few_tests : AreFewTests d s.predicates.items
  pub shapes : AreShapesOf d s.shapes.items
  pub widths : AreWidthsOf g s.widths.items
  pub moves : AreMadeFor d g it s.shapes.items (candidate_trees d s.counts s.shapes.items s.candidates.items) goals
  pub count_is : length goals ≡ length it.ranks.items
