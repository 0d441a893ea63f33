-- What is still to be done of a walk: what each thing asks for, where it leads, and where all of them lead.
use Rattle.std.specs.Prelude.{◌≡◌, ◌<◌, ◌+◌, ◌≤◌, ◌++◌, ⊤, ℕ, Option, None, Some, List, [], ◌∷◌, IfSome, length, take}
use Rattle.std.specs.Option.{option_map}
use Rattle.std.specs.declared.vec.Vec.{Vec}
use Rattle.std.specs.declared.alloc.Global.{Global}
use Rattle.tm_syntax.specs.declared.design.Ty.{Ty}
use Rattle.tm_syntax.specs.declared.tree.Ident.{Ident}
use Rattle.tm_syntax.specs.declared.tree.Stmt.{Stmt}
use Rattle.tm_syntax.specs.declared.tree.TaskDef.{TaskDef}
use Rattle.tm_syntax.specs.Tree.{ExprTree, StmtRow, StmtTree, alternatives_of, row_of}
use Rattle.tm_syntax.specs.Tree.View.{expr_tree, stmt_trees}
use Rattle.tm_syntax.specs.Design.{DesignTree}
use Rattle.tm_scope.specs.Cells.{HasCells, scope_of}
use Rattle.tm_term.specs.Table.{IsSound}
use Rattle.tm_design.specs.Typed.{HasTypeAt}
use Rattle.tm_flat.specs.Fitting.{BlocksFit, BodyFits, ChoiceFits}
use Rattle.tm_flat.specs.Inputs.{room}
use Rattle.tm_flat.specs.Positions.{body_after, choice_bits}
use Rattle.tm_flat_stmts.specs.Flows.{FlowTerms, IsFlow}
use Rattle.tm_flat_stmts.specs.Targets.{HasTargetAt}
use Rattle.tm_flat_stmts.specs.Places.{IsPlace}
use Rattle.tm_flat_stmts.specs.declared.places.TargetPlace.{TargetPlace}
use Rattle.tm_flat_bodies.specs.declared.alternatives.Choice.{Choice}
use Rattle.tm_flat_bodies.specs.declared.called.CalledTask.{CalledTask}
use Rattle.tm_flat_bodies.specs.declared.course.Course.{Course}
use Rattle.tm_flat_bodies.specs.declared.stand.Stand.{Stand}
use Rattle.tm_flat_bodies.specs.declared.waiting.Todo.{Todo}
use Rattle.tm_flat_bodies.specs.declared.waiting.Todo.TheVariants as todo
use Rattle.tm_flat_bodies.specs.declared.waiting.Home.{Home}
use Rattle.tm_flat_bodies.specs.declared.waiting.Spot.{Spot}
use Rattle.tm_flat_bodies.specs.Asked.{BlocksAreTyped}
use Rattle.tm_flat_bodies.specs.Inner.Alternatives.{BlocksSoFar, block_rows}
use Rattle.tm_flat_bodies.specs.Inner.Passing.{Answers, JoinsFlows}
use Rattle.tm_flat_bodies.specs.Inner.Places.{IsHome, IsThere, row_tree, stand_at, stand_of}
use Rattle.tm_flat_bodies.specs.Inner.Weights.{weights}
use Rattle.tm_flat_bodies.specs.Walks.{InEach, IsStand, IsStanding, RowLeads, RowWalks, StmtLeads, WalkTables}

-- what a statement leads to, as a goal
abbrev pub StmtGoal : WalkTables → Stand → StmtTree → Course → FlowTerms → Course → Option FlowTerms → Type 0
StmtGoal w f s from flow now g = StmtLeads w f s from now flow g

-- what a row leads to, as a goal
abbrev pub RowGoal : WalkTables → Stand → StmtRow → Course → FlowTerms → Course → Option FlowTerms → Type 0
RowGoal w f row from flow now g = RowLeads w f row from now flow g

-- nothing was done, and a run goes on in this flow
pub record GoesOn (from : Course) (f : Option FlowTerms) (now : Course) (g : Option FlowTerms) : Type 0 where
  pub course : now ≡ from
  pub flow : g ≡ f

-- the second row of an `if` leads on from its runs, and those behind both rows are one
pub record LeadsSecond (w : WalkTables) (f : Stand) (second : StmtRow) (other : FlowTerms) (from : Course)
    (left : Option FlowTerms) (now : Course) (g : Option FlowTerms) : Type 0 where
  pub mid : Course
  pub right : Option FlowTerms
  pub leads : RowLeads w f second from mid other right
  pub joins : JoinsFlows mid now left right g

-- where the alternatives before a number have been led through, all have been
abbrev pub LeadsOthers : WalkTables → Stand → Choice → ℕ → List (Vec Stmt Global) → Course → Option FlowTerms → Course →
    Option FlowTerms → Type 0
LeadsOthers w f choice index blocks from joined now g =
    (begun : Course) (flow : FlowTerms) →
    BlocksSoFar w f (length blocks) begun flow choice (take index (block_rows blocks)) from joined →
    BlocksSoFar w f (length blocks) begun flow choice (block_rows blocks) now g

-- what a called task returns is put where a target is
pub record LeadsAnswer (f : Stand) (names : List Ident) (place : TargetPlace) (called : CalledTask) (from : Course)
    (left : FlowTerms) (now : Course) (g : Option FlowTerms) : Type 0 where
  pub behind : FlowTerms
  pub is : g ≡ Some behind
  pub answers : Answers f.reader names place called from now left behind

-- where something that waits leads from where runs stand, if there are some
abbrev pub Does : WalkTables → Stand → Todo → Course → Option FlowTerms → Course → Option FlowTerms → Type 0
Does w start (todo.Row spot row) from None = GoesOn from None
Does w start (todo.Row spot row) from (Some flow) =
    RowGoal w (stand_at w start spot) (row_tree row) from flow
Does w start (todo.Second spot second other) from left =
    LeadsSecond w (stand_at w start spot) (row_of (stmt_trees second.now)) other from left
Does w start (todo.Join left) from right = λ now g. JoinsFlows from now left right g
Does w start (todo.Loop after) from left = GoesOn from after
Does w start (todo.Alternatives spot choice index blocks) from joined =
    LeadsOthers w (stand_at w start spot) choice index blocks.now from joined
Does w start (todo.Answer spot home task path place) from None = GoesOn from None
Does w start (todo.Answer spot home task path place) from (Some left) =
    LeadsAnswer (stand_at w start spot) path.now place (record { stand = stand_of w home; task = task }) from left

-- a row may be walked in a spot
pub record RowWalksAt (w : WalkTables) (start : Stand) (spot : Spot) (row : StmtRow) (now : Course)
    (flow : FlowTerms) : Type 0 where
  pub there : IsThere w spot
  pub walks : RowWalks w (stand_at w start spot) row now flow

-- the second row of an `if` may be walked from its runs
pub record SecondWalks (w : WalkTables) (start : Stand) (spot : Spot) (second : StmtRow) (other : FlowTerms)
    (now : Course) (left : Option FlowTerms) : Type 0 where
  pub row : RowWalksAt w start spot second now other
  pub joins : IfSome left (IsFlow w.tables now.terms)

-- two flows may be joined
pub record MayJoin (w : WalkTables) (now : Course) (left right : Option FlowTerms) : Type 0 where
  pub sound : IsSound now.terms
  pub joins : IfSome left (IsFlow w.tables now.terms)
  pub joined : IfSome right (IsFlow w.tables now.terms)

-- the alternatives from a number on may be walked, behind those before it
pub record OthersWalk (w : WalkTables) (start : Stand) (spot : Spot) (choice : Choice) (index : ℕ)
    (blocks : List (Vec Stmt Global)) (now : Course) (joined : Option FlowTerms) : Type 0 where
  pub there : IsThere w spot
  pub stand : IsStand w (stand_at w start spot)
  pub begun : Course
  pub flow : FlowTerms
  pub so_far : BlocksSoFar w (stand_at w start spot) (length blocks) begun flow choice (take index (block_rows blocks))
      now joined
  pub typed : BlocksAreTyped (stand_at w start spot).reader (alternatives_of (block_rows blocks))
  pub fits : InEach w (λ d. ChoiceFits (alternatives_of (block_rows blocks))
      × (flow.position + choice_bits (alternatives_of (block_rows blocks)) ≤ room)
      × BlocksFit room (body_after (stand_at w start spot).depth d) (BodyFits room (stand_at w start spot).depth d) d
      (scope_of (stand_at w start spot).reader.at) (alternatives_of (block_rows blocks))
      (flow.position + choice_bits (alternatives_of (block_rows blocks))))

-- what a called task returns may be put where a target is
pub record MayAnswer (w : WalkTables) (start : Stand) (spot : Spot) (home : Home) (task : TaskDef) (names : List Ident)
    (place : TargetPlace) (now : Course) (left : FlowTerms) : Type 0 where
  pub there : IsThere w spot
  pub stand : IsStand w (stand_at w start spot)
  pub called : IsHome w home
  pub ty : Ty
  pub target : HasTargetAt (stand_at w start spot).reader ty names
  pub typed : (e : ExprTree) → option_map expr_tree task.body.answer ≡ Some e →
      HasTypeAt (stand_of w home).reader ty e
  pub known : IsPlace now.terms place
  pub standing : IsStanding w now left

-- what something that waits asks for where runs stand, if there are some
abbrev pub Asks : WalkTables → Stand → Todo → Course → Option FlowTerms → Type 0
Asks w start (todo.Row spot row) now None = ⊤
Asks w start (todo.Row spot row) now (Some flow) = RowWalksAt w start spot (row_tree row) now flow
Asks w start (todo.Second spot second other) now left =
    SecondWalks w start spot (row_of (stmt_trees second.now)) other now left
Asks w start (todo.Join left) now right = MayJoin w now left right
Asks w start (todo.Loop after) now left = ⊤
Asks w start (todo.Alternatives spot choice index blocks) now joined =
    OthersWalk w start spot choice index blocks.now now joined
Asks w start (todo.Answer spot home task path place) now None = ⊤
Asks w start (todo.Answer spot home task path place) now (Some left) =
    MayAnswer w start spot home task.now path.now place now left

-- all that waits leads to a goal, one thing after the other
abbrev pub LeadsTo : WalkTables → Stand → List Todo → Course → Option FlowTerms →
    (Course → Option FlowTerms → Type 0) → Type 0
LeadsTo w start [] now here goal = goal now here
LeadsTo w start (t ∷ ts) now here goal =
    Asks w start t now here × ((end : Course) (g : Option FlowTerms) → Does w start t now here end g →
    LeadsTo w start ts end g goal)

-- a step towards a goal: what waits in front of what waited before leads there, in fewer than so many steps
pub record StepsTo (w : WalkTables) (start : Stand) (goal : Course → Option FlowTerms → Type 0)
    (most : DesignTree → ℕ) (before after : List Todo) (now : Course) (here : Option FlowTerms) : Type 0 where
  pub front : List Todo
  pub waits : after ≡ front ++ before
  pub leads : LeadsTo w start front now here goal
  pub fewer : (d : DesignTree) → HasCells w.tables d → weights d w start front < most d
