-- The alternatives of a choice, led through one after the other.
use Rattle.std.specs.Prelude.{◌≡◌, ◌<◌, ◌+◌, ◌-◌, ◌^◌, ℕ, Option, List, IfSome, map}
use Rattle.std.specs.declared.vec.Vec.{Vec}
use Rattle.std.specs.declared.alloc.Global.{Global}
use Rattle.tm_base.specs.Arithmetic.{IsWidth}
use Rattle.tm_syntax.specs.declared.tree.Stmt.{Stmt}
use Rattle.tm_syntax.specs.Tree.{StmtRow, alternatives_of, row_of}
use Rattle.tm_syntax.specs.Tree.View.{stmt_trees}
use Rattle.tm_syntax.specs.Design.Sizes.{bits_of_number}
use Rattle.tm_scope.specs.Cells.{scope_of}
use Rattle.tm_flat.specs.BitRun.{number_at}
use Rattle.tm_flat.specs.Fitting.{BodyFits, RowFits}
use Rattle.tm_flat.specs.Inputs.{room}
use Rattle.tm_flat.specs.Positions.{body_after}
use Rattle.tm_flat.specs.Steps.{IsTerm}
use Rattle.tm_flat_exprs.specs.Made.{Makes}
use Rattle.tm_flat_stmts.specs.Flows.{FlowTerms, IsFlow}
use Rattle.tm_flat_stmts.specs.Choices.{choice_bit}
use Rattle.tm_flat_bodies.specs.declared.alternatives.Choice.{Choice}
use Rattle.tm_flat_bodies.specs.declared.course.Course.{Course}
use Rattle.tm_flat_bodies.specs.declared.stand.Stand.{Stand}
use Rattle.tm_flat_bodies.specs.Asked.{RowIsTyped}
use Rattle.tm_flat_bodies.specs.Inner.Passing.{IsAlternative, JoinsFlows}
use Rattle.tm_flat_bodies.specs.Walks.{BlocksLead, InEach, IsStand, IsStanding, RowLeads, WalkTables}

-- the blocks of a choice, as rows
abbrev pub block_rows : List (Vec Stmt Global) → List StmtRow
block_rows blocks = map (λ b. row_of (stmt_trees b.items)) blocks

-- the number of one of so many alternatives was read
pub record EntersChoice (w : WalkTables) (count : ℕ) (from now : Course) (f : FlowTerms) (read : Choice) : Type 0 where
  pub width : read.width ≡ bits_of_number (count - 1)
  pub is_width : IsWidth read.width
  pub flow : read.flow ≡ record { guard = f.guard; memory = f.memory; position = f.position + read.width }
  pub number : Makes from.terms now.terms read.width read.number
      (λ u v. number_at (choice_bit w.first v) f.position read.width)
  pub ends : now.ends ≡ from.ends

-- the number of an alternative
abbrev pub chosen_by : WalkTables → FlowTerms → Choice → List ℕ → ℕ
chosen_by w flow read v = number_at (choice_bit w.first v) flow.position read.width

-- these alternatives have been led through
pub record BlocksSoFar (w : WalkTables) (f : Stand) (count : ℕ) (from : Course) (flow : FlowTerms) (read : Choice)
    (bs : List StmtRow) (now : Course) (joined : Option FlowTerms) : Type 0 where
  pub start : Course
  pub enters : EntersChoice w count from start flow read
  pub leads : BlocksLead w f (alternatives_of bs) (chosen_by w flow read) start now read.flow joined
  pub standing : IsStanding w now read.flow

-- one more alternative may be led through
pub record AlternativeWalks (w : WalkTables) (f : Stand) (row : StmtRow) (read : Choice) (index : ℕ) (now : Course)
    (joined : Option FlowTerms) : Type 0 where
  pub stand : IsStand w f
  pub typed : RowIsTyped f.reader row
  pub fits : InEach w (λ d.
      RowFits room (body_after f.depth d) (BodyFits room f.depth d) d (scope_of f.reader.at) row read.flow.position)
  pub standing : IsStanding w now read.flow
  pub is_width : IsWidth read.width
  pub within : index < 2 ^ read.width
  pub term : IsTerm now.terms read.width read.number
  pub before : IfSome joined (IsFlow w.tables now.terms)

-- one more was led through, beside those that were
pub record LeadsBeside (w : WalkTables) (f : Stand) (row : StmtRow) (read : Choice) (index : ℕ) (from now : Course)
    (joined g : Option FlowTerms) : Type 0 where
  pub begun : Course
  pub ended : Course
  pub here : FlowTerms
  pub left : Option FlowTerms
  pub chosen : IsAlternative from begun read.flow read.number index here
  pub leads : RowLeads w f row begun ended here left
  pub joins : JoinsFlows ended now joined left g
