-- How arguments are passed to a called task, and what it hands back.
use Rattle.std.specs.Prelude.{◌≡◌, ◌==◌, ◌++◌, ℕ, false, suc, Option, None, Some, List, [], ◌∷◌, map, if◌then◌else◌}
use Rattle.std.specs.List.{AllZip, fold, list_any, zip}
use Rattle.tm_base.specs.declared.place.Place.{Place}
use Rattle.tm_syntax.specs.declared.design.Ty.{Ty}
use Rattle.tm_syntax.specs.declared.tree.Ident.{Ident}
use Rattle.tm_syntax.specs.declared.tree.Param.{Param}
use Rattle.tm_syntax.specs.declared.tree.TaskDef.{TaskDef}
use Rattle.tm_syntax.specs.Tree.{ExprTree, LocalTree, StmtTree, assign}
use Rattle.tm_syntax.specs.Tree.View.{body_tree, spec_tree}
use Rattle.tm_syntax.specs.Scopes.Names.{type_of}
use Rattle.tm_syntax.specs.Design.{DesignTree}
use Rattle.tm_syntax.specs.Design.Cells.{Called, Cell}
use Rattle.tm_syntax.specs.Design.Sizes.{type_bits}
use Rattle.tm_syntax.specs.Design.Work.{call_place}
use Rattle.tm_scope.specs.Cells.{CellTables, HasCells, ScopedCells, cell_at, scope_of}
use Rattle.tm_scope.specs.declared.cells.site_body.CellNumber.{CellNumber}
use Rattle.tm_scope.specs.declared.cells.site_body.SiteBody.{SiteBody}
use Rattle.tm_term.specs.declared.term.TermId.{TermId}
use Rattle.tm_term.specs.Table.{Table}
use Rattle.tm_term.specs.Value.{value_of}
use Rattle.tm_sem.specs.Value.{Memory, overruns, put}
use Rattle.tm_sem.specs.Run.{failed, finished, with_arguments}
use Rattle.tm_design.specs.Parameters.{called_by}
use Rattle.tm_flat.specs.BitRun.{returns}
use Rattle.tm_flat.specs.Fitting.{BodyFits, CallFits}
use Rattle.tm_flat.specs.Inputs.{room}
use Rattle.tm_flat.specs.Steps.{IsTerm}
use Rattle.tm_flat.specs.Writes.{is_variable}
use Rattle.tm_flat_exprs.specs.Kept.{KeptTerms, Keeps, type_at}
use Rattle.tm_design.specs.StepCells.{AreApart}
use Rattle.tm_flat_exprs.specs.Merged.{IsMemory}
use Rattle.tm_flat_stmts.specs.Flows.{FlowTerms, HasTerm, LeadsOn, MakesJoinIfThere, Narrows}
use Rattle.tm_flat_stmts.specs.Statements.{Asks, HasValue}
use Rattle.tm_flat_stmts.specs.declared.places.TargetPlace.{TargetPlace}
use Rattle.tm_flat_stmts.specs.Places.{place_cell, place_writes}
use Rattle.tm_flat_bodies.specs.declared.arguments.Arguments.{Arguments}
use Rattle.tm_flat_bodies.specs.declared.called.CalledTask.{CalledTask}
use Rattle.tm_flat_bodies.specs.declared.course.Course.{Course}
use Rattle.tm_flat_bodies.specs.declared.stand.Stand.{Stand}
use Rattle.tm_design.specs.Callees.{IsCallee}
use Rattle.tm_flat_bodies.specs.Walks.{InEach, IsStand, IsTrailOf, WalkTables}

-- a path that may be called: it leads to a task, and calls nest deep enough
pub record CallWalks (w : WalkTables) (f : Stand) (names : List Ident) : Type 0 where
  pub stand : IsStand w f
  pub at : SiteBody
  pub task : TaskDef
  pub is : IsCallee f.reader.tables f.reader.at names at task
  pub from : ℕ
  pub fits : InEach w (λ d. CallFits (BodyFits room f.depth d) d (scope_of f.reader.at) names from)

-- the declarations of locals, as the assignments that they are
abbrev pub local_stmts : List LocalTree → List StmtTree
local_stmts ls = map (λ l. assign (l.name ∷ []) None l.value) ls

-- the task that a path calls, where its body is walked
pub record IsCalled (w : WalkTables) (f : Stand) (names : List Ident) (called : CalledTask) : Type 0 where
  pub callee : IsCallee w.tables f.reader.at names called.stand.reader.at called.task.now
  pub tables : called.stand.reader.tables ≡ w.tables
  pub depth : f.depth ≡ suc called.stand.depth
  pub trail : (calls : List Place) → IsTrailOf w.locations f.trail calls →
      IsTrailOf w.locations called.stand.trail (call_place names ++ calls)

-- a term has the value of an argument, which is asked for its parameter's type
abbrev pub HasArgument : ScopedCells → KeptTerms → Table → Param × ExprTree → TermId → Type 0
HasArgument s k n p id = HasValue s k (type_of p.0.ty) p.1 n id

-- terms have the values of arguments
abbrev pub HaveArguments : ScopedCells → KeptTerms → Table → List Param → List ExprTree → List TermId → Type 0
HaveArguments s k n params args ids = AllZip (HasArgument s k n) (zip params args) ids

-- arguments were valued, and their terms made
pub record AsksAll (s : ScopedCells) (params : List Param) (args : List ExprTree) (from now : Course) (f : FlowTerms)
    (found : Arguments) : Type 0 where
  pub asks : Asks s args from.terms now.terms f from.ends found.flow now.ends
  pub values : HaveArguments s f.memory now.terms params args found.values.items

-- one more was
pub record AsksMore (s : ScopedCells) (ty : Ty) (e : ExprTree) (from now : Course) (so_far found : Arguments) : Type 0
  where
    pub asks : Asks s (e ∷ []) from.terms now.terms so_far.flow from.ends found.flow now.ends
    pub id : TermId
    pub valued : HasValue s so_far.flow.memory ty e now.terms id
    pub pushed : found.values.items ≡ so_far.values.items ++ id ∷ []

-- the memory after values were put into cells, one after the other
abbrev pub put_all : Memory → List Cell → List ℕ → Memory
put_all m cells values = fold (λ so_far p. put so_far p.0 p.1) m (zip cells values)

-- a term has the bits of the cell of a number
abbrev pub FitsCell : CellTables → SiteBody → Table → CellNumber → TermId → Type 0
FitsCell x at t number id =
    (ty : Ty) × (type_at x at number ≡ Some ty) × IsTerm t (type_bits (spec_tree x.spec) ty) id

-- a flow was made of another one: terms were put into the cells of numbers
pub record PutsAll (at : SiteBody) (numbers : List CellNumber) (ids : List TermId) (f g : FlowTerms) : Type 0 where
  pub guard : g.guard ≡ f.guard
  pub position : g.position ≡ f.position
  pub memory : (x : CellTables) (t : Table) → IsMemory x t f.memory → AllZip (FitsCell x at t) numbers ids →
      IsMemory x t g.memory
  pub keeps : (x : CellTables) → AreApart x → (u : Table) (v : List ℕ) (m : Memory) (cells : List Cell) →
      Keeps x u v f.memory m → map (cell_at x at) numbers ≡ map Some cells →
      Keeps x u v g.memory (put_all m cells (map (value_of u v) ids))
  pub leaves : (x : CellTables) (cells : List Cell) → map (cell_at x at) numbers ≡ map Some cells → (i : ℕ)
      (had : TermId) → list_any (is_variable i) cells ≡ false → HasTerm i had f → HasTerm i had g

-- a run enters a called body: it fails where an argument overruns, and else its parameters have got the arguments
abbrev pub Enters : ScopedCells → List ExprTree → SiteBody → Course → Course → FlowTerms → FlowTerms → Type 0
Enters s args at from now f g =
    (d : DesignTree) → HasCells s.tables d → (c : Called) → called_by d at.instance at.body ≡ Some c →
    (number : Place → List Place → Option ℕ) →
    LeadsOn s.tables number
    (λ v m. if list_any (overruns d (scope_of s.at) m) args
    then failed
    else finished (with_arguments d (scope_of s.at) m c.params args)) (Some f.position)
    (λ i. list_any (is_variable i) c.params) from.terms now.terms (Some f) from.ends (Some g) now.ends

-- what a called task returns, if anything, is put where a target is
abbrev pub Answers : ScopedCells → List Ident → TargetPlace → CalledTask → Course → Course → FlowTerms → FlowTerms →
    Type 0
Answers s names place called from now f g =
    (d : DesignTree) → HasCells s.tables d → (c : Called) → c.scope ≡ scope_of called.stand.reader.at →
    c.body ≡ body_tree called.task.now.body → (number : Place → List Place → Option ℕ) →
    LeadsOn s.tables number (λ v. returns d (place_cell from.terms v d (scope_of s.at) names place) c)
    (Some f.position) (λ i. place_writes d (scope_of s.at) i names place) from.terms now.terms (Some f) from.ends
    (Some g) now.ends

-- two flows were made one, and no run has ended
pub record JoinsFlows (from now : Course) (f g joined : Option FlowTerms) : Type 0 where
  pub join : MakesJoinIfThere from.terms now.terms f g joined
  pub ends : now.ends ≡ from.ends

-- a flow was made of another one: of the runs at which a number is this one
pub record IsAlternative (from now : Course) (f : FlowTerms) (id : TermId) (index : ℕ) (g : FlowTerms) : Type 0 where
  pub narrow : Narrows from.terms now.terms f g (λ u v. value_of u v id == index)
  pub ends : now.ends ≡ from.ends
