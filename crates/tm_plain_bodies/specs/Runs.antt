-- What a machine does within a run of a design: from what it keeps before some work to what it keeps behind it.
use Rattle.std.specs.Prelude.{◌≡◌, ℕ, ⊤, Bool, false, Option, None, Some, Result, Ok, Err, List, [], ◌∷◌, ◌++◌, map}
use Rattle.std.specs.List.{list_any}
use Rattle.std.specs.Option.{option_map, option_and_then}
use Rattle.tm_base.specs.declared.place.Place.{Place}
use Rattle.tm_syntax.specs.declared.design.Ty.{Ty}
use Rattle.tm_syntax.specs.declared.tree.Ident.{Ident}
use Rattle.tm_syntax.specs.Tree.{BodyTree, ExprTree, StmtTree, StmtRow, path, element, row_of, alternatives_of}
use Rattle.tm_syntax.specs.Scopes.Context.{Context}
use Rattle.tm_syntax.specs.Scopes.Crossing.{stmt_crosses, row_crosses, call_crosses}
use Rattle.tm_syntax.specs.Scopes.Types.{named_type}
use Rattle.tm_syntax.specs.Design.{DesignTree}
use Rattle.tm_syntax.specs.Design.Scope.{context}
use Rattle.tm_syntax.specs.Design.Cells.{cell}
use Rattle.tm_syntax.specs.Design.Work.{WorkItem, body_items, perform}
use Rattle.tm_scope.specs.Cells.{CellTables, HasCells, IsCellNumber, ScopedCells, cell_at, scope_of}
use Rattle.tm_scope.specs.declared.cells.site_body.CellNumber.{CellNumber}
use Rattle.tm_typing.specs.HasType.{HasType}
use Rattle.tm_typing.specs.Statements.{TargetResolves}
use Rattle.tm_sem.specs.Value.{Memory, index_value, overruns}
use Rattle.tm_sem.specs.Run.{stopped, failed, blocked, target_element}
use Rattle.tm_plain_bodies.specs.declared.course.Course.{Course}
use Rattle.tm_plain_bodies.specs.declared.halt.Halt.{Halt}
use Rattle.tm_plain_bodies.specs.declared.halt.Halt.TheVariants as halt
use Rattle.tm_plain_bodies.specs.Going.{GoesOn, EndsWithin}
use Rattle.tm_design.specs.StepCells.{AreApart}
use Rattle.tm_plain_exprs.specs.Kept.{Kept, Keeps}
use Rattle.tm_states.specs.Promised.{StmtIsPromised, RowIsPromised, BlocksArePromised}
use Rattle.tm_design.specs.Runnable.{HasTypedCells}
use Rattle.tm_design.specs.Typed.{context_at}
use Rattle.tm_plain_exprs.specs.Valued.{IsValued, Overruns, Told}

-- a design and a memory, of which a machine has the tables and keeps the values; the parameters and locals of each body
-- have names of their own, and cells have their types
pub record Stands (x : CellTables) (k : Kept) : Type 0 where
  pub design : DesignTree
  pub memory : Memory
  pub cells : HasCells x design
  pub keeps : Keeps x k memory
  pub apart : AreApart x
  pub typed : HasTypedCells design

-- as the expressions of a body see it
abbrev pub told : (s : ScopedCells) (k : Kept) → Stands s.tables k → Told s k
told s k o = record { design = o.design; memory = o.memory; cells = o.cells; keeps = o.keeps }

-- a machine gets through some items, and with the choices that it takes so does each run
pub record GetsThrough (x : CellTables) (items : List WorkItem) (from to : Course) : Type 0 where
  pub trail : to.trail ≡ from.trail
  pub goes : (o : Stands x from.store) →
      (m : Memory) × Keeps x to.store m × GoesOn o.design items o.memory m from.choices to.choices

-- a machine halts within some items, where each run ends; of want of memory nothing is said
abbrev pub HaltsWithin : CellTables → List WorkItem → Course → Course → Halt → Type 0
HaltsWithin x items from to (halt.Stopped at) =
    (o : Stands x from.store) →
    (m : Memory) × Keeps x to.store m × EndsWithin o.design items o.memory from.choices (stopped at to.trail m)
HaltsWithin x items from to halt.Failed =
    (o : Stands x from.store) → EndsWithin o.design items o.memory from.choices failed
HaltsWithin x items from to halt.Blocked =
    (o : Stands x from.store) → EndsWithin o.design items o.memory from.choices blocked
HaltsWithin x items from to halt.Memory = ⊤

-- a machine does some items: it gets through them, or halts within them
abbrev pub Does : {A : Type 0} → CellTables → List WorkItem → Course → Course → Result A Halt → Type 0
Does x items from to (Ok done) = GetsThrough x items from to
Does x items from to (Err h) = HaltsWithin x items from to h

-- statements of a body of an instance, reached by a trail of calls
abbrev pub items_of : ScopedCells → List Place → List StmtTree → List WorkItem
items_of s trail stmts = map (perform (scope_of s.at) trail) stmts

-- those of a body
abbrev pub body_work : ScopedCells → List Place → BodyTree → List WorkItem
body_work s trail body = body_items (scope_of s.at) trail body

-- one statement
abbrev pub item_of : ScopedCells → List Place → StmtTree → List WorkItem
item_of s trail stmt = perform (scope_of s.at) trail stmt ∷ []

-- a course whose trail has further calls behind it
abbrev pub behind : List Place → Course → Course
behind calls c = record c { trail = c.trail ++ calls }

-- a machine does a statement, whatever calls have led to where its trail begins
abbrev pub DoesStmt : {A : Type 0} → ScopedCells → StmtTree → Course → Course → Result A Halt → Type 0
DoesStmt s stmt from to r =
    (calls : List Place) → Does s.tables (item_of s (from.trail ++ calls) stmt) (behind calls from) (behind calls to) r

-- a machine does a row, whatever calls have led to where its trail begins
abbrev pub DoesRow : {A : Type 0} → ScopedCells → List StmtTree → Course → Course → Result A Halt → Type 0
DoesRow s stmts from to r =
    (calls : List Place) →
    Does s.tables (items_of s (from.trail ++ calls) stmts) (behind calls from) (behind calls to) r

-- a machine does a body that a trail has reached, whatever calls have led to where the trail begins
abbrev pub DoesBody : {A : Type 0} → ScopedCells → List Place → BodyTree → Course → Course → Result A Halt → Type 0
DoesBody s trail body from to r =
    (calls : List Place) →
    Does s.tables (body_work s (trail ++ calls) body) (behind calls from) (behind calls to) r

-- a statement of a body of an instance is promised with all that stand within it
pub record StmtAt (s : ScopedCells) (stmt : StmtTree) : Type 0 where
  pub context : Context
  pub stands : context_at s ≡ Some context
  pub promised : StmtIsPromised context stmt

-- a row of a body of an instance is promised with all that stand within it
pub record RowAt (s : ScopedCells) (stmts : List StmtTree) : Type 0 where
  pub context : Context
  pub stands : context_at s ≡ Some context
  pub promised : RowIsPromised context (row_of stmts)

-- blocks of a body of an instance are promised with all that stand within them
pub record BlocksAt (s : ScopedCells) (blocks : List StmtRow) : Type 0 where
  pub context : Context
  pub stands : context_at s ≡ Some context
  pub promised : BlocksArePromised context (alternatives_of blocks)

-- whether a path calls a body that is sure to cross a location, from where a text stands
abbrev pub crossing : Context → List Ident → Bool
crossing c names = call_crosses c.spec c.template names

-- a statement is not sure to cross, as none that a run gets through is
abbrev pub StmtMayPass : ScopedCells → StmtTree → Type 0
StmtMayPass s stmt = (c : Context) → context_at s ≡ Some c → stmt_crosses (crossing c) stmt ≡ false

-- a row is not sure to cross, as no row that a run gets through is
abbrev pub RowMayPass : ScopedCells → List StmtTree → Type 0
RowMayPass s stmts = (c : Context) → context_at s ≡ Some c → row_crosses (crossing c) (row_of stmts) ≡ false

-- an end of a run counts only where no choices are left
abbrev pub at_end : List ℕ → Halt → Halt
at_end [] h = h
at_end (c ∷ cs) h = halt.Blocked

-- only what is kept in the buffer may have changed
pub record IsSame (from to : Course) : Type 0 where
  pub store : to.store ≡ from.store
  pub trail : to.trail ≡ from.trail
  pub choices : to.choices ≡ from.choices

-- a machine halts at an expression: it overruns, or memory is wanting
abbrev pub HaltsAt : ScopedCells → Course → ExprTree → Halt → Type 0
HaltsAt s from e halt.Memory = ⊤
HaltsAt s from e h = Overruns s from.store e × (h ≡ at_end from.choices halt.Failed)

-- the cell that a target means, whose index is within its array
pub record IsTarget (s : ScopedCells) (k : Kept) (names : List Ident) (index : Option ExprTree)
    (found : Option CellNumber) : Type 0 where
  pub is_there : IsCellNumber s.tables s.at found
  pub cell : (of : Told s k) → option_and_then (cell_at s.tables s.at) found
      ≡ cell of.design (scope_of s.at) names (option_map (index_value of.design (scope_of s.at) of.memory) index)
  pub within : (of : Told s k) →
      list_any (overruns of.design (scope_of s.at) of.memory) (target_element names index) ≡ false

-- the target of an assignment resolves where it stands
pub record TargetAt (s : ScopedCells) (names : List Ident) (index : Option ExprTree) : Type 0 where
  pub context : Context
  pub stands : context_at s ≡ Some context
  pub resolves : TargetResolves context names index

-- a machine halts at a target: its element overruns, or memory is wanting
abbrev pub HaltsAtTarget : ScopedCells → Course → List Ident → Option ExprTree → Halt → Type 0
HaltsAtTarget s from names None h = h ≡ halt.Memory
HaltsAtTarget s from names (Some e) h = HaltsAt s from (element names e) h

-- an expression has the type of what a path means
pub record HasTargetType (s : ScopedCells) (names : List Ident) (e : ExprTree) : Type 0 where
  pub context : Context
  pub stands : context_at s ≡ Some context
  pub ty : Ty
  pub named : named_type context names ≡ Some ty
  pub typed : HasType context ty e

-- an expression has this value where its place asks for the type of what a path means
pub record IsAssigned (s : ScopedCells) (k : Kept) (names : List Ident) (e : ExprTree) (n : ℕ) : Type 0 where
  pub context : Context
  pub stands : context_at s ≡ Some context
  pub ty : Ty
  pub named : named_type context names ≡ Some ty
  pub valued : IsValued s k ty e n
