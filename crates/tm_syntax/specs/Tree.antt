-- The syntax tree of a specification as contracts see it: plain data, with a list in the place of each vector.
-- Identifiers, numbers, operators, type names and places are the code's own types, which are plain data already.
pub mod View
use Rattle.std.specs.Prelude.{Bool, Option, List, [], ◌∷◌}
use Rattle.tm_base.specs.declared.place.Place.{Place}
use Rattle.tm_syntax.specs.declared.tree.Ident.{Ident}
use Rattle.tm_syntax.specs.declared.tree.Num.{Num}
use Rattle.tm_syntax.specs.declared.tree.TypeName.{TypeName}
use Rattle.tm_syntax.specs.declared.tree.TaskKind.{TaskKind}
use Rattle.tm_syntax.specs.declared.tree.Param.{Param}
use Rattle.tm_syntax.specs.declared.tree.Port.{Port}
use Rattle.tm_syntax.specs.declared.tree.UnaryOperator.{UnaryOperator}
use Rattle.tm_syntax.specs.declared.tree.BinaryOperator.{BinaryOperator}
use Rattle.tm_base.specs.declared.shift_operator.ShiftOperator.{ShiftOperator}

-- an expression
pub data ExprTree : Type 0 where
  truth : Place → Bool → ExprTree
  number : Num → ExprTree
  path : List Ident → ExprTree
  group : Place → ExprTree → ExprTree
  unary : Place → UnaryOperator → ExprTree → ExprTree
  binary : Place → BinaryOperator → ExprTree → ExprTree → ExprTree
  shift : Place → ShiftOperator → ExprTree → Num → ExprTree
  conditional : Place → ExprTree → ExprTree → ExprTree → ExprTree
  cast : Place → Num → ExprTree → ExprTree
  element : List Ident → ExprTree → ExprTree

-- what is assigned: any value of the type, a procedure's result, or the value of an expression
pub data ValueTree : Type 0 where
  star : Place → ValueTree
  result : List Ident → List ExprTree → ValueTree
  plain : ExprTree → ValueTree

-- a statement; its blocks are rows of statements, and its alternatives rows of blocks
mutual
  pub data StmtTree : Type 0 where
    assign : List Ident → Option ExprTree → ValueTree → StmtTree
    invoke : List Ident → List ExprTree → StmtTree
    branch : ExprTree → StmtRow → StmtRow → StmtTree
    repeat : Place → ExprTree → StmtRow → StmtTree
    forever : Place → StmtRow → StmtTree
    choose : Place → BlockRow → StmtTree
    assert : Place → ExprTree → StmtTree
    assume : Place → ExprTree → StmtTree
    pause : Place → StmtTree
    wait : Place → ExprTree → StmtTree
    magic : Place → StmtTree

  -- statements in a row
  pub data StmtRow : Type 0 where
    nothing : StmtRow
    then : StmtTree → StmtRow → StmtRow

  -- blocks in a row
  pub data BlockRow : Type 0 where
    nowhere : BlockRow
    or_else : StmtRow → BlockRow → BlockRow

-- the statements of a row, as a list
abbrev pub stmts_of : StmtRow → List StmtTree
stmts_of nothing = []
stmts_of (then s ss) = s ∷ stmts_of ss

-- the row of a list of statements
abbrev pub row_of : List StmtTree → StmtRow
row_of [] = nothing
row_of (s ∷ ss) = then s (row_of ss)

-- the blocks of a row, as a list
abbrev pub blocks_of : BlockRow → List StmtRow
blocks_of nowhere = []
blocks_of (or_else b bs) = b ∷ blocks_of bs

-- the row of a list of blocks
abbrev pub alternatives_of : List StmtRow → BlockRow
alternatives_of [] = nowhere
alternatives_of (b ∷ bs) = or_else b (alternatives_of bs)

-- the declaration of a local, with the value that it assigns
pub record LocalTree : Type 0 where
  pub ty : TypeName
  pub name : Ident
  pub value : ValueTree

-- a body: its locals, its statements, and the expression that a procedure returns
pub record BodyTree : Type 0 where
  pub locals : List LocalTree
  pub stmts : List StmtTree
  pub answer : Option ExprTree

-- a template variable, or an array
pub record VarTree : Type 0 where
  pub ty : TypeName
  pub name : Ident
  pub size : Option Num
  pub init : Option ExprTree

-- a goal or a fairness condition
pub record NamedTree : Type 0 where
  pub name : Ident
  pub expr : ExprTree

-- a process, lazy or not
pub record ProcessTree : Type 0 where
  pub lazy : Bool
  pub name : Ident
  pub body : BodyTree

-- a task or a procedure
pub record TaskTree : Type 0 where
  pub kind : TaskKind
  pub name : Ident
  pub params : List Param
  pub body : BodyTree

-- the declaration of an instance, with the names that its ports stand for
pub record InstanceTree : Type 0 where
  pub template : Ident
  pub name : Ident
  pub args : List Ident

-- an enum with its constants
pub record EnumTree : Type 0 where
  pub name : Ident
  pub constants : List Ident

-- a template with all that it declares
pub record TemplateTree : Type 0 where
  pub name : Ident
  pub ports : List Port
  pub instances : List InstanceTree
  pub vars : List VarTree
  pub goals : List NamedTree
  pub fairs : List NamedTree
  pub processes : List ProcessTree
  pub tasks : List TaskTree

-- a whole specification
pub record SpecTree : Type 0 where
  pub enums : List EnumTree
  pub templates : List TemplateTree
