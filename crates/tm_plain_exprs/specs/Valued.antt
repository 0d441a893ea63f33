-- What a machine finds of an expression in a body of an instance, over what it keeps.
use Rattle.std.specs.Prelude.{◌≡◌, ℕ, Bool, true, false, List}
use Rattle.tm_syntax.specs.declared.design.Ty.{Ty}
use Rattle.tm_syntax.specs.declared.tree.BinaryOperator.{BinaryOperator}
use Rattle.tm_syntax.specs.declared.tree.Ident.{Ident}
use Rattle.tm_syntax.specs.Tree.{ExprTree, element}
use Rattle.tm_syntax.specs.Design.{DesignTree}
use Rattle.tm_syntax.specs.Design.Scope.{operand_type}
use Rattle.tm_scope.specs.Cells.{HasCells, ScopedCells, scope_of}
use Rattle.tm_design.specs.Typed.{HasTypeAt}
use Rattle.tm_typing.specs.HasType.{IsSized}
use Rattle.tm_sem.specs.Value.{Memory, value, overruns, holds_in, index_value}
use Rattle.tm_plain_exprs.specs.Kept.{Kept, Keeps}

-- a design and a memory, of which a machine has the tables and keeps the values
pub record Told (s : ScopedCells) (k : Kept) : Type 0 where
  pub design : DesignTree
  pub memory : Memory
  pub cells : HasCells s.tables design
  pub keeps : Keeps s.tables k memory

-- an expression has this value where its place asks for a type, and does not overrun
pub record IsValued (s : ScopedCells) (k : Kept) (asked : Ty) (e : ExprTree) (n : ℕ) : Type 0 where
  pub value : (of : Told s k) → value of.design (scope_of s.at) of.memory asked e ≡ n
  pub within : (of : Told s k) → overruns of.design (scope_of s.at) of.memory e ≡ false

-- an index has this value, with which its element does not overrun
pub record IsIndex (s : ScopedCells) (k : Kept) (names : List Ident) (e : ExprTree) (n : ℕ) : Type 0 where
  pub value : (of : Told s k) → index_value of.design (scope_of s.at) of.memory e ≡ n
  pub within : (of : Told s k) → overruns of.design (scope_of s.at) of.memory (element names e) ≡ false

-- the operands of an operator have a type, which is the one that it asks them for
pub record IsOperandType (s : ScopedCells) (op : BinaryOperator) (asked : Ty) (a b : ExprTree) (ty : Ty) : Type 0 where
  pub first : HasTypeAt s ty a
  pub second : HasTypeAt s ty b
  pub sized : IsSized ty
  pub meets : (d : DesignTree) → HasCells s.tables d → operand_type d (scope_of s.at) op asked a b ≡ ty

-- an expression overruns
pub record Overruns (s : ScopedCells) (k : Kept) (e : ExprTree) : Type 0 where
  pub is : (of : Told s k) → overruns of.design (scope_of s.at) of.memory e ≡ true

-- whether a condition holds, which does not overrun
pub record Holds (s : ScopedCells) (k : Kept) (e : ExprTree) (truth : Bool) : Type 0 where
  pub holds : (of : Told s k) → holds_in of.design (scope_of s.at) of.memory e ≡ truth
  pub within : (of : Told s k) → overruns of.design (scope_of s.at) of.memory e ≡ false
