-- What is found of an expression in a body of an instance: the term of its value, and the truth that it overruns.
use Rattle.std.specs.Prelude.{◌≡◌, ◌==◌, ℕ, Option, None, Some, List, nat_lt, if◌then◌else◌}
use Rattle.std.specs.Option.{option_map, option_map_or}
use Rattle.tm_syntax.specs.declared.tree.Ident.{Ident}
use Rattle.tm_syntax.specs.declared.design.Ty.{Ty}
use Rattle.tm_syntax.specs.declared.tree.BinaryOperator.{BinaryOperator}
use Rattle.tm_syntax.specs.Tree.{ExprTree}
use Rattle.tm_syntax.specs.Tree.View.{spec_tree}
use Rattle.tm_syntax.specs.Design.{DesignTree}
use Rattle.tm_syntax.specs.Design.Scope.{Scope, operand_type}
use Rattle.tm_syntax.specs.Design.Cells.{Cell, cell, cell_type}
use Rattle.tm_syntax.specs.Design.Sizes.{type_bits, width}
use Rattle.tm_scope.specs.Cells.{HasCells, ScopedCells, cell_at, scope_of}
use Rattle.tm_scope.specs.declared.cells.site_body.CellNumber.{CellNumber}
use Rattle.tm_term.specs.declared.term.TermId.{TermId}
use Rattle.tm_term.specs.Table.{Table, IsSound}
use Rattle.tm_term.specs.Value.{AreInputs, value_of, Extends}
use Rattle.tm_typing.specs.HasType.{IsSized}
use Rattle.tm_design.specs.declared.sorts.OperatorSort.TheVariants.{Conjunction, Disjunction}
use Rattle.tm_design.specs.Sorts.{sort_of}
use Rattle.tm_design.specs.Typed.{HasTypeAt}
use Rattle.tm_sem.specs.Value.{Memory, binary_value, read, value, overruns}
use Rattle.tm_flat.specs.Steps.{IsTerm}
use Rattle.tm_flat_exprs.specs.declared.valued.Valued.{Valued}
use Rattle.tm_flat_exprs.specs.Kept.{KeptTerms, Keeps, AreKept}
use Rattle.tm_flat_exprs.specs.Made.{IsTruth, truth_at}
use Rattle.tm_flat_exprs.specs.Operators.{joined_width}
use Rattle.tm_design.specs.Settled.{AreSettled}

-- the bits of a type
abbrev pub bits_in : ScopedCells → Ty → ℕ
bits_in s ty = type_bits (spec_tree s.tables.spec) ty

-- what the walks of expressions ask for: the cells of the text are settled, and the terms of a table are kept in them
pub record IsReady (s : ScopedCells) (t : Table) (k : KeptTerms) : Type 0 where
  pub settled : (d : DesignTree) → HasCells s.tables d → AreSettled d
  pub sound : IsSound t
  pub kept : AreKept s.tables t k

-- a design and a memory, of which terms over a table have the values
pub record Told (s : ScopedCells) (u : Table) (v : List ℕ) (k : KeptTerms) : Type 0 where
  pub design : DesignTree
  pub memory : Memory
  pub cells : HasCells s.tables design
  pub keeps : Keeps s.tables u v k memory

-- over a table and values of the inputs an expression has the value of a term, and overruns where a truth holds
pub record IsValued (s : ScopedCells) (k : KeptTerms) (asked : Ty) (e : ExprTree) (u : Table) (v : List ℕ)
    (found : Valued) : Type 0 where
  pub value : (of : Told s u v k) → value of.design (scope_of s.at) of.memory asked e ≡ value_of u v found.value
  pub overrun : (of : Told s u v k) → overruns of.design (scope_of s.at) of.memory e ≡ truth_at u v found.overrun

-- of an expression, where its place asks for a type, both were found
pub record Finds (s : ScopedCells) (k : KeptTerms) (asked : Ty) (e : ExprTree) (t n : Table) (found : Valued) :
    Type 0 where
  pub grown : Extends t n
  pub ready : IsReady s n k
  pub value : IsTerm n (bits_in s asked) found.value
  pub overrun : IsTruth n found.overrun
  pub means : (u : Table) → Extends n u → (v : List ℕ) → AreInputs u v → IsValued s k asked e u v found

-- a cell that is found has the type that its place asks for
abbrev pub CellHasType : ScopedCells → List Ident → Option ℕ → Ty → Type 0
CellHasType s names index asked =
    (d : DesignTree) → HasCells s.tables d → (c : Cell) → cell d (scope_of s.at) names index ≡ Some c →
    cell_type d c ≡ Some asked

-- of the cell of a number, the term was found
pub record FindsTerm (s : ScopedCells) (k : KeptTerms) (asked : Ty) (number : CellNumber) (t n : Table) (id : TermId) :
    Type 0 where
  pub grown : Extends t n
  pub ready : IsReady s n k
  pub term : IsTerm n (bits_in s asked) id
  pub value : (u : Table) → Extends n u → (v : List ℕ) → AreInputs u v → (m : Memory) (c : Cell) →
      Keeps s.tables u v k m → cell_at s.tables s.at number ≡ Some c → read m c ≡ value_of u v id

-- of the cell that a path means, the term was found, if there is one
pub record FindsCell (s : ScopedCells) (k : KeptTerms) (asked : Ty) (names : List Ident) (index : Option ℕ)
    (t n : Table) (found : Option TermId) : Type 0 where
  pub grown : Extends t n
  pub ready : IsReady s n k
  pub term : (id : TermId) → found ≡ Some id → IsTerm n (bits_in s asked) id
  pub absent : found ≡ None → (d : DesignTree) → HasCells s.tables d → cell d (scope_of s.at) names index ≡ None
  pub value : (u : Table) → Extends n u → (v : List ℕ) → AreInputs u v → (of : Told s u v k) →
      option_map (read of.memory) (cell of.design (scope_of s.at) names index) ≡ option_map (value_of u v) found

-- the value of an element of an array, 0 where there is none
abbrev pub element_value : DesignTree → Scope → Memory → List Ident → ℕ → ℕ
element_value d scope m names index = option_map_or (read m) (cell d scope names (Some index)) 0

-- of the element of a number, the term was found
pub record FindsElement (s : ScopedCells) (k : KeptTerms) (asked : Ty) (names : List Ident) (index : ℕ) (t n : Table)
    (id : TermId) : Type 0 where
  pub grown : Extends t n
  pub ready : IsReady s n k
  pub term : IsTerm n (bits_in s asked) id
  pub value : (u : Table) → Extends n u → (v : List ℕ) → AreInputs u v → (of : Told s u v k) →
      element_value of.design (scope_of s.at) of.memory names index ≡ value_of u v id

-- of the element that a term numbers, the term was found, by that of the others: it is one more
pub record IsOneMoreElement (s : ScopedCells) (k : KeptTerms) (asked : Ty) (names : List Ident) (number : ℕ)
    (index others : TermId) (t n : Table) (id : TermId) : Type 0 where
  pub grown : Extends t n
  pub ready : IsReady s n k
  pub term : IsTerm n (bits_in s asked) id
  pub value : (u : Table) → Extends n u → (v : List ℕ) → AreInputs u v → (of : Told s u v k) →
      (if value_of u v index == number
      then element_value of.design (scope_of s.at) of.memory names number
      else value_of u v others) ≡ value_of u v id

-- of the element that a term numbers, the term was found, where it is one of so many, and else the number 0
pub record FindsElements (s : ScopedCells) (k : KeptTerms) (asked : Ty) (names : List Ident) (index : TermId)
    (count : ℕ) (t n : Table) (id : TermId) : Type 0 where
  pub grown : Extends t n
  pub ready : IsReady s n k
  pub term : IsTerm n (bits_in s asked) id
  pub value : (u : Table) → Extends n u → (v : List ℕ) → AreInputs u v → (of : Told s u v k) →
      (if nat_lt (value_of u v index) count
      then element_value of.design (scope_of s.at) of.memory names (value_of u v index)
      else 0) ≡ value_of u v id

-- the operands of an operator have a type, which is the one that it asks them for
pub record IsOperandType (s : ScopedCells) (op : BinaryOperator) (asked : Ty) (a b : ExprTree) (ty : Ty) : Type 0 where
  pub first : HasTypeAt s ty a
  pub second : HasTypeAt s ty b
  pub sized : IsSized ty
  pub meets : (d : DesignTree) → HasCells s.tables d → operand_type d (scope_of s.at) op asked a b ≡ ty
  pub conjunction : sort_of op ≡ Conjunction → bits_in s ty ≡ 1
  pub disjunction : sort_of op ≡ Disjunction → bits_in s ty ≡ 1
  pub bits : joined_width (sort_of op) (bits_in s ty) ≡ bits_in s asked
  pub arithmetic : (m n : ℕ) → binary_value op (bits_in s ty) m n ≡ binary_value op (width ty) m n
