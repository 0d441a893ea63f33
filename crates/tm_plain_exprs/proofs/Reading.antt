-- What the tables of a body tell of its names.
use Rattle.std.proofs.Common.{◌≡◌, ℕ, Option, None, Some, List, refl, sym, ap, ◌∙◌, subst}
use Rattle.std.specs.Prelude.{unwrap_or}
use Rattle.std.specs.Option.{option_map, option_and_then}
use Rattle.tm_syntax.specs.declared.tree.Ident.{Ident}
use Rattle.tm_syntax.specs.declared.design.Ty.{Ty}
use Rattle.tm_syntax.specs.declared.design.Ty.TheVariants as types
use Rattle.tm_syntax.specs.declared.tree.BinaryOperator.{BinaryOperator}
use Rattle.tm_syntax.specs.Tree.{ExprTree}
use Rattle.tm_syntax.specs.Scopes.Context.{Context}
use Rattle.tm_syntax.specs.Scopes.Types.{named_type}
use Rattle.tm_syntax.specs.Design.{DesignTree}
use Rattle.tm_syntax.specs.Design.Scope.{context, operand_type}
use Rattle.tm_syntax.specs.Design.Cells.{Cell, cell, cell_type}
use Rattle.tm_scope.specs.Cells.{CellTables, HasCells, ScopedCells, scope_of, cell_at, IsCellNumber}
use Rattle.tm_scope.specs.Types.{ty_of}
use Rattle.tm_scope.specs.declared.types.ExprType.{ExprType}
use Rattle.tm_scope.specs.declared.types.ExprType.TheVariants.{Bool}
use Rattle.tm_scope.specs.declared.cells.site_body.SiteBody.{SiteBody}
use Rattle.tm_scope.specs.declared.cells.site_body.CellNumber.{CellNumber}
use Rattle.tm_sem.specs.Run.{asked_by, put_in}
use Rattle.tm_sem.specs.Value.{Memory, read, put}
use Rattle.tm_design.specs.StepCells.{AreApart}
use Rattle.tm_plain_exprs.specs.Kept.{Kept, Keeps}
use Rattle.tm_design.specs.Typed.{HasTypeAt, context_at}
use Rattle.tm_plain_exprs.specs.Valued.{IsOperandType, Told}
use Rattle.tm_design.proofs.Contexts.{some_design, some_cells, context_is}
use Rattle.tm_design.proofs.OperandParts.{sized_at}

module _ (s v : ScopedCells) (same : s ≡ v) where
  -- the value of a cell that the tables find
  module _ (k : Kept) (names : List Ident) (index : Option ℕ) where
    pub value_in_cell : (at : SiteBody) (n : CellNumber) (value : ℕ) → s.at ≡ at → IsCellNumber s.tables s.at (Some n) →
        ((d : DesignTree) → HasCells s.tables d → option_and_then (cell_at s.tables s.at) (Some n)
        ≡ cell d (scope_of s.at) names index) →
        ((x : CellTables) (m : Memory) (c : Cell) → Keeps x k m → cell_at x at n ≡ Some c → value ≡ read m c) →
        (of : Told v k) → Some value ≡ option_map (read of.memory) (cell of.design (scope_of v.at) names index)
    value_in_cell at n value own there tells reads =
        subst (λ (v : ScopedCells). (of : Told v k) →
        Some value ≡ option_map (read of.memory) (cell of.design (scope_of v.at) names index)) same
        (λ of.
        let here : cell_at s.tables at n ≡ Some there.0 =
        subst (λ a. cell_at s.tables a n ≡ Some there.0) own there.1 in
        ap Some (reads s.tables of.memory there.0 of.keeps here)
        ∙ sym (ap (option_map (read of.memory)) (sym (tells of.design of.cells) ∙ there.1)))

    pub no_cell : ((d : DesignTree) → HasCells s.tables d → option_and_then (cell_at s.tables s.at) None
        ≡ cell d (scope_of s.at) names index) →
        (of : Told v k) → None ≡ option_map (read of.memory) (cell of.design (scope_of v.at) names index)
    no_cell tells =
        subst (λ (v : ScopedCells). (of : Told v k) →
        None ≡ option_map (read of.memory) (cell of.design (scope_of v.at) names index)) same
        (λ of. ap (option_map (read of.memory)) (tells of.design of.cells))

-- the type of what a path means, by the tables
pub named_by_tables : (s v : ScopedCells) → s ≡ v → (found : Option ExprType) (names : List Ident) →
    ((d : DesignTree) → HasCells s.tables d →
    option_map ty_of found ≡ option_and_then (λ c. named_type c names) (context d (scope_of s.at))) →
    (c : Context) → context_at v ≡ Some c → option_map ty_of found ≡ named_type c names
named_by_tables s v same found names tells c stands =
    tells (some_design s.tables) (some_cells s.tables)
    ∙ ap (option_and_then (λ c. named_type c names))
    (context_is s c (ap context_at same ∙ stands) (some_design s.tables) (some_cells s.tables))

-- after a value was put into a cell that is there
pub put_there : (x : CellTables) (at : SiteBody) (old new : Kept) (cell : CellNumber) (value : ℕ) →
    IsCellNumber x at (Some cell) →
    ((x : CellTables) (m : Memory) (c : Cell) → AreApart x → Keeps x old m → cell_at x at cell ≡ Some c →
    Keeps x new (put m c value)) →
    (m : Memory) → AreApart x → Keeps x old m →
    Keeps x new (put_in m (option_and_then (cell_at x at) (Some cell)) value)
put_there x at old new cell value there puts m apart keeps =
    subst (λ o. Keeps x new (put_in m o value)) (sym there.1) (puts x m there.0 apart keeps there.1)

-- the type of the operands of an operator, by the tables
pub operands_by_tables : (s v : ScopedCells) → s ≡ v → (op : BinaryOperator) (asked : Ty) (a b : ExprTree) (ty : Ty) →
    ((d : DesignTree) → HasCells s.tables d → ty ≡ operand_type d (scope_of s.at) op asked a b) →
    HasTypeAt s ty a → HasTypeAt s ty b → IsOperandType v op asked a b ty
operands_by_tables s v same op asked a b ty asks first second =
    subst (λ w. IsOperandType w op asked a b ty) same
    (record { first = first; second = second; sized = sized_at s first; meets = λ d has. sym (asks d has) })

-- the type that a cell asks for, by the tables
unwrapped : (o : Option ExprType) (t : ExprType) → ty_of (unwrap_or o t) ≡ unwrap_or (option_map ty_of o) (ty_of t)
unwrapped None t = refl
unwrapped (Some x) t = refl

pub asked_by_tables : (s v : ScopedCells) → s ≡ v → (cell : CellNumber) (r : Option ExprType) (t : ExprType) →
    ((d : DesignTree) → HasCells s.tables d →
    option_map ty_of r ≡ option_and_then (cell_type d) (cell_at s.tables s.at cell)) → t ≡ unwrap_or r Bool →
    (o : Option CellNumber) → o ≡ Some cell → (d : DesignTree) → HasCells v.tables d →
    ty_of t ≡ asked_by d (option_and_then (cell_at v.tables v.at) o)
asked_by_tables s v same cell r t tells is o there =
    subst (λ (w : ScopedCells). (d : DesignTree) → HasCells w.tables d →
    ty_of t ≡ asked_by d (option_and_then (cell_at w.tables w.at) o)) same
    (λ d has.
    ap ty_of is
    ∙ unwrapped r Bool
    ∙ ap (λ found. unwrap_or found types.Bool) (tells d has)
    ∙ ap (λ n. asked_by d (option_and_then (cell_at s.tables s.at) n)) (sym there))
