-- The atoms of a design's conditions (predicate abstraction): the bool variables and comparisons of which they are
-- made, with every path resolved.
use Rattle.std.specs.Prelude.{ℕ, zero, suc, Bool, true, false, not, ◌&&◌, Option, None, Some, List, [], ◌∷◌, ◌++◌, length, nat_eq, slice_get}
use Rattle.std.specs.Cmp.Lexicographic.{pointwise}
use Rattle.std.specs.Option.{option_map_or}
use Rattle.std.specs.List.{filter, flat_map}
use Rattle.tm_syntax.specs.declared.tree.Ident.{Ident}
use Rattle.tm_syntax.specs.declared.tree.UnaryOperator.{UnaryOperator}
use Rattle.tm_syntax.specs.declared.tree.BinaryOperator.{BinaryOperator}
use Rattle.tm_syntax.specs.declared.tree.BinaryOperator.TheVariants as operator
use Rattle.tm_base.specs.declared.shift_operator.ShiftOperator.{ShiftOperator}
use Rattle.tm_syntax.specs.declared.design.Item.{Item}
use Rattle.tm_syntax.specs.declared.design.Ty.{Ty}
use Rattle.tm_syntax.specs.declared.design.Ty.TheVariants as types
use Rattle.tm_syntax.specs.Tree.{ExprTree, truth, number, path, group, unary, binary, shift, conditional, cast, element, StmtTree, branch, repeat, assert, assume, wait, BodyTree, NamedTree, TemplateTree}
use Rattle.tm_syntax.specs.Tokens.{sign_text}
use Rattle.tm_syntax.specs.Grammar.Expressions.{unary_sign, binary_sign, shift_sign}
use Rattle.tm_syntax.specs.Scopes.Names.{number_of, last_name}
use Rattle.tm_syntax.specs.Scopes.Context.{process_body, task_body, outside}
use Rattle.tm_syntax.specs.Scopes.Types.{either_type}
use Rattle.tm_syntax.specs.Scopes.Pauses.{call_depth}
use Rattle.tm_syntax.specs.Scopes.Parts.{stmts_in, own_calls}
use Rattle.tm_syntax.specs.Design.{DesignTree}
use Rattle.tm_syntax.specs.Design.Scope.{Scope, type_in}
use Rattle.tm_syntax.specs.Design.Cells.{Cell, in_state, in_step, cell, called}

-- an expression without places and parentheses, with its paths resolved and its numbers as values
pub data Resolved : Type 0 where
  a_truth : Bool → Resolved
  a_number : ℕ → Resolved
  -- an enum constant, by its name
  a_constant : List ℕ → Resolved
  -- a state variable, by its number
  a_variable : ℕ → Resolved
  -- a parameter or local that lives for one step
  of_step : Resolved
  a_unary : UnaryOperator → Resolved → Resolved
  a_binary : BinaryOperator → Resolved → Resolved → Resolved
  a_shift : ShiftOperator → Resolved → ℕ → Resolved
  a_choice : Resolved → Resolved → Resolved → Resolved
  a_cast : ℕ → Resolved → Resolved
  -- an element of the array whose first element is the state variable of this number
  an_element : ℕ → Resolved → Resolved

-- what a path means that may be a constant
abbrev pub resolved_cell : Option Cell → List ℕ → Resolved
resolved_cell None name = a_constant name
resolved_cell (Some (in_state k)) name = a_variable k
resolved_cell (Some (in_step _ _ _)) name = of_step

-- the number of the first element of an array
abbrev pub first_element : Option Cell → ℕ
first_element (Some (in_state k)) = k
first_element _ = 0

-- an element: with a number as its index it is the state variable itself
abbrev pub resolved_element : DesignTree → Scope → List Ident → ExprTree → Resolved → Resolved
resolved_element d scope names (number n) index =
    resolved_cell (cell d scope names (Some (number_of n))) (last_name names)
resolved_element d scope names _ index = an_element (first_element (cell d scope names (Some 0))) index

-- an expression of a scope, resolved
abbrev pub resolved : DesignTree → Scope → ExprTree → Resolved
resolved d scope (truth _ b) = a_truth b
resolved d scope (number n) = a_number (number_of n)
resolved d scope (path names) = resolved_cell (cell d scope names None) (last_name names)
resolved d scope (group _ e) = resolved d scope e
resolved d scope (unary _ op e) = a_unary op (resolved d scope e)
resolved d scope (binary _ op a b) = a_binary op (resolved d scope a) (resolved d scope b)
resolved d scope (shift _ op e by) = a_shift op (resolved d scope e) (number_of by)
resolved d scope (conditional _ e a b) = a_choice (resolved d scope e) (resolved d scope a) (resolved d scope b)
resolved d scope (cast _ to e) = a_cast (number_of to) (resolved d scope e)
resolved d scope (element names e) = resolved_element d scope names e (resolved d scope e)

-- whether nothing in it lives for one step
abbrev pub is_lasting : Resolved → Bool
is_lasting (a_truth _) = true
is_lasting (a_number _) = true
is_lasting (a_constant _) = true
is_lasting (a_variable _) = true
is_lasting of_step = false
is_lasting (a_unary _ e) = is_lasting e
is_lasting (a_binary _ a b) = is_lasting a && is_lasting b
is_lasting (a_shift _ e _) = is_lasting e
is_lasting (a_choice e a b) = is_lasting e && is_lasting a && is_lasting b
is_lasting (a_cast _ e) = is_lasting e
is_lasting (an_element _ e) = is_lasting e

-- whether two unary operators are one: they are spelled alike
abbrev pub same_unary : UnaryOperator → UnaryOperator → Bool
same_unary a b = pointwise nat_eq (sign_text (unary_sign a)) (sign_text (unary_sign b))

-- whether two binary operators are one: they are spelled alike
abbrev pub same_binary : BinaryOperator → BinaryOperator → Bool
same_binary a b = pointwise nat_eq (sign_text (binary_sign a)) (sign_text (binary_sign b))

-- whether two operators of shifts are one: they are spelled alike
abbrev pub same_shift : ShiftOperator → ShiftOperator → Bool
same_shift a b = pointwise nat_eq (sign_text (shift_sign a)) (sign_text (shift_sign b))

-- whether two truths are one
abbrev pub same_truth : Bool → Bool → Bool
same_truth true b = b
same_truth false b = not b

-- whether two atoms are one: their trees are equal
abbrev pub same_atom : Resolved → Resolved → Bool
same_atom (a_truth a) (a_truth b) = same_truth a b
same_atom (a_number a) (a_number b) = nat_eq a b
same_atom (a_constant a) (a_constant b) = pointwise nat_eq a b
same_atom (a_variable a) (a_variable b) = nat_eq a b
same_atom of_step of_step = true
same_atom (a_unary o a) (a_unary p b) = same_unary o p && same_atom a b
same_atom (a_binary o a b) (a_binary p x y) = same_binary o p && same_atom a x && same_atom b y
same_atom (a_shift o a m) (a_shift p b n) = same_shift o p && same_atom a b && nat_eq m n
same_atom (a_choice e a b) (a_choice f x y) = same_atom e f && same_atom a x && same_atom b y
same_atom (a_cast m a) (a_cast n b) = nat_eq m n && same_atom a b
same_atom (an_element m a) (an_element n b) = nat_eq m n && same_atom a b
same_atom _ _ = false

-- an atom: an expression in its scope
pub record Atom : Type 0 where
  pub scope : Scope
  pub expr : ExprTree

-- the expression of an atom, resolved
abbrev pub resolved_atom : DesignTree → Atom → Resolved
resolved_atom d a = resolved d a.scope a.expr

-- whether two expressions that are compared are bools
abbrev pub compares_bools : Option Ty → Bool
compares_bools (Some types.Bool) = true
compares_bools _ = false

-- the atoms of a comparison for equality: those of both sides where they are bools, else itself
abbrev pub equality_atoms : Bool → Atom → List Atom → List Atom
equality_atoms true whole within = within
equality_atoms false whole within = whole ∷ []

-- the atoms of an operator between two expressions, given the type of these
abbrev pub operator_atoms : BinaryOperator → Option Ty → Atom → List Atom → List Atom
operator_atoms operator.AndAlso ty whole within = within
operator_atoms operator.OrElse ty whole within = within
operator_atoms operator.Equal ty whole within = equality_atoms (compares_bools ty) whole within
operator_atoms operator.NotEqual ty whole within = equality_atoms (compares_bools ty) whole within
operator_atoms _ ty whole within = whole ∷ []

-- the atoms of a bool expression
abbrev pub expr_atoms : DesignTree → Scope → ExprTree → List Atom
expr_atoms d scope (truth _ _) = []
expr_atoms d scope (number _) = []
expr_atoms d scope (path names) = record { scope = scope; expr = path names } ∷ []
expr_atoms d scope (group _ e) = expr_atoms d scope e
expr_atoms d scope (unary _ _ e) = expr_atoms d scope e
expr_atoms d scope (binary at op a b) =
    operator_atoms op (either_type (type_in d scope a) (type_in d scope b))
    (record { scope = scope; expr = binary at op a b })
    (expr_atoms d scope a ++ expr_atoms d scope b)
expr_atoms d scope (shift _ _ _ _) = []
expr_atoms d scope (conditional _ e a b) = expr_atoms d scope e ++ expr_atoms d scope a ++ expr_atoms d scope b
expr_atoms d scope (cast _ _ _) = []
expr_atoms d scope (element names e) = record { scope = scope; expr = element names e } ∷ []

-- the condition of a statement
abbrev pub stmt_conditions : StmtTree → List ExprTree
stmt_conditions (branch e _ _) = e ∷ []
stmt_conditions (repeat _ e _) = e ∷ []
stmt_conditions (assert _ e) = e ∷ []
stmt_conditions (assume _ e) = e ∷ []
stmt_conditions (wait _ e) = e ∷ []
stmt_conditions _ = []

-- the atoms of the conditions of a body in text order, with called bodies at the place of the call, where calls nest at
-- most so deep
abbrev pub body_atoms : ℕ → DesignTree → Scope → BodyTree → List Atom
body_atoms zero d scope body = []
body_atoms (suc depth) d scope body =
    flat_map (λ s. flat_map (expr_atoms d scope) (stmt_conditions s)
    ++ flat_map (λ names. option_map_or (λ k. body_atoms depth d k.scope k.body) (called d scope names) [])
    (own_calls s)) (stmts_in body)

-- the template of an item, with the item's instance and its index there
abbrev pub in_template : {X : Type 0} → DesignTree → (TemplateTree → ℕ → ℕ → List X) → Item → List X
in_template d f item =
    option_map_or (λ node. option_map_or (λ t. option_map_or (f t item.instance) item.index [])
    (slice_get d.spec.templates node.template) []) (slice_get d.instances item.instance) []

-- the atoms of a goal or a fairness condition
abbrev pub named_atoms : DesignTree → (TemplateTree → List NamedTree) → Item → List Atom
named_atoms d sort item =
    in_template d (λ t i k. option_map_or (λ n.
    expr_atoms d (record { instance = i; body = outside }) n.expr) (slice_get (sort t) k) []) item

-- the atoms of a process
abbrev pub process_atoms : DesignTree → Item → List Atom
process_atoms d item =
    in_template d (λ t i k. option_map_or (λ p.
    body_atoms (suc (call_depth d.spec)) d (record { instance = i; body = process_body k }) p.body)
    (slice_get t.processes k) []) item

-- the atoms of a controllable task
abbrev pub task_atoms : DesignTree → Item → List Atom
task_atoms d item =
    in_template d (λ t i k. option_map_or (λ task.
    body_atoms (suc (call_depth d.spec)) d (record { instance = i; body = task_body k }) task.body)
    (slice_get t.tasks k) []) item

-- some without repeats: the first of each
abbrev pub without_repeats : {X : Type 0} → (X → X → Bool) → List X → List X
without_repeats same [] = []
without_repeats same (x ∷ xs) = x ∷ filter (λ y. not (same x y)) (without_repeats same xs)

-- atoms of the pool: without those that live for one step, and without repeats
abbrev pub pooled : DesignTree → List Atom → List Atom
pooled d atoms =
    without_repeats (λ a b. same_atom (resolved_atom d a) (resolved_atom d b))
    (filter (λ a. is_lasting (resolved_atom d a)) atoms)

-- the atoms of goals and declared fairness conditions, with repeats
abbrev pub claim_atoms : DesignTree → List Atom
claim_atoms d = flat_map (named_atoms d (λ t. t.goals)) d.goals ++ flat_map (named_atoms d (λ t. t.fairs)) d.fairs

-- how many predicates the abstraction begins with
abbrev pub first_atoms : DesignTree → ℕ
first_atoms d = length (pooled d (claim_atoms d))

-- the atoms of the pool: those of goals, fairness conditions, processes and controllable tasks, in order
abbrev pub pool_atoms : DesignTree → List Atom
pool_atoms d = pooled d (claim_atoms d ++ flat_map (process_atoms d) d.processes ++ flat_map (task_atoms d) d.tasks)
