-- F6 within an expression: which operands fit their operator, and the places where they do not.
use Rattle.std.specs.Prelude.{Bool, true, false, ◌&&◌, Option, None, Some, List, [], ◌∷◌, ◌++◌, nat_eq}
use Rattle.std.specs.Cmp.Lexicographic.{pointwise}
use Rattle.tm_base.specs.declared.place.Place.{Place}
use Rattle.tm_syntax.specs.declared.tree.Ident.{Ident}
use Rattle.tm_syntax.specs.declared.tree.UnaryOperator.{UnaryOperator}
use Rattle.tm_syntax.specs.declared.tree.UnaryOperator.TheVariants.{Complement, Not}
use Rattle.tm_syntax.specs.declared.tree.BinaryOperator.{BinaryOperator}
use Rattle.tm_syntax.specs.declared.tree.BinaryOperator.TheVariants as operator
use Rattle.tm_syntax.specs.declared.design.Ty.{Ty}
use Rattle.tm_syntax.specs.declared.design.Ty.TheVariants as types
use Rattle.tm_syntax.specs.Tree.{ExprTree, truth, number, path, group, unary, binary, shift, conditional, cast, element}
use Rattle.tm_syntax.specs.Scopes.Context.{Context, BodyName, process_body, task_body, outside}
use Rattle.tm_syntax.specs.Scopes.Types.{own_type}
use Rattle.tm_syntax.specs.Scopes.Declared.{Sort, a_slot, a_variable, an_array, a_task, a_constant, Meaning, unknown, misplaced, unclear, means, meaning}
use Rattle.tm_syntax.specs.Places.{text_start}
use Rattle.tm_syntax.specs.Faults.Marks.{place_unless}

-- whether two types are one
abbrev pub same_type : Ty → Ty → Bool
same_type types.Bool types.Bool = true
same_type (types.Uint m) (types.Uint n) = nat_eq m n
same_type (types.Enum m) (types.Enum n) = pointwise nat_eq m n
same_type _ _ = false

-- whether a type is one of numbers
abbrev pub is_uint : Ty → Bool
is_uint types.Bool = false
is_uint (types.Uint _) = true
is_uint (types.Enum _) = false

-- the first place of a path
abbrev pub path_place : List Ident → Place
path_place [] = text_start
path_place (name ∷ _) = name.place

-- the place of an expression's first token
abbrev pub expr_place : ExprTree → Place
expr_place (truth at _) = at
expr_place (number n) = n.place
expr_place (path names) = path_place names
expr_place (group at _) = at
expr_place (unary at _ _) = at
expr_place (binary _ _ e _) = expr_place e
expr_place (shift _ _ e _) = expr_place e
expr_place (conditional _ e _ _) = expr_place e
expr_place (cast at _ _) = at
expr_place (element names _) = path_place names

-- what an expression is found to be: at fault within, without a type of its own, or of a type
pub data Finding : Type 0 where
  at_fault : Finding
  untyped : Finding
  typed : Ty → Finding

-- an expression that holds a fault has no type, and nothing around it is judged for its sake
abbrev pub finding : List Place → Option Ty → Finding
finding [] None = untyped
finding [] (Some ty) = typed ty
finding (_ ∷ _) _ = at_fault

-- whether this may be where a bool is wanted
abbrev pub may_be_bool : Finding → Bool
may_be_bool at_fault = true
may_be_bool untyped = false
may_be_bool (typed ty) = same_type types.Bool ty

-- whether this may be where a number is wanted
abbrev pub may_be_uint : Finding → Bool
may_be_uint at_fault = true
may_be_uint untyped = true
may_be_uint (typed ty) = is_uint ty

-- whether two may be of one type: what has none of its own takes that of the other one, if it is one of numbers
abbrev pub are_alike : Finding → Finding → Bool
are_alike untyped (typed ty) = is_uint ty
are_alike (typed ty) untyped = is_uint ty
are_alike (typed a) (typed b) = same_type a b
are_alike _ _ = true

-- whether two may be compared: one of them has a type
abbrev pub are_comparable : Finding → Finding → Bool
are_comparable untyped untyped = false
are_comparable a b = are_alike a b

-- whether two may be added: both are numbers, of one width
abbrev pub are_addable : Finding → Finding → Bool
are_addable a b = may_be_uint a && may_be_uint b && are_alike a b

-- whether two may be ordered
abbrev pub are_ordered : Finding → Finding → Bool
are_ordered a b = may_be_uint a && may_be_uint b && are_comparable a b

-- whether an operand fits its operator
abbrev pub operand_fits : UnaryOperator → Finding → Bool
operand_fits Complement e = may_be_uint e
operand_fits Not e = may_be_bool e

-- whether two operands fit the operator between them
abbrev pub operands_fit : BinaryOperator → Finding → Finding → Bool
operands_fit operator.Equal a b = are_comparable a b
operands_fit operator.NotEqual a b = are_comparable a b
operands_fit operator.Less a b = are_ordered a b
operands_fit operator.LessEqual a b = are_ordered a b
operands_fit operator.Greater a b = are_ordered a b
operands_fit operator.GreaterEqual a b = are_ordered a b
operands_fit operator.Add a b = are_addable a b
operands_fit operator.Subtract a b = are_addable a b
operands_fit operator.And a b = are_addable a b
operands_fit operator.AndAlso a b = may_be_bool a && may_be_bool b
operands_fit operator.Or a b = are_addable a b
operands_fit operator.OrElse a b = may_be_bool a && may_be_bool b
operands_fit operator.Xor a b = are_addable a b

-- whether a test and two branches fit `? :`
abbrev pub branches_fit : Finding → Finding → Finding → Bool
branches_fit e a b = may_be_bool e && are_alike a b

-- whether this is a number with a type of its own
abbrev pub is_number_typed : Finding → Bool
is_number_typed at_fault = true
is_number_typed untyped = false
is_number_typed (typed ty) = is_uint ty

-- the name at which a path is of the wrong sort
abbrev pub wrong_sort : (Sort → Bool) → Meaning → List Place
wrong_sort suits (unknown _) = []
wrong_sort suits (misplaced name) = name.place ∷ []
wrong_sort suits unclear = []
wrong_sort suits (means name sort) = place_unless (suits sort) name.place

-- an expression is a parameter, local, variable or constant; an array stands with an index alone
abbrev pub is_valued : Sort → Bool
is_valued a_slot = true
is_valued a_variable = true
is_valued a_constant = true
is_valued _ = false

-- a parameter, local or variable is assigned
abbrev pub is_assigned : Sort → Bool
is_assigned a_slot = true
is_assigned a_variable = true
is_assigned _ = false

-- an array has an index, and nothing else has
abbrev pub is_indexed : Sort → Bool
is_indexed an_array = true
is_indexed _ = false

-- a task or procedure is called
abbrev pub is_called : Sort → Bool
is_called a_task = true
is_called _ = false

-- an index is a NUMBER, and in a body it may be a number with a type of its own
abbrev pub index_fits : BodyName → ExprTree → Finding → Bool
index_fits _ (number _) e = true
index_fits outside _ e = false
index_fits (process_body _) _ e = is_number_typed e
index_fits (task_body _) _ e = is_number_typed e

-- the faults within the parts, and the place where these do not fit
abbrev pub judged : List Place → Bool → Place → List Place
judged within fits at = place_unless fits at ++ within

-- the faults of a unary operator, given those of its operand and that operand's type
abbrev pub unary_faults : Place → UnaryOperator → List Place → Option Ty → List Place
unary_faults at op x tx = judged x (operand_fits op (finding x tx)) at

-- the faults of a binary operator, given those of its operands and their types
abbrev pub binary_faults : Place → BinaryOperator → List Place → Option Ty → List Place → Option Ty → List Place
binary_faults at op x tx y ty = judged (x ++ y) (operands_fit op (finding x tx) (finding y ty)) at

-- the faults of a shift, given those of its operand and that operand's type
abbrev pub shift_faults : Place → List Place → Option Ty → List Place
shift_faults at x tx = judged x (may_be_uint (finding x tx)) at

-- the faults of a conditional, given those of its test and branches and their types
abbrev pub conditional_faults : Place → List Place → Option Ty → List Place → Option Ty → List Place → Option Ty →
    List Place
conditional_faults at x tx y ty z tz =
    judged (x ++ y ++ z) (branches_fit (finding x tx) (finding y ty) (finding z tz)) at

-- the operand of a cast asks for nothing, so it has a type of its own
abbrev pub cast_faults : Place → List Place → Option Ty → List Place
cast_faults at x tx = judged x (is_number_typed (finding x tx)) at

-- the faults of an index
abbrev pub index_faults : BodyName → ExprTree → List Place → Option Ty → List Place
index_faults body e x tx = judged x (index_fits body e (finding x tx)) (expr_place e)

-- F6 within an expression
abbrev pub expr_faults : Context → ExprTree → List Place
expr_faults c (truth _ _) = []
expr_faults c (number _) = []
expr_faults c (path names) = wrong_sort is_valued (meaning c names)
expr_faults c (group _ e) = expr_faults c e
expr_faults c (unary at op e) = unary_faults at op (expr_faults c e) (own_type c e)
expr_faults c (binary at op a b) =
    binary_faults at op (expr_faults c a) (own_type c a) (expr_faults c b) (own_type c b)
expr_faults c (shift at _ e _) = shift_faults at (expr_faults c e) (own_type c e)
expr_faults c (conditional at e a b) =
    conditional_faults at (expr_faults c e) (own_type c e) (expr_faults c a) (own_type c a) (expr_faults c b)
    (own_type c b)
expr_faults c (cast _ _ e) = cast_faults (expr_place e) (expr_faults c e) (own_type c e)
expr_faults c (element names e) =
    wrong_sort is_indexed (meaning c names) ++ index_faults c.body e (expr_faults c e) (own_type c e)

-- whether a value fits the type that is asked for
abbrev pub value_fits : Ty → Finding → Bool
value_fits asked at_fault = true
value_fits asked untyped = is_uint asked
value_fits asked (typed ty) = same_type asked ty

-- the faults of a value, given those within it and its type: it is at its first token where it does not fit
abbrev pub value_faults : Option Ty → Place → List Place → Option Ty → List Place
value_faults None at x tx = x
value_faults (Some asked) at x tx = judged x (value_fits asked (finding x tx)) at
