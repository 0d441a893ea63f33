-- F7: a number does not fit its type or its place.
use Rattle.std.specs.Prelude.{ℕ, ◌^◌, min, Bool, true, false, ◌&&◌, Option, None, Some, List, [], ◌++◌, is_some, nat_lt, nat_le, unwrap_or}
use Rattle.std.specs.Option.{option_and_then, option_map_or, option_to_list}
use Rattle.std.specs.List.{flat_map}
use Rattle.tm_base.specs.declared.place.Place.{Place}
use Rattle.tm_syntax.specs.declared.tree.Ident.{Ident}
use Rattle.tm_syntax.specs.declared.tree.Num.{Num}
use Rattle.tm_syntax.specs.declared.tree.TypeName.{TypeName}
use Rattle.tm_syntax.specs.declared.tree.TypeName.TheVariants as written
use Rattle.tm_syntax.specs.declared.tree.UnaryOperator.TheVariants.{Complement, Not}
use Rattle.tm_syntax.specs.declared.tree.BinaryOperator.{BinaryOperator}
use Rattle.tm_syntax.specs.declared.tree.BinaryOperator.TheVariants.{AndAlso, OrElse}
use Rattle.tm_syntax.specs.declared.design.Ty.{Ty}
use Rattle.tm_syntax.specs.declared.design.Ty.TheVariants as types
use Rattle.tm_syntax.specs.Tree.{ExprTree, truth, number, path, group, unary, binary, shift, conditional, cast, element, VarTree, TemplateTree, SpecTree}
use Rattle.tm_syntax.specs.Scopes.Names.{type_of}
use Rattle.tm_syntax.specs.Scopes.Context.{Context, variable_of}
use Rattle.tm_syntax.specs.Scopes.Types.{either_type, own_type, valued_in}
use Rattle.tm_syntax.specs.Scopes.Parts.{ExprAt, exprs, template_types}
use Rattle.tm_syntax.specs.Faults.Marks.{place_unless}

-- whether a number lies from one number to another one
abbrev pub is_from_to : ℕ → ℕ → Num → Bool
is_from_to low high n = option_map_or (λ v. nat_le low v && nat_le v high) n.value false

-- a width is from 1 to 64
abbrev pub width_faults : Num → List Place
width_faults n = place_unless (is_from_to 1 64 n) n.place

-- a length is from 1 to 256
abbrev pub length_faults : Num → List Place
length_faults n = place_unless (is_from_to 1 256 n) n.place

-- whether a number fits a type; numbers from 2 ^ 64 on fit none
abbrev pub number_fits : Ty → Num → Bool
number_fits (types.Uint width) n = option_map_or (λ v. nat_lt v (2 ^ min width 64)) n.value false
number_fits _ n = is_some n.value

-- a number is a value of its type
abbrev pub number_faults : Ty → Num → List Place
number_faults ty n = place_unless (number_fits ty n) n.place

-- whether a shift is by less than the width
abbrev pub shift_fits : Ty → Num → Bool
shift_fits (types.Uint width) n = option_map_or (λ v. nat_lt v width) n.value false
shift_fits _ n = is_some n.value

-- whether an index is below a length, where there is one; an index from 2 ^ 64 on is below none
abbrev pub is_below : Option Num → Num → Bool
is_below (Some size) n = option_map_or (λ v. option_map_or (λ s. nat_lt v s) size.value true) n.value false
is_below None n = is_some n.value

-- the length of the array that a path means, as it is written
abbrev pub written_length : Context → List Ident → Option Num
written_length c names = option_and_then (λ v. v.size) (variable_of c names)

-- the type in which two expressions that are joined are valued
abbrev pub joint : Context → Ty → ExprTree → ExprTree → Ty
joint c asked a b = valued_in asked (either_type (own_type c a) (own_type c b))

-- the type that an operator asks its operands for
abbrev pub operand_asked : Context → BinaryOperator → Ty → ExprTree → ExprTree → Ty
operand_asked c AndAlso asked a b = types.Bool
operand_asked c OrElse asked a b = types.Bool
operand_asked c _ asked a b = joint c asked a b

-- an index that is a number is below the length of its array
abbrev pub index_numbers : Context → List Ident → ExprTree → List Place → List Place
index_numbers c names (number n) within = place_unless (is_below (written_length c names) n) n.place
index_numbers c names _ within = within

-- F7 within an expression, valued in its own type or else in the one that is asked for
abbrev pub expr_numbers : Context → Ty → ExprTree → List Place
expr_numbers c asked (truth _ _) = []
expr_numbers c asked (number n) = number_faults asked n
expr_numbers c asked (path _) = []
expr_numbers c asked (group _ e) = expr_numbers c asked e
expr_numbers c asked (unary _ Complement e) = expr_numbers c asked e
expr_numbers c asked (unary _ Not e) = expr_numbers c types.Bool e
expr_numbers c asked (binary _ op a b) =
    expr_numbers c (operand_asked c op asked a b) a ++ expr_numbers c (operand_asked c op asked a b) b
expr_numbers c asked (shift _ _ e by) =
    expr_numbers c asked e ++ place_unless (shift_fits (valued_in asked (own_type c e)) by) by.place
expr_numbers c asked (conditional _ e a b) =
    expr_numbers c types.Bool e ++ expr_numbers c (joint c asked a b) a ++ expr_numbers c (joint c asked a b) b
expr_numbers c asked (cast _ to e) = width_faults to ++ expr_numbers c types.Bool e
expr_numbers c asked (element names e) = index_numbers c names e (expr_numbers c types.Bool e)

-- in an expression of a text
abbrev pub asked_numbers : ExprAt → List Place
asked_numbers e = expr_numbers e.context (unwrap_or e.asked.ty types.Bool) e.asked.expr

-- in a type
abbrev pub type_numbers : TypeName → List Place
type_numbers (written.Uint _ n) = width_faults n
type_numbers _ = []

-- in an initial literal
abbrev pub literal_numbers : Ty → ExprTree → List Place
literal_numbers ty (number n) = number_faults ty n
literal_numbers ty _ = []

-- in the length and the initial literal of a variable
abbrev pub var_numbers : VarTree → List Place
var_numbers v =
    flat_map length_faults (option_to_list v.size)
    ++ flat_map (literal_numbers (type_of v.ty)) (option_to_list v.init)

-- F7
abbrev pub misfit_numbers : SpecTree → List Place
misfit_numbers spec =
    flat_map (λ (t : TemplateTree). flat_map type_numbers (template_types t) ++ flat_map var_numbers t.vars)
    spec.templates
    ++ flat_map asked_numbers (exprs spec)
