-- The type of an expression, by the text alone.
use Rattle.std.specs.Prelude.{ℕ, Option, None, Some, List, [], ◌∷◌, find, unwrap_or}
use Rattle.std.specs.Option.{option_map, option_and_then}
use Rattle.std.specs.List.{list_any}
use Rattle.tm_syntax.specs.declared.tree.Ident.{Ident}
use Rattle.tm_syntax.specs.declared.tree.UnaryOperator.TheVariants.{Complement, Not}
use Rattle.tm_syntax.specs.declared.tree.BinaryOperator.TheVariants.{Add, Subtract, And, Or, Xor}
use Rattle.tm_syntax.specs.declared.design.Ty.{Ty}
use Rattle.tm_syntax.specs.declared.design.Ty.TheVariants as types
use Rattle.tm_syntax.specs.Tree.{SpecTree, ExprTree, truth, number, path, group, unary, binary, shift, conditional, cast, element}
use Rattle.tm_syntax.specs.Scopes.Names.{is_spelled, number_of, written_width, type_of}
use Rattle.tm_syntax.specs.Scopes.Context.{Context, slot_of, variable_of}

-- the first of two types that is there
abbrev pub either_type : Option Ty → Option Ty → Option Ty
either_type None other = other
either_type (Some ty) _ = Some ty

-- the type of what a path means: a parameter or local before a variable, or an array's elements
abbrev pub named_type : Context → List Ident → Option Ty
named_type c names =
    either_type (option_map (λ s. s.ty) (slot_of c names)) (option_map (λ v. type_of v.ty) (variable_of c names))

-- the type of a path that is the name of an enum constant
abbrev pub constant_type : SpecTree → List Ident → Option Ty
constant_type spec (name ∷ []) =
    option_map (λ e. types.Enum e.name.text)
    (find (λ e. list_any (is_spelled name.text) e.constants) spec.enums)
constant_type spec _ = None

-- an expression's own type: a number has none, nor has what joins numbers alone
abbrev pub own_type : Context → ExprTree → Option Ty
own_type c (truth _ _) = Some types.Bool
own_type c (number _) = None
own_type c (path names) = either_type (named_type c names) (constant_type c.spec names)
own_type c (group _ e) = own_type c e
own_type c (unary _ Not _) = Some types.Bool
own_type c (unary _ Complement e) = own_type c e
own_type c (binary _ Add a b) = either_type (own_type c a) (own_type c b)
own_type c (binary _ Subtract a b) = either_type (own_type c a) (own_type c b)
own_type c (binary _ And a b) = either_type (own_type c a) (own_type c b)
own_type c (binary _ Or a b) = either_type (own_type c a) (own_type c b)
own_type c (binary _ Xor a b) = either_type (own_type c a) (own_type c b)
own_type c (binary _ _ _ _) = Some types.Bool
own_type c (shift _ _ e _) = own_type c e
own_type c (conditional _ _ a b) = either_type (own_type c a) (own_type c b)
own_type c (cast _ to _) = Some (types.Uint (written_width to))
own_type c (element names _) = named_type c names

-- the type in which an expression is valued: its own, or the one that its place asks for
abbrev pub valued_in : Ty → Option Ty → Ty
valued_in asked own = unwrap_or own asked

-- the length of the array that a path means
abbrev pub array_length : Context → List Ident → Option ℕ
array_length c names = option_and_then (λ v. option_map number_of v.size) (variable_of c names)
