-- The types of expressions as a typing judgement (Pierce, Types and Programming Languages, 2002, chapter 8), by the
-- text alone: each form asks its parts for a type.
use Rattle.std.specs.Prelude.{◌≡◌, ◌≢◌, ℕ, ◌^◌, ◌<◌, ◌≤◌, ⊤, Bool, Option, None, Some, List, []}
use Rattle.tm_base.specs.declared.place.Place.{Place}
use Rattle.tm_syntax.specs.declared.tree.Ident.{Ident}
use Rattle.tm_syntax.specs.declared.tree.Num.{Num}
use Rattle.tm_syntax.specs.declared.tree.UnaryOperator.TheVariants.{Complement, Not}
use Rattle.tm_syntax.specs.declared.tree.BinaryOperator.{BinaryOperator}
use Rattle.tm_syntax.specs.declared.tree.BinaryOperator.TheVariants.{Equal, NotEqual, Less, LessEqual, Greater, GreaterEqual, Add, Subtract, And, AndAlso, Or, OrElse, Xor}
use Rattle.tm_base.specs.declared.shift_operator.ShiftOperator.{ShiftOperator}
use Rattle.tm_syntax.specs.declared.design.Ty.{Ty}
use Rattle.tm_syntax.specs.declared.design.Ty.TheVariants as types
use Rattle.tm_syntax.specs.Tree.{ExprTree, truth, number, path, group, unary, binary, shift, conditional, cast, element}
use Rattle.tm_syntax.specs.Scopes.Context.{Context, outside}
use Rattle.tm_syntax.specs.Scopes.Declared.{Sort, meaning}
use Rattle.tm_syntax.specs.Scopes.Types.{either_type, named_type, own_type, array_length}
use Rattle.tm_syntax.specs.Faults.Operands.{is_valued, wrong_sort}

-- a width that numbers can have
pub record IsWidth (width : ℕ) : Type 0 where
  pub low : 1 ≤ width
  pub high : width ≤ 64

-- a type whose numbers have a width that they can have
abbrev pub IsSized : Ty → Type 0
IsSized types.Bool = ⊤
IsSized (types.Uint width) = IsWidth width
IsSized (types.Enum _) = ⊤

-- an operator that joins two numbers of a type to one of it
pub data IsArithmetic : BinaryOperator → Type 0 where
  adds : IsArithmetic Add
  subtracts : IsArithmetic Subtract
  ands : IsArithmetic And
  ors : IsArithmetic Or
  xors : IsArithmetic Xor

-- an operator that joins two truths to one
pub data IsLogical : BinaryOperator → Type 0 where
  and_also : IsLogical AndAlso
  or_else : IsLogical OrElse

-- an operator that compares two values of a type
pub data Compares : Ty → BinaryOperator → Type 0 where
  equals : {ty : Ty} → Compares ty Equal
  differs : {ty : Ty} → Compares ty NotEqual
  is_less : {width : ℕ} → Compares (types.Uint width) Less
  is_at_most : {width : ℕ} → Compares (types.Uint width) LessEqual
  is_greater : {width : ℕ} → Compares (types.Uint width) Greater
  is_at_least : {width : ℕ} → Compares (types.Uint width) GreaterEqual

-- a number is this value
abbrev pub IsValueOf : Num → ℕ → Type 0
IsValueOf n v = n.value ≡ Some v

-- no name of a path is declared as what does not suit its place; of names that nothing declares this says nothing
abbrev pub IsOfSort : (Sort → Bool) → Context → List Ident → Type 0
IsOfSort suits c names = wrong_sort suits (meaning c names) ≡ []

-- an expression has this type where it stands
pub data HasType (c : Context) : Ty → ExprTree → Type 0 where
  a_truth : {at : Place} {b : Bool} → HasType c types.Bool (truth at b)
  a_number : {width v : ℕ} {n : Num} → IsWidth width → IsValueOf n v → v < 2 ^ width →
      HasType c (types.Uint width) (number n)
  -- an array stands with an index alone
  a_path : {ty : Ty} {names : List Ident} → IsSized ty → IsOfSort is_valued c names →
      own_type c (path names) ≡ Some ty → HasType c ty (path names)
  a_group : {ty : Ty} {at : Place} {e : ExprTree} → HasType c ty e → HasType c ty (group at e)
  a_negation : {at : Place} {e : ExprTree} → HasType c types.Bool e → HasType c types.Bool (unary at Not e)
  a_complement : {width : ℕ} {at : Place} {e : ExprTree} → HasType c (types.Uint width) e →
      HasType c (types.Uint width) (unary at Complement e)
  arithmetic : {width : ℕ} {at : Place} {op : BinaryOperator} {a b : ExprTree} → IsArithmetic op →
      HasType c (types.Uint width) a → HasType c (types.Uint width) b → HasType c (types.Uint width) (binary at op a b)
  logic : {at : Place} {op : BinaryOperator} {a b : ExprTree} → IsLogical op → HasType c types.Bool a →
      HasType c types.Bool b → HasType c types.Bool (binary at op a b)
  -- one of the two has a type of its own, which is that of both
  a_comparison : {ty : Ty} {at : Place} {op : BinaryOperator} {a b : ExprTree} → Compares ty op →
      either_type (own_type c a) (own_type c b) ≡ Some ty → HasType c ty a → HasType c ty b →
      HasType c types.Bool (binary at op a b)
  a_shift : {width v : ℕ} {at : Place} {op : ShiftOperator} {e : ExprTree} {by : Num} →
      HasType c (types.Uint width) e → IsValueOf by v → v < width → HasType c (types.Uint width) (shift at op e by)
  a_conditional : {ty : Ty} {at : Place} {e a b : ExprTree} → HasType c types.Bool e → HasType c ty a →
      HasType c ty b → HasType c ty (conditional at e a b)
  a_cast : {width from : ℕ} {at : Place} {to : Num} {e : ExprTree} → IsWidth width → IsValueOf to width →
      own_type c e ≡ Some (types.Uint from) → HasType c (types.Uint from) e →
      HasType c (types.Uint width) (cast at to e)
  -- an element of an array; an index that is a number lies within it, and another one stands in a body alone
  an_element_at : {ty : Ty} {size v : ℕ} {names : List Ident} {n : Num} → IsSized ty → named_type c names ≡ Some ty →
      array_length c names ≡ Some size → IsValueOf n v → v < size → HasType c ty (element names (number n))
  an_element : {ty : Ty} {size from : ℕ} {names : List Ident} {e : ExprTree} → IsSized ty →
      named_type c names ≡ Some ty → array_length c names ≡ Some size → c.body ≢ outside →
      own_type c e ≡ Some (types.Uint from) → HasType c (types.Uint from) e → HasType c ty (element names e)

-- a place suits an expression of this own type: it asks for a number where there is none
abbrev pub Suits : Option Ty → Ty → Type 0
Suits None asked = (width : ℕ) × IsWidth width × (asked ≡ types.Uint width)
Suits (Some _) asked = ⊤
