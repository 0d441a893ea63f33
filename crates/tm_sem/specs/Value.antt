-- The value of an expression, over the values of a state and those that live for one step, and whether it overruns.
use Rattle.std.specs.Prelude.{ℕ, Bool, false, Option, None, Some, List, [], ◌∷◌, ◌==◌, ◌&&◌, ◌||◌, not, nat_le, bit_and, bit_or, bit_xor, find, slice_index, slice_get, slice_set, nat_eq, unwrap_or, if◌then◌else◌}
use Rattle.std.specs.Option.{option_map_or, option_and_then}
use Rattle.std.specs.Cmp.Lexicographic.{pointwise}
use Rattle.tm_base.specs.Arithmetic.{resize, complement, sum, difference, bit, equal, not_equal, less, less_equal}
use Rattle.tm_base.specs.Shift as bits
use Rattle.tm_syntax.specs.declared.tree.Ident.{Ident}
use Rattle.tm_syntax.specs.declared.tree.UnaryOperator.{UnaryOperator}
use Rattle.tm_syntax.specs.declared.tree.UnaryOperator.TheVariants.{Complement, Not}
use Rattle.tm_syntax.specs.declared.tree.BinaryOperator.{BinaryOperator}
use Rattle.tm_syntax.specs.declared.tree.BinaryOperator.TheVariants.{Equal, NotEqual, Less, LessEqual, Greater, GreaterEqual, Add, Subtract, And, AndAlso, Or, OrElse, Xor}
use Rattle.tm_syntax.specs.declared.design.Ty.{Ty}
use Rattle.tm_syntax.specs.declared.design.Ty.TheVariants as types
use Rattle.tm_syntax.specs.Tree.{ExprTree, truth, number, path, group, unary, binary, shift, conditional, cast, element}
use Rattle.tm_syntax.specs.Scopes.Names.{number_of, constant_value}
use Rattle.tm_syntax.specs.Scopes.Types.{valued_in}
use Rattle.tm_syntax.specs.Design.{DesignTree}
use Rattle.tm_syntax.specs.Design.Scope.{Scope, same_scope, type_in, joint_type, operand_type, index_type, length_in}
use Rattle.tm_syntax.specs.Design.Cells.{Cell, in_state, in_step, cell}
use Rattle.tm_syntax.specs.Design.Sizes.{width}

-- the value of a parameter or local that lives for one step
pub record Passing : Type 0 where
  pub scope : Scope
  pub name : List ℕ
  pub value : ℕ

-- what a run reads and writes: the state variables, and what lives for one step, the newest first
pub record Memory : Type 0 where
  pub values : List ℕ
  pub passing : List Passing

-- the values of the state variables, before anything lives for a step
abbrev pub plain_memory : List ℕ → Memory
plain_memory values = record { values = values; passing = [] }

-- the value in a cell; a parameter or local that has got none in this step has the value 0
abbrev pub read : Memory → Cell → ℕ
read m (in_state k) = slice_index m.values k
read m (in_step scope name _) =
    option_map_or (λ p. p.value)
    (find (λ p. same_scope scope p.scope && pointwise nat_eq name p.name) m.passing) 0

-- the memory after a value was put into a cell
abbrev pub put : Memory → Cell → ℕ → Memory
put m (in_state k) n = record m { values = slice_set m.values k n }
put m (in_step scope name _) n = record m { passing = record { scope = scope; name = name; value = n } ∷ m.passing }

-- what an operator between two numbers of one type gives, whose width is w
abbrev pub binary_value : BinaryOperator → ℕ → ℕ → ℕ → ℕ
binary_value Add w a b = sum w a b
binary_value Subtract w a b = difference w a b
binary_value And w a b = bit_and a b
binary_value Or w a b = bit_or a b
binary_value Xor w a b = bit_xor a b
binary_value Equal w a b = equal a b
binary_value NotEqual w a b = not_equal a b
binary_value Less w a b = less a b
binary_value LessEqual w a b = less_equal a b
binary_value Greater w a b = less b a
binary_value GreaterEqual w a b = less_equal b a
binary_value AndAlso w a b = if a == 0 then 0 else b
binary_value OrElse w a b = if a == 0 then b else 1

-- what a prefix operator gives of a number of width w
abbrev pub unary_value : UnaryOperator → ℕ → ℕ → ℕ
unary_value Not w a = bit (a == 0)
unary_value Complement w a = complement w a

-- the value of what a path means: of its cell, or of the enum constant
abbrev pub path_value : DesignTree → Scope → Memory → List Ident → Option ℕ → ℕ
path_value d scope m names index =
    option_map_or (read m) (cell d scope names index)
    (unwrap_or (option_and_then (λ (name : Ident). constant_value d.spec name.text) (slice_get names 0)) 0)

-- the value of an expression where its place asks for a type; an element past the end has the value 0
abbrev pub value : DesignTree → Scope → Memory → Ty → ExprTree → ℕ
value d scope m asked (truth _ b) = bit b
value d scope m asked (number n) = number_of n
value d scope m asked (path names) = path_value d scope m names None
value d scope m asked (group _ e) = value d scope m asked e
value d scope m asked (unary _ op e) =
    unary_value op (width (valued_in asked (type_in d scope e)))
    (value d scope m (valued_in asked (type_in d scope e)) e)
value d scope m asked (binary _ op a b) =
    binary_value op (width (operand_type d scope op asked a b))
    (value d scope m (operand_type d scope op asked a b) a)
    (value d scope m (operand_type d scope op asked a b) b)
value d scope m asked (shift _ op e by) =
    bits.shift op (width (valued_in asked (type_in d scope e)))
    (value d scope m (valued_in asked (type_in d scope e)) e) (number_of by)
value d scope m asked (conditional _ test a b) =
    if value d scope m types.Bool test == 0
    then value d scope m (joint_type d scope asked a b) b
    else value d scope m (joint_type d scope asked a b) a
value d scope m asked (cast _ to e) =
    resize (number_of to) (value d scope m (valued_in asked (type_in d scope e)) e)
value d scope m asked (element names e) =
    option_map_or (read m) (cell d scope names (Some (value d scope m (index_type d scope e) e))) 0

-- whether a condition holds
abbrev pub holds_in : DesignTree → Scope → Memory → ExprTree → Bool
holds_in d scope m e = not (value d scope m types.Bool e == 0)

-- the value of an index
abbrev pub index_value : DesignTree → Scope → Memory → ExprTree → ℕ
index_value d scope m e = value d scope m (index_type d scope e) e

-- whether an index is not below the length of its array
abbrev pub is_past_end : DesignTree → Scope → Memory → List Ident → ExprTree → Bool
is_past_end d scope m names e = nat_le (unwrap_or (length_in d scope names) 0) (index_value d scope m e)

-- whether an expression overruns: an index that is valued in it is not below the length of its array
abbrev pub overruns : DesignTree → Scope → Memory → ExprTree → Bool
overruns d scope m (truth _ _) = false
overruns d scope m (number _) = false
overruns d scope m (path _) = false
overruns d scope m (group _ e) = overruns d scope m e
overruns d scope m (unary _ _ e) = overruns d scope m e
overruns d scope m (binary _ AndAlso a b) = overruns d scope m a || holds_in d scope m a && overruns d scope m b
overruns d scope m (binary _ OrElse a b) = overruns d scope m a || not (holds_in d scope m a) && overruns d scope m b
overruns d scope m (binary _ _ a b) = overruns d scope m a || overruns d scope m b
overruns d scope m (shift _ _ e _) = overruns d scope m e
overruns d scope m (conditional _ test a b) =
    overruns d scope m test || (if holds_in d scope m test then overruns d scope m a else overruns d scope m b)
overruns d scope m (cast _ _ e) = overruns d scope m e
overruns d scope m (element names e) = overruns d scope m e || is_past_end d scope m names e
