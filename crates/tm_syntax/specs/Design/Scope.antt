-- The instances of a design, and where a path leads from one of them.
use Rattle.std.specs.Prelude.{ℕ, Bool, true, false, Option, Some, List, [], ◌∷◌, ◌&&◌, nat_eq, slice_get}
use Rattle.std.specs.Option.{option_map, option_and_then}
use Rattle.tm_syntax.specs.declared.tree.Ident.{Ident}
use Rattle.tm_syntax.specs.declared.tree.BinaryOperator.{BinaryOperator}
use Rattle.tm_syntax.specs.declared.tree.BinaryOperator.TheVariants.{AndAlso, OrElse}
use Rattle.tm_syntax.specs.declared.design.Ty.{Ty}
use Rattle.tm_syntax.specs.declared.design.Ty.TheVariants as types
use Rattle.tm_syntax.specs.Tree.{ExprTree, TemplateTree}
use Rattle.tm_syntax.specs.Scopes.Context.{BodyName, process_body, task_body, outside, Context}
use Rattle.tm_syntax.specs.Scopes.Types.{either_type, own_type, valued_in, array_length}
use Rattle.tm_syntax.specs.Design.{DesignTree, InstanceNode, neighbor}

-- a body of an instance
pub record Scope : Type 0 where
  pub instance : ℕ
  pub body : BodyName

-- a body of the first instance, which is of `main`
abbrev pub main_scope : BodyName → Scope
main_scope body = record { instance = 0; body = body }

-- whether two body names are one
abbrev pub same_body : BodyName → BodyName → Bool
same_body (process_body a) (process_body b) = nat_eq a b
same_body (task_body a) (task_body b) = nat_eq a b
same_body outside outside = true
same_body _ _ = false

-- whether two scopes are one
abbrev pub same_scope : Scope → Scope → Bool
same_scope a b = nat_eq a.instance b.instance && same_body a.body b.body

-- an instance and its template
pub record Site : Type 0 where
  pub number : ℕ
  pub node : InstanceNode
  pub template : TemplateTree

-- the instance of this number
abbrev pub site : DesignTree → ℕ → Option Site
site d i =
    option_and_then (λ node. option_map (λ t. record { number = i; node = node; template = t })
    (slice_get d.spec.templates node.template))
    (slice_get d.instances i)

-- the instance in which a path from another one ends: every name but the last leads to an instance or a port
abbrev pub site_along : DesignTree → Site → List Ident → Option Site
site_along d at [] = Some at
site_along d at (name ∷ []) = Some at
site_along d at (name ∷ next ∷ names) =
    option_and_then (λ n. option_and_then (λ s. site_along d s (next ∷ names)) (site d n))
    (neighbor at.node at.template name.text)

-- where the text of a scope stands
abbrev pub context : DesignTree → Scope → Option Context
context d scope =
    option_map (λ at. record { spec = d.spec; template = at.template; body = scope.body }) (site d scope.instance)

-- the own type of an expression in a scope
abbrev pub type_in : DesignTree → Scope → ExprTree → Option Ty
type_in d scope e = option_and_then (λ c. own_type c e) (context d scope)

-- the type in which two expressions that are joined are valued: the own type of one of them, or the asked one
abbrev pub joint_type : DesignTree → Scope → Ty → ExprTree → ExprTree → Ty
joint_type d scope asked a b = valued_in asked (either_type (type_in d scope a) (type_in d scope b))

-- the type that an operator asks its operands for
abbrev pub operand_type : DesignTree → Scope → BinaryOperator → Ty → ExprTree → ExprTree → Ty
operand_type d scope AndAlso asked a b = types.Bool
operand_type d scope OrElse asked a b = types.Bool
operand_type d scope _ asked a b = joint_type d scope asked a b

-- the type in which an index is valued: a number as an index has one that holds every length
abbrev pub index_type : DesignTree → Scope → ExprTree → Ty
index_type d scope e = valued_in (types.Uint 64) (type_in d scope e)

-- the length of the array that a path means in a scope
abbrev pub length_in : DesignTree → Scope → List Ident → Option ℕ
length_in d scope names = option_and_then (λ c. array_length c names) (context d scope)
