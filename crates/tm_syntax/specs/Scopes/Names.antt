-- Where the names of a specification lead: to types, templates, enums, constants, instances and tasks.
use Rattle.std.specs.Prelude.{ℕ, ◌^◌, Bool, Option, Some, List, [], ◌∷◌, ◌++◌, nat_eq, position, find, unwrap_or, slice_get}
use Rattle.std.specs.Option.{option_and_then}
use Rattle.std.specs.Bool.{then_some}
use Rattle.std.specs.List.{filter_map}
use Rattle.std.specs.Cmp.Lexicographic.{pointwise}
use Rattle.tm_syntax.specs.declared.tree.Ident.{Ident}
use Rattle.tm_syntax.specs.declared.tree.Num.{Num}
use Rattle.tm_syntax.specs.declared.tree.TypeName.{TypeName}
use Rattle.tm_syntax.specs.declared.tree.TypeName.TheVariants as written
use Rattle.tm_syntax.specs.declared.design.Ty.{Ty}
use Rattle.tm_syntax.specs.declared.design.Ty.TheVariants as types
use Rattle.tm_syntax.specs.Tree.{TemplateTree, SpecTree}

-- whether a name as it stands in the text is spelled so
abbrev pub is_spelled : List ℕ → Ident → Bool
is_spelled bytes name = pointwise nat_eq bytes name.text

-- a number's value, 0 where it is too large for one
abbrev pub number_of : Num → ℕ
number_of n = unwrap_or n.value 0

-- the number of bits that a type writes; all from 2 ^ 64 on are one
abbrev pub written_width : Num → ℕ
written_width n = unwrap_or n.value (2 ^ 64)

-- a type as it stands in the text, resolved
abbrev pub type_of : TypeName → Ty
type_of (written.Bool _) = types.Bool
type_of (written.Uint _ n) = types.Uint (written_width n)
type_of (written.Enum name) = types.Enum name.text

-- the number of the template of this name
abbrev pub template_number : SpecTree → List ℕ → Option ℕ
template_number spec name = position (λ t. is_spelled name t.name) spec.templates

-- the template of this name
abbrev pub template_named : SpecTree → List ℕ → Option TemplateTree
template_named spec name = find (λ t. is_spelled name t.name) spec.templates

-- the value of a constant: its index in its enum
abbrev pub constant_value : SpecTree → List ℕ → Option ℕ
constant_value spec name = slice_get (filter_map (λ e. position (is_spelled name) e.constants) spec.enums) 0

-- the template of the instance or port of this name
abbrev pub neighbor_template : SpecTree → TemplateTree → List ℕ → Option TemplateTree
neighbor_template spec t name =
    option_and_then (λ known. template_named spec known.text)
    (slice_get (filter_map (λ i. then_some (is_spelled name i.name) i.template) t.instances
    ++ filter_map (λ p. then_some (is_spelled name p.name) p.template) t.ports) 0)

-- the template in which a path from another one ends: every name but the last leads to an instance or a port
abbrev pub template_along : SpecTree → TemplateTree → List Ident → Option TemplateTree
template_along spec t [] = Some t
template_along spec t (name ∷ []) = Some t
template_along spec t (name ∷ next ∷ names) =
    option_and_then (λ n. template_along spec n (next ∷ names)) (neighbor_template spec t name.text)

-- the last name of a path
abbrev pub last_name : List Ident → List ℕ
last_name [] = []
last_name (name ∷ []) = name.text
last_name (name ∷ next ∷ names) = last_name (next ∷ names)
