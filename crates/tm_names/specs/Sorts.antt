-- What the code's declarations are as plain data, and what stands first under a name.
use Rattle.std.specs.Prelude.{ℕ, Option, List, map}
use Rattle.std.specs.List.{filter}
use Rattle.tm_syntax.specs.Tree.View.{template_tree}
use Rattle.tm_syntax.specs.Scopes.Names.{is_spelled}
use Rattle.tm_syntax.specs.Scopes.Declared as text
use Rattle.tm_syntax.specs.Places.{earliest}
use Rattle.tm_names.specs.declared.sorts.sort.Sort.{Sort}
use Rattle.tm_names.specs.declared.sorts.sort.Sort.TheVariants as sort
use Rattle.tm_names.specs.declared.sorts.sort.Declared.{Declared}

-- a sort
abbrev pub sort_of : Sort → text.Sort
sort_of sort.Slot = text.a_slot
sort_of (sort.Neighbor t) = text.a_neighbor t.now
sort_of sort.Variable = text.a_variable
sort_of sort.Array = text.an_array
sort_of sort.Task = text.a_task
sort_of sort.Part = text.a_part
sort_of sort.Constant = text.a_constant
sort_of sort.Enum = text.an_enum
sort_of (sort.Template _ t) = text.a_template (template_tree t.now)

-- a declaration
abbrev pub declared_of : Declared → text.Declared
declared_of d = record { name = d.name.now; sort = sort_of d.sort }

-- several declarations
abbrev pub all_declared : List Declared → List text.Declared
all_declared ds = map declared_of ds

-- the declaration of a name that stands first, by its place
abbrev pub first_declared : List text.Declared → List ℕ → Option text.Declared
first_declared scope name =
    earliest (λ (d : text.Declared). d.name.place) (filter (λ (d : text.Declared). is_spelled name d.name) scope)
