-- What a text has to say so that its instances can be listed.
use Rattle.std.specs.Prelude.{◌≡◌, ◌||◌, ℕ, ◌+◌, ◌<◌, Bool, true, Some, List, length, get_or, slice_get, sum_by}
use Rattle.std.specs.List.{AllByRecursion, list_any}
use Rattle.std.specs.Option.{option_map_or}
use Rattle.tm_syntax.specs.declared.tree.Ident.{Ident}
use Rattle.tm_syntax.specs.declared.tree.Port.{Port}
use Rattle.tm_syntax.specs.Tree.{InstanceTree, SpecTree, TemplateTree}
use Rattle.tm_syntax.specs.Scopes.Names.{is_spelled, template_number}
use Rattle.tm_inst.specs.Sizes.{number_limit}

-- how many instances an instance that a template declares is, with all below it, by the sizes of the templates
abbrev pub held_size : SpecTree → List ℕ → InstanceTree → ℕ
held_size spec sizes i = option_map_or (λ k. get_or sizes k 0) (template_number spec i.template.text) 0

-- the sizes of the templates that numbers of 32 bits tell: how many instances one of each is, with all below it
abbrev pub AreSizes : SpecTree → List ℕ → Type 0
AreSizes spec sizes = (k : ℕ) (t : TemplateTree) → slice_get spec.templates k ≡ Some t →
    get_or sizes k 0 < number_limit →
    slice_get sizes k ≡ Some (1 + sum_by (held_size spec sizes) t.instances)

-- a name is that of an instance or a port of a template
abbrev pub names_neighbor : TemplateTree → List ℕ → Bool
names_neighbor t name =
    list_any (λ (i : InstanceTree). is_spelled name i.name) t.instances
    || list_any (λ (p : Port). is_spelled name p.name) t.ports

-- an instance that a template declares is of a template that is there, and hands an instance or a port to each port
pub record IsHeld (spec : SpecTree) (t : TemplateTree) (i : InstanceTree) : Type 0 where
  pub number : ℕ
  pub held : TemplateTree
  pub named : template_number spec i.template.text ≡ Some number
  pub is : slice_get spec.templates number ≡ Some held
  pub many : length i.args ≡ length held.ports
  pub known : AllByRecursion (λ (a : Ident). names_neighbor t a.text ≡ true) i.args

-- each instance that a template of a text declares is so
abbrev pub HoldsKnown : SpecTree → Type 0
HoldsKnown spec = (k : ℕ) (t : TemplateTree) → slice_get spec.templates k ≡ Some t →
    AllByRecursion (IsHeld spec t) t.instances
