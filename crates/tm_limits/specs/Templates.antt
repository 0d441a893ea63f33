-- The templates of a text by their numbers: each leads to those of the instances that it holds.
use Rattle.std.specs.Prelude.{ℕ, List, map}
use Rattle.std.specs.List.{filter_map}
use Rattle.tm_syntax.specs.Tree.{InstanceTree, TemplateTree, SpecTree}
use Rattle.tm_syntax.specs.Scopes.Names.{template_number}

-- the templates of the instances that a template holds
abbrev pub held_numbers : SpecTree → TemplateTree → List ℕ
held_numbers spec t = filter_map (λ (i : InstanceTree). template_number spec i.template.text) t.instances

-- those of each template
abbrev pub holdings : SpecTree → List (List ℕ)
holdings spec = map (held_numbers spec) spec.templates
