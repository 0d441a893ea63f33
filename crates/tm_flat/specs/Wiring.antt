-- That instances are declared with arguments that fit: what the text alone is asked for so that each name of a design
-- leads where the text says.
use Rattle.std.specs.Prelude.{◌≡◌, Some, [], codes}
use Rattle.std.specs.List.{AllZip, AllByRecursion}
use Rattle.tm_syntax.specs.declared.tree.Ident.{Ident}
use Rattle.tm_syntax.specs.declared.tree.Port.{Port}
use Rattle.tm_syntax.specs.Tree.{InstanceTree, TemplateTree, SpecTree}
use Rattle.tm_syntax.specs.Scopes.Names.{template_named, neighbor_template}

-- an instance has an argument for each port of its template, of that port's template
abbrev pub IsWired : SpecTree → TemplateTree → InstanceTree → Type 0
IsWired spec t i =
    (u : TemplateTree) → template_named spec i.template.text ≡ Some u →
    AllZip
    (λ (argument : Ident) (port : Port).
    neighbor_template spec t argument.text ≡ template_named spec port.template.text)
    i.args u.ports

-- all instances of a text are declared so, and `main` has no ports
pub record AreWired (spec : SpecTree) : Type 0 where
  pub main : (t : TemplateTree) → template_named spec (codes "main") ≡ Some t → t.ports ≡ []
  pub instances : AllByRecursion (λ t. AllByRecursion (IsWired spec t) t.instances) spec.templates
