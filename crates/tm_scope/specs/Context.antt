-- Where a part of the text stands.
use Rattle.std.specs.Prelude.{ℕ, Option, slice_get}
use Rattle.std.specs.Option.{option_and_then}
use Rattle.tm_syntax.specs.declared.tree.Spec.{Spec}
use Rattle.tm_syntax.specs.declared.tree.Template.{Template}
use Rattle.tm_syntax.specs.Tree.{SpecTree, TemplateTree}
use Rattle.tm_syntax.specs.Tree.View.{spec_tree, template_tree}
use Rattle.tm_syntax.specs.Scopes.Context as text
use Rattle.tm_scope.specs.declared.context.BodyName.{BodyName}
use Rattle.tm_scope.specs.declared.context.BodyName.TheVariants.{Process, Task, Outside}

-- the body of a number
abbrev pub body_name : BodyName → text.BodyName
body_name (Process k) = text.process_body k
body_name (Task k) = text.task_body k
body_name Outside = text.outside

-- the template of a number, if there is one
abbrev pub template_at : SpecTree → Option ℕ → Option TemplateTree
template_at spec number = option_and_then (slice_get spec.templates) number

-- a body of a template of a specification, or what stands outside of its bodies
pub record BodyPlace : Type 0 where
  pub spec : Spec
  pub template : Template
  pub body : BodyName

-- what such a place is as plain data
abbrev pub context_of : BodyPlace → text.Context
context_of at = record { spec = spec_tree at.spec; template = template_tree at.template; body = body_name at.body }
