-- Which tasks of a text say what its calls do.
use Rattle.std.specs.Prelude.{◌≡◌, ℕ, Bool, List, Some, slice_get}
use Rattle.tm_syntax.specs.declared.tree.Ident.{Ident}
use Rattle.tm_syntax.specs.declared.tree.Spec.{Spec}
use Rattle.tm_syntax.specs.declared.tree.Template.{Template}
use Rattle.tm_syntax.specs.Tree.{TemplateTree}
use Rattle.tm_syntax.specs.Tree.View.{template_tree}
use Rattle.tm_syntax.specs.declared.member.Member.{Member}
use Rattle.tm_scope.specs.Marks.{is_marked}

-- from each template, a path leads to one of the tasks exactly where its call does so
pub record TellCalls (s : Spec) (tasks : List Member) (does : TemplateTree → List Ident → Bool) : Type 0 where
  pub tell : (from : ℕ) (t : Template) → slice_get s.templates.items from ≡ Some t →
      is_marked (record { spec = s; from = from; tasks = tasks }) ≡ does (template_tree t)
