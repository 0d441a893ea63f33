use Rattle.std.proofs.Common.{List, map, subst}
use Rattle.tm_syntax.specs.declared.tree.Template.{Template}
use Rattle.tm_syntax.specs.Tree.View.{template_tree}
use Rattle.tm_names.specs.TextScopes.{AreTemplateScopes, Each}
use Rattle.tm_names.proofs.scopes.text_scopes.TextScopes.new.Goals as goal

pub returns : goal.returns
returns c = record {
  names = c.in_ok-text.ensures;
  templates = subst (λ (ts : List Template).
      Each AreTemplateScopes (map template_tree ts) c.in_ok-templates.templates.items)
      c.as_slice.ensures.value c.in_ok-templates.ensures;
}
