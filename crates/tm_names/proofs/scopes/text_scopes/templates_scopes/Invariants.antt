use Rattle.std.proofs.Common.{map, take}
use Rattle.tm_syntax.specs.Tree.View.{template_tree}
use Rattle.tm_names.specs.TextScopes.{AreTemplateScopes, Each}
use Rattle.tm_names.proofs.scopes.text_scopes.templates_scopes.Given as goal

abbrev pub invariant-loop-template : goal.invariant-loop-template
invariant-loop-template l =
    Each AreTemplateScopes (map template_tree (take l.template-index l.templates)) l.scopes.items
