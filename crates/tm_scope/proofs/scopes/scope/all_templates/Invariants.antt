use Rattle.std.proofs.Common.{◌≡◌, take}
use Rattle.tm_scope.proofs.scopes.scope.all_templates.Given as goal

abbrev pub invariant-loop-template : goal.invariant-loop-template
invariant-loop-template l = l.all.items ≡ take l.template-index l.templates
