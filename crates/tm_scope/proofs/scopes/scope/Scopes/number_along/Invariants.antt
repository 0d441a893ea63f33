use Rattle.std.proofs.Common.{◌≡◌, ◌-◌, ◌<◌, length, drop}
use Rattle.tm_syntax.specs.Tree.View.{spec_tree}
use Rattle.tm_syntax.specs.Scopes.Calls.{number_along}
use Rattle.tm_scope.proofs.scopes.scope.Scopes.number_along.Given as goal

abbrev pub invariant-loop-next : goal.invariant-loop-next
invariant-loop-next l = record {
  within : l.at < length l.self.templates.items;
  leads : number_along (spec_tree l.self) l.from l.path
      ≡ number_along (spec_tree l.self) l.at (drop (l.next - 1) l.path);
}
