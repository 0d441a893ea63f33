use Rattle.std.proofs.Common.{subst}
use Rattle.std.specs.Prelude.{IfOk}
use Rattle.tm_syntax.specs.Tree.View.{spec_tree}
use Rattle.tm_names.specs.TextScopes.{AreTextScopes}
use Rattle.tm_types.proofs.check.fault_by_scopes.Goals as goal

pub fault_by_tables-found-requires-clause-scopes : goal.fault_by_tables-found-requires-clause-scopes
fault_by_tables-found-requires-clause-scopes c =
    subst (λ r. IfOk r (AreTextScopes (spec_tree c.args.spec.now))) c.in-Ok.is c.requires
