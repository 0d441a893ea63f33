use Rattle.std.proofs.Common.{◌≡◌, ap, ◌∙◌, subst}
use Rattle.std.specs.Option.{option_and_then, option_map}
use Rattle.tm_syntax.specs.Scopes.Types.{named_type}
use Rattle.tm_syntax.specs.Design.{DesignTree}
use Rattle.tm_syntax.specs.Design.Scope.{context}
use Rattle.tm_scope.specs.Cells.{HasCells, ScopedCells, scope_of}
use Rattle.tm_scope.specs.Types.{ty_of}
use Rattle.tm_flat_stmts.proofs.Assigning.{type_told}
use Rattle.tm_flat_stmts.proofs.targets.target_type.Goals as goal

pub returns : goal.returns
returns c = λ ty target.
    ap ty_of c.unwrap_or.ensures
    ∙ type_told c.args.reader.now ty c.args.path.now c.named_type.result
    (subst (λ (s : ScopedCells). (d : DesignTree) → HasCells s.tables d →
    option_map ty_of c.named_type.result
    ≡ option_and_then (λ k. named_type k c.args.path.now) (context d (scope_of s.at))) c.scope.ensures
    c.named_type.ensures) target
