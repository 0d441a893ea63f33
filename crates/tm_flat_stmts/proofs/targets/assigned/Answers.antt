use Rattle.std.proofs.Common.{sym, subst}
use Rattle.tm_syntax.specs.declared.design.Ty.{Ty}
use Rattle.tm_syntax.specs.Tree.View.{expr_tree}
use Rattle.tm_scope.specs.Types.{ty_of}
use Rattle.tm_design.specs.Typed.{HasTypeAt}
use Rattle.tm_flat_stmts.specs.Targets.{HasTargetAt}
use Rattle.tm_flat_stmts.proofs.Assigning.{assigned_so}
use Rattle.tm_flat_stmts.proofs.targets.assigned.Goals as goal

pub value_operand-requires-clause-typed : goal.value_operand-requires-clause-typed
value_operand-requires-clause-typed c =
    subst (λ (ty : Ty). HasTypeAt c.args.reader.now ty (expr_tree c.args.e.now))
    (sym (c.target_type-asked.ensures c.requires.typed.0 c.requires.typed.1)) c.requires.typed.2

pub returns : goal.returns
returns c =
    assigned_so c.args.reader.now c.args.path.now (ty_of c.target_type-asked.result) (expr_tree c.args.e.now)
    c.args.terms.now c.value_operand.new.terms c.args.flow c.in_ok-goes.goes c.args.ends.now c.value_operand.new.ends
    c.in_ok-valued.valued c.requires.settled c.requires.apart
    (subst (λ (ty : Ty). HasTargetAt c.args.reader.now ty c.args.path.now)
    (sym (c.target_type-asked.ensures c.requires.typed.0 c.requires.typed.1)) c.requires.typed.1)
    c.in_ok-valued.ensures c.in_ok-goes.ensures
