use Rattle.std.proofs.Common.{sym, ◌∙◌}
use Rattle.tm_syntax.specs.Tree.View.{expr_tree}
use Rattle.tm_scope.specs.Types.{ty_of}
use Rattle.tm_design.proofs.OperandParts.{asks_asked, asks_joint, first_operand, second_operand}
use Rattle.tm_design.proofs.types.operand_type.Goals as goal

pub returns-in-Arithmetic-clause-asks : goal.returns-in-Arithmetic-clause-asks
returns-in-Arithmetic-clause-asks c =
    asks_asked c.args.scope.now (ty_of c.args.asked) c.requires.0 c.args.op (expr_tree c.args.a.now)
    (expr_tree c.args.b.now) c.requires.1 (sym c.sort_of.ensures ∙ c.in-Arithmetic.is)

pub returns-in-Comparison-clause-first : goal.returns-in-Comparison-clause-first
returns-in-Comparison-clause-first c =
    let s = c.args.scope.now in
    let asked = ty_of c.args.asked in
    let a = expr_tree c.args.a.now in
    let b = expr_tree c.args.b.now in
    first_operand s asked c.requires.0 c.args.op a b c.requires.1 (ty_of c.joint_type.result)
    (λ d has. c.joint_type.ensures d has
    ∙ asks_joint s asked c.requires.0 c.args.op a b c.requires.1 (sym c.sort_of.ensures ∙ c.in-Comparison.is) d has)

pub returns-in-Comparison-clause-second : goal.returns-in-Comparison-clause-second
returns-in-Comparison-clause-second c =
    let s = c.args.scope.now in
    let asked = ty_of c.args.asked in
    let a = expr_tree c.args.a.now in
    let b = expr_tree c.args.b.now in
    second_operand s asked c.requires.0 c.args.op a b c.requires.1 (ty_of c.joint_type.result)
    (λ d has. c.joint_type.ensures d has
    ∙ asks_joint s asked c.requires.0 c.args.op a b c.requires.1 (sym c.sort_of.ensures ∙ c.in-Comparison.is) d has)
