use Rattle.std.proofs.Common.{◌≡◌, sym, ap, ◌∙◌, refl, subst}
use Rattle.std.specs.Option.{option_map, option_map_or}
use Rattle.tm_syntax.specs.declared.tree.TypeName.{TypeName}
use Rattle.tm_syntax.specs.Scopes.Parts.{written_result}
use Rattle.tm_syntax.specs.Tree.View.{expr_tree}
use Rattle.tm_syntax.specs.Scopes.Names.{type_of}
use Rattle.tm_scope.specs.Types.{ty_of}
use Rattle.tm_design.specs.Typed.{HasTypeAt}
use Rattle.tm_plain_bodies.proofs.Answering.{answered_so}
use Rattle.tm_plain_bodies.proofs.frame.CalledTask.answer.Goals as goal

pub operand-requires : goal.operand-requires
operand-requires c =
    subst (λ ty. HasTypeAt c.args.self.now.frame.reader ty (expr_tree c.in-Some.e)) (sym c.of-ty.ensures)
    (c.requires.typed c.answer_type.result.now (expr_tree c.in-Some.e) c.answer_type.ensures
    (ap (option_map expr_tree) c.in-Some.is))

pub returns-in_ok-put-in-Some-clause-answered : goal.returns-in_ok-put-in-Some-clause-answered
returns-in_ok-put-in-Some-clause-answered c = λ ty kind.
    let same : c.answer_type.result.now ≡ ty =
    ap (λ o. option_map_or (λ (t : TypeName). t) o ty) (ap written_result (sym c.answer_type.ensures ∙ kind)) in
    answered_so c.args.outer.now c.args.self.now.frame.reader (type_of ty) (ty_of c.of-ty.result)
    (option_map expr_tree c.args.self.now.task.now.body.answer) (expr_tree c.in-Some.e) c.args.cell c.args.course.now
    c.operand.new.course _ c.in_ok-value-in-Some.value (ap (option_map expr_tree) c.in-Some.is)
    (c.of-ty.ensures ∙ ap type_of same) c.operand.ensures.same refl refl c.in_ok-value-in-Some.ensures.value
    c.in_ok-put-in-Some.ensures
