use Rattle.std.proofs.Common.{[], ◌∷◌, sym, subst}
use Rattle.tm_syntax.specs.declared.design.Ty.{Ty}
use Rattle.tm_syntax.specs.Tree.{element}
use Rattle.tm_syntax.specs.Tree.View.{expr_tree}
use Rattle.tm_scope.specs.Types.{ty_of}
use Rattle.tm_design.specs.Typed.{HasTypeAt}
use Rattle.tm_flat_stmts.specs.Targets.{HasTargetAt}
use Rattle.tm_flat_stmts.proofs.Valuing.{operands_ends, operands_flow, operands_sound}
use Rattle.tm_flat_stmts.proofs.IntoElements.{element_assigned, element_target}
use Rattle.tm_flat_stmts.proofs.elements.assigned_element.Goals as goal

pub element-requires-clause-typed : goal.element-requires-clause-typed
element-requires-clause-typed c =
    subst (λ (ty : Ty). HasTypeAt c.args.reader.now ty (element c.args.path.now (expr_tree c.args.index.now)))
    (sym (c.target_type-asked.ensures c.requires.typed.0
    (element_target c.args.reader.now c.requires.typed.0 c.args.path.now (expr_tree c.args.index.now)
    c.requires.typed.1)))
    c.requires.typed.1

pub value_operand-requires-clause-typed : goal.value_operand-requires-clause-typed
value_operand-requires-clause-typed c =
    subst (λ (ty : Ty). HasTypeAt c.args.reader.now ty (expr_tree c.args.e.now))
    (sym (c.target_type-asked.ensures c.requires.typed.0
    (element_target c.args.reader.now c.requires.typed.0 c.args.path.now (expr_tree c.args.index.now)
    c.requires.typed.1)))
    c.requires.typed.2

pub value_operand-requires-clause-sound : goal.value_operand-requires-clause-sound
value_operand-requires-clause-sound c =
    operands_sound c.args.reader.now (element c.args.path.now (expr_tree c.args.index.now) ∷ []) c.args.terms.now
    c.element.new.terms c.args.flow c.args.ends.now c.in_ok-within.within.flow c.element.new.ends
    c.in_ok-within.ensures.asks

pub value_operand-requires-clause-flow : goal.value_operand-requires-clause-flow
value_operand-requires-clause-flow c =
    operands_flow c.args.reader.now (element c.args.path.now (expr_tree c.args.index.now) ∷ []) c.args.terms.now
    c.element.new.terms c.args.flow c.args.ends.now c.in_ok-within.within.flow c.element.new.ends
    c.in_ok-within.ensures.asks

pub value_operand-requires-clause-ends : goal.value_operand-requires-clause-ends
value_operand-requires-clause-ends c =
    operands_ends c.args.reader.now (element c.args.path.now (expr_tree c.args.index.now) ∷ []) c.args.terms.now
    c.element.new.terms c.args.flow c.args.ends.now c.in_ok-within.within.flow c.element.new.ends
    c.in_ok-within.ensures.asks

pub put_element-requires-clause-typed : goal.put_element-requires-clause-typed
put_element-requires-clause-typed c =
    subst (λ (ty : Ty). HasTypeAt c.args.reader.now ty (element c.args.path.now (expr_tree c.args.index.now)))
    (sym (c.target_type-asked.ensures c.requires.typed.0
    (element_target c.args.reader.now c.requires.typed.0 c.args.path.now (expr_tree c.args.index.now)
    c.requires.typed.1)))
    c.requires.typed.1

pub put_element-requires-clause-sound : goal.put_element-requires-clause-sound
put_element-requires-clause-sound c =
    operands_sound c.args.reader.now (expr_tree c.args.e.now ∷ []) c.element.new.terms c.value_operand.new.terms
    c.in_ok-within.within.flow c.element.new.ends c.in_ok-valued.valued.flow c.value_operand.new.ends
    c.in_ok-valued.ensures.asks

pub put_element-requires-clause-flow : goal.put_element-requires-clause-flow
put_element-requires-clause-flow c =
    operands_flow c.args.reader.now (expr_tree c.args.e.now ∷ []) c.element.new.terms c.value_operand.new.terms
    c.in_ok-within.within.flow c.element.new.ends c.in_ok-valued.valued.flow c.value_operand.new.ends
    c.in_ok-valued.ensures.asks

pub put_element-requires-clause-term : goal.put_element-requires-clause-term
put_element-requires-clause-term c = c.in_ok-valued.ensures.value.term

pub returns : goal.returns
returns c =
    element_assigned c.args.reader.now c.args.path.now (expr_tree c.args.index.now) (ty_of c.target_type-asked.result)
    (expr_tree c.args.e.now) c.args.terms.now c.element.new.terms c.value_operand.new.terms c.put_element.new.terms
    c.args.flow c.in_ok-goes.goes c.args.ends.now c.element.new.ends c.value_operand.new.ends c.in_ok-within.within
    c.in_ok-valued.valued c.requires.settled
    (subst (λ (ty : Ty). HasTargetAt c.args.reader.now ty c.args.path.now)
    (sym (c.target_type-asked.ensures c.requires.typed.0
    (element_target c.args.reader.now c.requires.typed.0 c.args.path.now (expr_tree c.args.index.now)
    c.requires.typed.1)))
    (element_target c.args.reader.now c.requires.typed.0 c.args.path.now (expr_tree c.args.index.now)
    c.requires.typed.1))
    c.in_ok-within.ensures c.in_ok-valued.ensures c.in_ok-goes.ensures
