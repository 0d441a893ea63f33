use Rattle.std.proofs.Common.{[], ◌∷◌, sym, ap, ◌∙◌, subst}
use Rattle.std.specs.Option.{option_map}
use Rattle.tm_syntax.specs.declared.design.Ty.{Ty}
use Rattle.tm_syntax.specs.Tree.{BodyTree}
use Rattle.tm_syntax.specs.Tree.View.{expr_tree}
use Rattle.tm_scope.specs.Cells.{CellTables, HasCells, scope_of}
use Rattle.tm_scope.specs.Types.{ty_of}
use Rattle.tm_design.specs.Typed.{HasTypeAt}
use Rattle.tm_flat.specs.Steps.{IsTerm}
use Rattle.tm_flat_exprs.specs.Valued.{bits_in}
use Rattle.tm_flat_stmts.specs.Flows.{AreEnds, IsFlow}
use Rattle.tm_flat_stmts.specs.Statements.{AsksOne}
use Rattle.tm_flat_stmts.specs.Targets.{HasTargetAt}
use Rattle.tm_flat_stmts.proofs.Valuing.{operands_flow, operands_grown, operands_sound}
use Rattle.tm_flat_stmts.specs.Places.{place_cell, place_writes}
use Rattle.tm_flat_bodies.proofs.Aiming.{place_known}
use Rattle.tm_flat_bodies.proofs.Answering.{none_returned, one_returned}
use Rattle.tm_flat_bodies.proofs.passing.answer.Goals as goal

pub returns-in-None : goal.returns-in-None
returns-in-None c = λ d has k scope body number.
    let s = c.args.outer.now in
    none_returned s.tables c.args.course.now.terms c.args.flow c.args.course.now.ends c.requires.sound c.requires.flow
    c.requires.ends d (λ v. place_cell c.args.course.now.terms v d (scope_of s.at) c.args.path.now c.args.place.now)
    (λ i. place_writes d (scope_of s.at) i c.args.path.now c.args.place.now) k
    (ap (λ (b : BodyTree). b.answer) body ∙ ap (option_map expr_tree) c.in-None.is) number

pub value_operand-requires-clause-typed : goal.value_operand-requires-clause-typed
value_operand-requires-clause-typed c =
    subst (λ (ty : Ty). HasTypeAt c.args.inner.now.reader ty (expr_tree c.in-Some.e))
    (sym (c.target_type-asked.ensures c.requires.typed.0 c.requires.typed.1))
    (c.requires.typed.2 (expr_tree c.in-Some.e) (ap (option_map expr_tree) c.in-Some.is))

pub value_operand-requires-clause-settled : goal.value_operand-requires-clause-settled
value_operand-requires-clause-settled c = λ d has.
    c.requires.settled d (subst (λ (x : CellTables). HasCells x d) c.requires.tables has)

pub value_operand-requires-clause-flow : goal.value_operand-requires-clause-flow
value_operand-requires-clause-flow c =
    subst (λ (x : CellTables). IsFlow x c.args.course.now.terms c.args.flow) (sym c.requires.tables) c.requires.flow

pub value_operand-requires-clause-ends : goal.value_operand-requires-clause-ends
value_operand-requires-clause-ends c =
    subst (λ (x : CellTables). AreEnds x c.args.course.now.terms c.args.course.now.ends) (sym c.requires.tables)
    c.requires.ends

pub put_at-requires-clause-typed : goal.put_at-requires-clause-typed
put_at-requires-clause-typed c =
    subst (λ (ty : Ty). HasTargetAt c.args.outer.now ty c.args.path.now)
    (sym (c.target_type-asked.ensures c.requires.typed.0 c.requires.typed.1)) c.requires.typed.1

pub put_at-requires-clause-sound : goal.put_at-requires-clause-sound
put_at-requires-clause-sound c =
    operands_sound c.args.inner.now.reader (expr_tree c.in-Some.e ∷ []) c.args.course.now.terms
    c.value_operand.new.terms c.args.flow c.args.course.now.ends c.in_ok-valued-in-Some.valued.flow
    c.value_operand.new.ends c.in_ok-valued-in-Some.ensures.asks

pub put_at-requires-clause-flow : goal.put_at-requires-clause-flow
put_at-requires-clause-flow c =
    subst (λ (x : CellTables). IsFlow x c.value_operand.new.terms c.in_ok-valued-in-Some.valued.flow) c.requires.tables
    (operands_flow c.args.inner.now.reader (expr_tree c.in-Some.e ∷ []) c.args.course.now.terms
    c.value_operand.new.terms c.args.flow c.args.course.now.ends c.in_ok-valued-in-Some.valued.flow
    c.value_operand.new.ends c.in_ok-valued-in-Some.ensures.asks)

pub put_at-requires-clause-place : goal.put_at-requires-clause-place
put_at-requires-clause-place c =
    place_known c.args.course.now.terms c.value_operand.new.terms c.args.place.now
    (operands_grown c.args.inner.now.reader (expr_tree c.in-Some.e ∷ []) c.args.course.now.terms
    c.value_operand.new.terms c.args.flow c.args.course.now.ends c.in_ok-valued-in-Some.valued.flow
    c.value_operand.new.ends c.in_ok-valued-in-Some.ensures.asks) c.requires.place

pub put_at-requires-clause-term : goal.put_at-requires-clause-term
put_at-requires-clause-term c =
    subst (λ (x : CellTables). IsTerm c.value_operand.new.terms
    (bits_in (record { tables = x; at = c.args.inner.now.reader.at }) (ty_of c.target_type-asked.result))
    c.in_ok-valued-in-Some.valued.value) c.requires.tables c.in_ok-valued-in-Some.ensures.value.term

pub returns-in_ok-goes-in-Some : goal.returns-in_ok-goes-in-Some
returns-in_ok-goes-in-Some c = λ d has k scope body number.
    let s = c.args.outer.now in
    let inner = c.args.inner.now.reader in
    let e = expr_tree c.in-Some.e in
    let ty = c.requires.typed.0 in
    let asked = c.target_type-asked.ensures ty c.requires.typed.1 in
    let asks = subst (λ (x : CellTables). AsksOne (record { tables = x; at = inner.at }) ty e c.args.course.now.terms
    c.value_operand.new.terms c.args.flow c.args.course.now.ends c.value_operand.new.ends c.in_ok-valued-in-Some.valued)
    c.requires.tables
    (subst (λ (a : Ty). AsksOne inner a e c.args.course.now.terms c.value_operand.new.terms c.args.flow
    c.args.course.now.ends c.value_operand.new.ends c.in_ok-valued-in-Some.valued) asked
    c.in_ok-valued-in-Some.ensures) in
    one_returned s.tables s.at inner.at c.args.path.now ty e c.args.place.now c.args.course.now.terms
    c.value_operand.new.terms c.put_at.new.terms c.args.flow c.in_ok-goes-in-Some.goes c.args.course.now.ends
    c.value_operand.new.ends c.in_ok-valued-in-Some.valued c.requires.settled c.requires.typed.1 c.requires.place asks
    c.in_ok-goes-in-Some.ensures d has k scope
    (ap (λ (b : BodyTree). b.answer) body ∙ ap (option_map expr_tree) c.in-Some.is) number
