use Rattle.std.proofs.Common.{◌≡◌, ◌+◌, ◌^◌, ◌<◌, Some, [], ◌∷◌, refl, sym, ◌∙◌, subst, arith}
use Rattle.std.specs.Prelude.{unwrap_or}
use Rattle.tm_syntax.specs.declared.design.Ty.{Ty}
use Rattle.tm_syntax.specs.Tree.{assign, element, star}
use Rattle.tm_syntax.specs.Tree.View.{expr_tree}
use Rattle.tm_scope.specs.Types.{ty_of}
use Rattle.tm_typing.specs.HasType.{IsSized}
use Rattle.tm_design.specs.Typed.{HasTypeAt}
use Rattle.tm_design.proofs.OperandParts.{sized_at}
use Rattle.tm_flat.specs.Steps.{IsTerm}
use Rattle.tm_flat_exprs.specs.Valued.{bits_in}
use Rattle.tm_flat_exprs.proofs.Later.{term_along}
use Rattle.tm_flat_stmts.specs.Flows.{FlowTerms}
use Rattle.tm_flat_stmts.specs.Statements.{AsksOne, LeadsThrough}
use Rattle.tm_flat_stmts.proofs.Flowing.{flow_along}
use Rattle.tm_flat_stmts.proofs.Pieces.{is_narrowed}
use Rattle.tm_flat_stmts.proofs.Valuing.{operands_flow, operands_grown, operands_position, operands_sound}
use Rattle.tm_flat_stmts.proofs.Choosing.{bits_here, count_told, number_told, width_told}
use Rattle.tm_flat_stmts.proofs.ChoosingElement.{element_chosen, found_position}
use Rattle.tm_flat_stmts.proofs.IntoElements.{element_target}
use Rattle.tm_flat_stmts.proofs.stars.chosen_element.Goals as goal

pub element-requires-clause-typed : goal.element-requires-clause-typed
element-requires-clause-typed c =
    let s = c.args.reader.now in
    let index = expr_tree c.args.index.now in
    let typed = c.requires.typed.1 in
    subst (λ (ty : Ty). HasTypeAt s ty (element c.args.path.now index))
    (sym (c.target_type-ty.ensures c.requires.typed.0
    (element_target s c.requires.typed.0 c.args.path.now index typed))) typed

pub type_bits-width-requires : goal.type_bits-width-requires
type_bits-width-requires c =
    let s = c.args.reader.now in
    let index = expr_tree c.args.index.now in
    let typed = c.requires.typed.1 in
    subst IsSized
    (sym (c.target_type-ty.ensures c.requires.typed.0
    (element_target s c.requires.typed.0 c.args.path.now index typed))) (sized_at s typed)

pub type_size-size-requires : goal.type_size-size-requires
type_size-size-requires c =
    let s = c.args.reader.now in
    let index = expr_tree c.args.index.now in
    let typed = c.requires.typed.1 in
    subst IsSized
    (sym (c.target_type-ty.ensures c.requires.typed.0
    (element_target s c.requires.typed.0 c.args.path.now index typed))) (sized_at s typed)

pub choice_number-requires-clause-sound : goal.choice_number-requires-clause-sound
choice_number-requires-clause-sound c =
    operands_sound c.args.reader.now (element c.args.path.now (expr_tree c.args.index.now) ∷ []) c.args.terms.now
    c.element.new.terms c.args.flow c.args.ends.now c.in_ok-found.found.flow c.element.new.ends
    c.in_ok-found.ensures.asks

pub choice_number-requires-clause-width : goal.choice_number-requires-clause-width
choice_number-requires-clause-width c = c.type_bits-width.ensures.is_width

pub choice_number-requires-clause-bits : goal.choice_number-requires-clause-bits
choice_number-requires-clause-bits c =
    let s = c.args.reader.now in
    let index = expr_tree c.args.index.now in
    let es = element c.args.path.now index ∷ [] in
    let same = c.target_type-ty.ensures c.requires.typed.0
    (element_target s c.requires.typed.0 c.args.path.now index c.requires.typed.1) in
    bits_here c.args.terms.now c.element.new.terms c.args.first c.args.flow.position c.position-start.result
    (bits_in s c.requires.typed.0) c.type_bits-width.result
    (operands_grown s es c.args.terms.now c.element.new.terms c.args.flow c.args.ends.now c.in_ok-found.found.flow
    c.element.new.ends c.in_ok-found.ensures.asks)
    (c.position-start.ensures
    ∙ found_position (operands_position s es c.args.terms.now c.element.new.terms c.args.flow c.args.ends.now
    c.in_ok-found.found.flow c.element.new.ends c.in_ok-found.ensures.asks))
    (width_told s c.scopes.result.now c.requires.typed.0 (ty_of c.target_type-ty.result) c.type_bits-width.result
    c.scopes.ensures same c.type_bits-width.ensures.bits) c.requires.typed.2

pub within-requires-clause-sound : goal.within-requires-clause-sound
within-requires-clause-sound c = c.in_ok-number.ensures.sound

pub within-requires-clause-guard : goal.within-requires-clause-guard
within-requires-clause-guard c =
    term_along c.element.new.terms c.choice_number.new.terms 1 c.in_ok-found.found.flow.guard
    c.in_ok-number.ensures.grown
    (operands_flow c.args.reader.now (element c.args.path.now (expr_tree c.args.index.now) ∷ []) c.args.terms.now
    c.element.new.terms c.args.flow c.args.ends.now c.in_ok-found.found.flow c.element.new.ends
    c.in_ok-found.ensures.asks).guard

pub within-requires-clause-width : goal.within-requires-clause-width
within-requires-clause-width c = c.type_bits-width.ensures.is_width

pub within-requires-clause-term : goal.within-requires-clause-term
within-requires-clause-term c = c.in_ok-number.ensures.term

pub put_element-requires-clause-typed : goal.put_element-requires-clause-typed
put_element-requires-clause-typed c =
    let s = c.args.reader.now in
    let index = expr_tree c.args.index.now in
    let typed = c.requires.typed.1 in
    subst (λ (ty : Ty). HasTypeAt s ty (element c.args.path.now index))
    (sym (c.target_type-ty.ensures c.requires.typed.0
    (element_target s c.requires.typed.0 c.args.path.now index typed))) typed

pub put_element-requires-clause-sound : goal.put_element-requires-clause-sound
put_element-requires-clause-sound c = c.in_ok-goes.ensures.sound

pub put_element-requires-clause-flow : goal.put_element-requires-clause-flow
put_element-requires-clause-flow c =
    let s = c.args.reader.now in
    is_narrowed s.tables c.choice_number.new.terms c.within.new.terms c.in_ok-found.found.flow c.in_ok-goes.goes _
    c.in_ok-goes.ensures
    (flow_along s.tables c.element.new.terms c.choice_number.new.terms c.in_ok-found.found.flow
    c.in_ok-number.ensures.grown
    (operands_flow s (element c.args.path.now (expr_tree c.args.index.now) ∷ []) c.args.terms.now
    c.element.new.terms c.args.flow c.args.ends.now c.in_ok-found.found.flow c.element.new.ends
    c.in_ok-found.ensures.asks))

pub put_element-requires-clause-term : goal.put_element-requires-clause-term
put_element-requires-clause-term c =
    let s = c.args.reader.now in
    let asked = ty_of c.target_type-ty.result in
    let width = width_told s c.scopes.result.now asked asked c.type_bits-width.result c.scopes.ensures refl
    c.type_bits-width.ensures.bits in
    term_along c.choice_number.new.terms c.within.new.terms (bits_in s asked) c.in_ok-number.number
    c.in_ok-goes.ensures.grown
    (subst (λ w. IsTerm c.choice_number.new.terms w c.in_ok-number.number) width c.in_ok-number.ensures.term)

pub returns : goal.returns
returns c = λ at.
    let s = c.args.reader.now in
    let path = c.args.path.now in
    let index = expr_tree c.args.index.now in
    let ty = c.requires.typed.0 in
    let typed = c.requires.typed.1 in
    let target = element_target s ty path index typed in
    let same = c.target_type-ty.ensures ty target in
    let x = c.in_ok-found.found in
    let width = width_told s c.scopes.result.now ty (ty_of c.target_type-ty.result) c.type_bits-width.result
    c.scopes.ensures same c.type_bits-width.ensures.bits in
    subst (λ (g : FlowTerms). LeadsThrough s c.args.first (assign path (Some index) (star at)) c.args.terms.now
    c.put_element.new.terms c.args.flow c.args.ends.now (Some g) c.element.new.ends)
    (sym (c.moved.ensures
    ∙ (λ i. record {
      guard = c.in_ok-chosen.chosen.guard;
      memory = c.in_ok-chosen.chosen.memory;
      position = c.position-start.ensures i + (c.from.ensures ∙ width) i;
    })))
    (element_chosen s path index ty c.args.first (unwrap_or c.type_size-size.result (2 ^ 64)) c.args.terms.now
    c.element.new.terms c.choice_number.new.terms c.within.new.terms c.put_element.new.terms c.args.flow
    c.in_ok-goes.goes c.in_ok-chosen.chosen c.args.ends.now c.element.new.ends x c.in_ok-number.number
    c.requires.settled typed target c.requires.there
    (subst (λ (a : Ty). AsksOne s a (element path index) c.args.terms.now c.element.new.terms c.args.flow
    c.args.ends.now c.element.new.ends x) same c.in_ok-found.ensures)
    (number_told c.element.new.terms c.choice_number.new.terms c.in_ok-number.number c.args.first
    x.flow.position c.position-start.result (bits_in s ty) c.type_bits-width.result c.position-start.ensures width
    c.in_ok-number.ensures)
    (count_told s c.scopes-2.result.now ty (ty_of c.target_type-ty.result) (unwrap_or c.type_size-size.result (2 ^ 64))
    c.scopes-2.ensures same c.type_size-size.ensures)
    c.in_ok-goes.ensures c.in_ok-chosen.ensures at)

pub overflow_add-start : goal.overflow_add-start
overflow_add-start c =
    let s = c.args.reader.now in
    let index = expr_tree c.args.index.now in
    let es = element c.args.path.now index ∷ [] in
    let ty = c.requires.typed.0 in
    let same = c.target_type-ty.ensures ty (element_target s ty c.args.path.now index c.requires.typed.1) in
    let start : c.position-start.result ≡ c.args.flow.position =
    c.position-start.ensures
    ∙ found_position (operands_position s es c.args.terms.now c.element.new.terms c.args.flow c.args.ends.now
    c.in_ok-found.found.flow c.element.new.ends c.in_ok-found.ensures.asks) in
    let width : c.type_bits-width.result ≡ bits_in s ty =
    width_told s c.scopes.result.now ty (ty_of c.target_type-ty.result) c.type_bits-width.result c.scopes.ensures same
    c.type_bits-width.ensures.bits in
    let small : c.args.first + c.args.flow.position + bits_in s ty < 2 ^ 32 = c.requires.typed.2.small in
    omega (arith, start, width, small, c.from.ensures)
