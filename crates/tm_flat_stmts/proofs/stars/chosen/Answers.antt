use Rattle.std.proofs.Common.{◌+◌, ◌^◌, Some, None, sym, ◌∙◌, subst}
use Rattle.std.specs.Prelude.{unwrap_or}
use Rattle.tm_syntax.specs.declared.design.Ty.{Ty}
use Rattle.tm_syntax.specs.Tree.{assign, star}
use Rattle.tm_scope.specs.Types.{ty_of}
use Rattle.tm_typing.specs.HasType.{IsSized}
use Rattle.tm_flat_exprs.specs.Valued.{bits_in}
use Rattle.tm_flat_exprs.proofs.Later.{Extends-refl, term_along}
use Rattle.tm_flat_stmts.specs.Flows.{FlowTerms}
use Rattle.tm_flat_stmts.specs.Statements.{LeadsThrough}
use Rattle.tm_flat_stmts.proofs.Choosing.{bits_here, chosen_so, count_told, number_told, width_told}
use Rattle.tm_flat_stmts.proofs.stars.chosen.Goals as goal

pub type_bits-width-requires : goal.type_bits-width-requires
type_bits-width-requires c =
    subst (λ (ty : Ty). IsSized ty) (sym (c.target_type-ty.ensures c.requires.typed.0 c.requires.typed.1))
    c.requires.typed.1.sized

pub type_size-requires : goal.type_size-requires
type_size-requires c =
    subst (λ (ty : Ty). IsSized ty) (sym (c.target_type-ty.ensures c.requires.typed.0 c.requires.typed.1))
    c.requires.typed.1.sized

pub choice_number-requires-clause-width : goal.choice_number-requires-clause-width
choice_number-requires-clause-width c = c.type_bits-width.ensures.is_width

pub choice_number-requires-clause-bits : goal.choice_number-requires-clause-bits
choice_number-requires-clause-bits c =
    bits_here c.args.terms.now c.args.terms.now c.args.first c.args.flow.position c.position-start.result
    (bits_in c.args.reader.now c.requires.typed.0) c.type_bits-width.result (Extends-refl c.args.terms.now)
    c.position-start.ensures
    (width_told c.args.reader.now c.scopes.result.now c.requires.typed.0 (ty_of c.target_type-ty.result)
    c.type_bits-width.result c.scopes.ensures (c.target_type-ty.ensures c.requires.typed.0 c.requires.typed.1)
    c.type_bits-width.ensures.bits) c.requires.typed.2

pub within-requires-clause-sound : goal.within-requires-clause-sound
within-requires-clause-sound c = c.in_ok-number.ensures.sound

pub within-requires-clause-guard : goal.within-requires-clause-guard
within-requires-clause-guard c =
    term_along c.args.terms.now c.choice_number.new.terms 1 c.args.flow.guard c.in_ok-number.ensures.grown
    c.requires.flow.guard

pub within-requires-clause-width : goal.within-requires-clause-width
within-requires-clause-width c = c.type_bits-width.ensures.is_width

pub within-requires-clause-term : goal.within-requires-clause-term
within-requires-clause-term c = c.in_ok-number.ensures.term

pub returns : goal.returns
returns c = λ at ends are.
    let same = c.target_type-ty.ensures c.requires.typed.0 c.requires.typed.1 in
    let width = width_told c.args.reader.now c.scopes.result.now c.requires.typed.0 (ty_of c.target_type-ty.result)
    c.type_bits-width.result c.scopes.ensures same c.type_bits-width.ensures.bits in
    subst (λ (g : FlowTerms). LeadsThrough c.args.reader.now c.args.first (assign c.args.path.now None (star at))
    c.args.terms.now c.within.new.terms c.args.flow ends (Some g) ends)
    (sym (c.moved.ensures
    ∙ (λ i. record {
      guard = c.in_ok-chosen.chosen.guard;
      memory = c.in_ok-chosen.chosen.memory;
      position = c.position-start.ensures i + (c.from.ensures ∙ width) i;
    })))
    (chosen_so c.args.reader.now c.args.path.now c.requires.typed.0 c.args.first
    (unwrap_or c.type_size.result (2 ^ 64)) c.args.terms.now c.choice_number.new.terms c.within.new.terms c.args.flow
    c.in_ok-goes.goes c.in_ok-chosen.chosen ends c.in_ok-number.number c.requires.settled c.requires.apart
    c.requires.typed.1 c.requires.there c.requires.flow are
    (number_told c.args.terms.now c.choice_number.new.terms c.in_ok-number.number c.args.first c.args.flow.position
    c.position-start.result (bits_in c.args.reader.now c.requires.typed.0) c.type_bits-width.result
    c.position-start.ensures width c.in_ok-number.ensures)
    (count_told c.args.reader.now c.scopes-2.result.now c.requires.typed.0 (ty_of c.target_type-ty.result)
    (unwrap_or c.type_size.result (2 ^ 64)) c.scopes-2.ensures same c.type_size.ensures)
    c.in_ok-goes.ensures c.in_ok-chosen.ensures at)
