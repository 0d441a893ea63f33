use Rattle.std.proofs.Common.{◌≡◌, ◌+◌, ◌<◌, ◌^◌, ap, arith}
use Rattle.std.specs.Prelude.{unwrap_or}
use Rattle.tm_syntax.specs.Design.View.{design_tree}
use Rattle.tm_syntax.specs.Tree.View.{spec_tree}
use Rattle.tm_flat.specs.Inputs.{first_choice, room}
use Rattle.tm_flat_exprs.proofs.Later.{term_along}
use Rattle.tm_flat_exprs.specs.Tables.{cells_of}
use Rattle.tm_flat_moves.proofs.Parameters.{argument_within, asked_is, cell_typed}
use Rattle.tm_flat_moves.proofs.ReadingArguments.{argument_inputs, first_argument, reads_by}
use Rattle.tm_flat_moves.proofs.tasks.Tasks.read_argument.Goals as goal

pub overflow_add-first : goal.overflow_add-first
overflow_add-first c =
    let d = design_tree c.args.self.now.design.now in
    let first : c.first-first.result + 64 ≡ first_choice d + room =
    first_argument d c.first-first.result c.first-first.ensures in
    let few : first_choice d + (room + room) < 2 ^ 32 = c.requires.few in
    omega (arith, first, few)

pub type_bits-width-requires : goal.type_bits-width-requires
type_bits-width-requires c = c.requires.parameter.1.sized

pub choice_number-requires-clause-sound : goal.choice_number-requires-clause-sound
choice_number-requires-clause-sound c = c.requires.sound

pub choice_number-requires-clause-width : goal.choice_number-requires-clause-width
choice_number-requires-clause-width c = c.type_bits-width.ensures.is_width

pub choice_number-requires-clause-bits : goal.choice_number-requires-clause-bits
choice_number-requires-clause-bits c =
    let m = c.args.self.now in
    let d = design_tree m.design.now in
    argument_inputs d c.args.terms.now c.requires.inputs c.requires.few (c.first-first.result + 64) c.args.position
    c.type_bits-width.result (first_argument d c.first-first.result c.first-first.ensures)
    (argument_within (cells_of m.design.now) d c.args.at c.args.cell _ c.requires.parameter.0 c.args.position
    c.requires.parameter.1 (spec_tree m.scopes.now) (ap spec_tree m.same_text) c.type_bits-width.result
    c.type_bits-width.ensures.bits)

pub type_size-size-requires : goal.type_size-size-requires
type_size-size-requires c = c.requires.parameter.1.sized

pub within-requires-clause-sound : goal.within-requires-clause-sound
within-requires-clause-sound c = c.in_ok-number.ensures.sound

pub within-requires-clause-guard : goal.within-requires-clause-guard
within-requires-clause-guard c =
    term_along c.args.terms.now c.choice_number.new.terms 1 c.args.flow.guard c.in_ok-number.ensures.grown
    c.requires.flow.guard

pub within-requires-clause-width : goal.within-requires-clause-width
within-requires-clause-width c = c.type_bits-width.ensures.is_width

pub within-requires-clause-term : goal.within-requires-clause-term
within-requires-clause-term c = c.in_ok-number.ensures.term

pub returns : goal.returns
returns c = λ cell is.
    let m = c.args.self.now in
    let d = design_tree m.design.now in
    reads_by (cells_of m.design.now) d c.args.at c.args.cell cell _ c.args.position is.there
    (cell_typed (cells_of m.design.now) d is.cells c.args.at c.args.cell cell _ is.there is.typed)
    (asked_is d cell _ is.typed) is.cells.text is.apart (spec_tree m.scopes.now) (ap spec_tree m.same_text)
    (c.first-first.result + 64) c.type_bits-width.result (unwrap_or c.type_size-size.result (2 ^ 64))
    (first_argument d c.first-first.result c.first-first.ensures) c.type_bits-width.ensures.bits
    c.type_size-size.ensures c.args.terms.now c.choice_number.new.terms c.within.new.terms c.args.flow
    c.in_ok-goes.goes c.in_ok-given.given c.in_ok-number.number c.requires.flow c.in_ok-number.ensures
    c.in_ok-goes.ensures c.in_ok-given.ensures
