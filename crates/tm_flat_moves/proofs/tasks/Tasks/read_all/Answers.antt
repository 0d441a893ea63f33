use Rattle.std.proofs.Common.{◌+◌, ◌<◌, ◌^◌, sym, ap, ◌∙◌, subst, arith}
use Rattle.std.proofs.lemmas.Option.{slice_get-get_or}
use Rattle.tm_syntax.specs.declared.tree.Param.{Param}
use Rattle.tm_syntax.specs.Scopes.Names.{type_of}
use Rattle.tm_syntax.specs.Design.View.{design_tree}
use Rattle.tm_syntax.specs.Tree.View.{spec_tree}
use Rattle.tm_flat.specs.Inputs.{first_choice, room}
use Rattle.tm_scope.specs.declared.cells.site_body.CellNumber.TheVariants.{State}
use Rattle.tm_flat_bodies.proofs.Passed.{param_here}
use Rattle.tm_flat_exprs.specs.Tables.{cells_of}
use Rattle.tm_flat_moves.specs.Arguments.{params_of}
use Rattle.tm_flat_moves.proofs.Parameters.{ReadSoFar, as_many, parameter_by, position_by, read_begins, read_by, read_ends, sized_by}
use Rattle.tm_flat_moves.proofs.tasks.Tasks.read_all.Goals as goal

pub loop-index-init : goal.loop-index-init
loop-index-init c =
    let m = c.args.self.now in
    read_begins (cells_of m.design.now) (design_tree m.design.now) c.args.at c.args.cells.now c.args.params.now
    c.requires.parameters c.args.terms.now c.args.flow c.requires.sound c.requires.flow

pub offset_bounds-params-index : goal.offset_bounds-params-index
offset_bounds-params-index c =
    let m = c.args.self.now in
    let d = design_tree m.design.now in
    let many = (as_many (cells_of m.design.now) d c.args.at c.args.cells.now c.args.params.now (params_of d c.args.at)
    c.requires.parameters.are c.requires.parameters.typed).0 in
    omega (arith, many, c.loop-index-test.true)

pub bounds-params-index : goal.bounds-params-index
bounds-params-index c =
    let m = c.args.self.now in
    let d = design_tree m.design.now in
    let many = (as_many (cells_of m.design.now) d c.args.at c.args.cells.now c.args.params.now (params_of d c.args.at)
    c.requires.parameters.are c.requires.parameters.typed).0 in
    omega (arith, many, c.loop-index-test.true)

pub read_argument-requires-clause-parameter : goal.read_argument-requires-clause-parameter
read_argument-requires-clause-parameter c =
    let m = c.args.self.now in
    let d = design_tree m.design.now in
    let many = (as_many (cells_of m.design.now) d c.args.at c.args.cells.now c.args.params.now (params_of d c.args.at)
    c.requires.parameters.are c.requires.parameters.typed).0 in
    parameter_by (cells_of m.design.now) d c.args.at c.args.cells.now c.args.params.now c.requires.parameters
    c.args.terms.now c.args.flow c.loop-index.index c.loop-index.terms c.loop-index.position c.loop-index.goes
    c.loop-index.invariant _ c.index-params-index.result
    (slice_get-get_or c.args.cells.now c.loop-index.index _ c.loop-index-test.true)
    (param_here c.args.params.now c.loop-index.index c.index-params-index.result
    (omega (arith, many, c.loop-index-test.true)) c.index-params-index.is)
    _ (c.of-ty.ensures ∙ ap (λ (p : Param). type_of p.ty) (sym c.index-params-index.is))

pub read_argument-requires-clause-inputs : goal.read_argument-requires-clause-inputs
read_argument-requires-clause-inputs c = c.loop-index.invariant.grown.inputs ∙ c.requires.inputs

pub read_argument-requires-clause-sound : goal.read_argument-requires-clause-sound
read_argument-requires-clause-sound c = c.loop-index.invariant.sound

pub read_argument-requires-clause-flow : goal.read_argument-requires-clause-flow
read_argument-requires-clause-flow c = c.loop-index.invariant.flow

pub type_bits-requires : goal.type_bits-requires
type_bits-requires c =
    let m = c.args.self.now in
    let d = design_tree m.design.now in
    let many = (as_many (cells_of m.design.now) d c.args.at c.args.cells.now c.args.params.now (params_of d c.args.at)
    c.requires.parameters.are c.requires.parameters.typed).0 in
    sized_by (cells_of m.design.now) d c.args.at c.args.cells.now c.args.params.now c.requires.parameters
    c.args.terms.now c.args.flow c.loop-index.index c.loop-index.terms c.loop-index.position c.loop-index.goes
    c.loop-index.invariant _ c.index-params-index.result
    (slice_get-get_or c.args.cells.now c.loop-index.index (State 0) c.loop-index-test.true)
    (param_here c.args.params.now c.loop-index.index c.index-params-index.result
    (omega (arith, many, c.loop-index-test.true)) c.index-params-index.is)
    _ (c.of-ty.ensures ∙ ap (λ (p : Param). type_of p.ty) (sym c.index-params-index.is))

pub overflow_add-position : goal.overflow_add-position
overflow_add-position c =
    let m = c.args.self.now in
    let d = design_tree m.design.now in
    let many = (as_many (cells_of m.design.now) d c.args.at c.args.cells.now c.args.params.now (params_of d c.args.at)
    c.requires.parameters.are c.requires.parameters.typed).0 in
    let within = position_by (cells_of m.design.now) d c.args.at c.args.cells.now c.args.params.now
    c.requires.parameters c.args.terms.now c.args.flow c.loop-index.index c.loop-index.terms c.loop-index.position
    c.loop-index.goes c.loop-index.invariant _ c.index-params-index.result
    (slice_get-get_or c.args.cells.now c.loop-index.index (State 0) c.loop-index-test.true)
    (param_here c.args.params.now c.loop-index.index c.index-params-index.result
    (omega (arith, many, c.loop-index-test.true)) c.index-params-index.is)
    _ (c.of-ty.ensures ∙ ap (λ (p : Param). type_of p.ty) (sym c.index-params-index.is)) (spec_tree m.scopes.now)
    (ap spec_tree m.same_text) c.type_bits.result c.type_bits.ensures.bits in
    let few : first_choice d + (room + room) < 2 ^ 32 = c.requires.few in
    omega (arith, within, few, c.from-position.ensures)

pub loop-index-preserved : goal.loop-index-preserved
loop-index-preserved c =
    let m = c.args.self.now in
    let d = design_tree m.design.now in
    let x = cells_of m.design.now in
    let many = (as_many (cells_of m.design.now) d c.args.at c.args.cells.now c.args.params.now (params_of d c.args.at)
    c.requires.parameters.are c.requires.parameters.typed).0 in
    subst (λ w. ReadSoFar x d c.args.at c.args.terms.now (c.loop-index.index + 1) c.read_argument.new.terms
    (c.loop-index.position + w) c.args.flow c.in_ok-goes.goes) (sym c.from-position.ensures)
    (read_by (cells_of m.design.now) d c.args.at c.args.cells.now c.args.params.now c.requires.parameters
    c.args.terms.now c.args.flow c.loop-index.index c.loop-index.terms c.loop-index.position c.loop-index.goes
    c.loop-index.invariant _ c.index-params-index.result
    (slice_get-get_or c.args.cells.now c.loop-index.index _ c.loop-index-test.true)
    (param_here c.args.params.now c.loop-index.index c.index-params-index.result
    (omega (arith, many, c.loop-index-test.true)) c.index-params-index.is)
    _ (c.of-ty.ensures ∙ ap (λ (p : Param). type_of p.ty) (sym c.index-params-index.is)) (spec_tree m.scopes.now)
    (ap spec_tree m.same_text) c.type_bits.result c.type_bits.ensures.bits c.read_argument.new.terms
    c.in_ok-goes.goes c.in_ok-goes.ensures)

pub returns : goal.returns
returns c =
    let m = c.args.self.now in
    read_ends (cells_of m.design.now) (design_tree m.design.now) c.args.at c.args.cells.now c.args.params.now
    c.requires.parameters c.args.terms.now c.args.flow c.loop-index.index c.loop-index.terms c.loop-index.position
    c.loop-index.goes c.loop-index.invariant (omega (arith, c.loop-index-test.false))
