use Rattle.std.proofs.Common.{◌≡◌, ◌+◌, ◌<◌, ◌^◌, length, sym, ap, ◌∙◌, subst, arith}
use Rattle.tm_syntax.specs.declared.design.Design.{Design}
use Rattle.tm_syntax.specs.Design.View.{design_tree}
use Rattle.tm_flat.specs.Inputs.{first_choice, input_widths, room}
use Rattle.tm_flat_stmts.specs.Flows.{IsFlow}
use Rattle.tm_locations.specs.Locations.{table_of}
use Rattle.tm_flat_moves.specs.Movable.{tables_by}
use Rattle.tm_flat_exprs.specs.Tables.{cells_of}
use Rattle.tm_flat_moves.specs.Arguments.{ReadsArguments, params_of}
use Rattle.tm_flat_moves.specs.Inner.Reading.{IsReadable}
use Rattle.tm_flat_moves.proofs.Entering.{entered}
use Rattle.tm_flat_moves.proofs.tasks.Tasks.enter.Goals as goal

pub begin-requires-clause-sound : goal.begin-requires-clause-sound
begin-requires-clause-sound c = c.requires.callable.sound

pub begin-requires-clause-guard : goal.begin-requires-clause-guard
begin-requires-clause-guard c = c.requires.turn.term

pub begin-requires-clause-inputs : goal.begin-requires-clause-inputs
begin-requires-clause-inputs c = c.requires.callable.inputs

pub begin-requires-clause-small : goal.begin-requires-clause-small
begin-requires-clause-small c =
    let d = design_tree c.args.mover.now.design.now in
    let few : first_choice d + (room + room) < 2 ^ 32 = c.requires.callable.few in
    omega (arith, few)

pub read_arguments-requires-clause-scope : goal.read_arguments-requires-clause-scope
read_arguments-requires-clause-scope c =
    c.scope.ensures ∙ c.requires.stand.reader
    ∙ (λ i. record { tables = cells_of (c.requires.design i); at = c.args.called.now.at })

pub read_arguments-requires-clause-readable : goal.read_arguments-requires-clause-readable
read_arguments-requires-clause-readable c =
    subst (λ (d : Design). IsReadable (cells_of d) (design_tree d) c.args.called.now.at c.args.called.now.task.now)
    c.requires.design c.requires.callable.readable

pub read_arguments-requires-clause-inputs : goal.read_arguments-requires-clause-inputs
read_arguments-requires-clause-inputs c =
    c.in_ok-begun.ensures.begins.grown.inputs ∙ c.requires.callable.inputs
    ∙ (λ i. input_widths (design_tree (c.requires.design i)))

pub read_arguments-requires-clause-few : goal.read_arguments-requires-clause-few
read_arguments-requires-clause-few c =
    subst (λ (d : Design). first_choice (design_tree d) + (room + room) < 2 ^ 32) c.requires.design
    c.requires.callable.few

pub read_arguments-requires-clause-sound : goal.read_arguments-requires-clause-sound
read_arguments-requires-clause-sound c = c.in_ok-begun.ensures.begins.sound

pub read_arguments-requires-clause-flow : goal.read_arguments-requires-clause-flow
read_arguments-requires-clause-flow c =
    subst (λ (d : Design). IsFlow (cells_of d) c.begin.new.course.terms c.in_ok-begun.begun) c.requires.design
    c.in_ok-begun.ensures.begins.flow

pub returns : goal.returns
returns c =
    let m = c.args.mover.now in
    let w = tables_by m in
    let d = design_tree m.design.now in
    let at = c.args.called.now.at in
    let rows : length c.rows-count.result.now ≡ length w.locations.rows =
    ap length c.rows-count.ensures ∙ (λ i. length ((table_of (sym c.requires.locations i)).rows)) in
    entered w d m.process at c.args.called.now.task.now c.args.course.now.terms c.requires.callable c.args.turn
    c.requires.turn (length c.rows-count.result.now) rows c.in_ok-course.field-0 c.in_ok-course.ensures
    c.begin.new.course c.read_arguments.new.course c.in_ok-begun.begun c.in_ok-given.given c.in_ok-begun.ensures.begins
    c.in_ok-begun.ensures.ends c.in_ok-given.ensures.ends
    (subst (λ (e : Design). ReadsArguments (cells_of e) c.begin.new.course.terms c.read_arguments.new.course.terms
    (design_tree e) (params_of (design_tree e) at) 0 c.in_ok-begun.begun c.in_ok-given.given) (sym c.requires.design)
    c.in_ok-given.ensures.reads)
