use Rattle.std.proofs.Common.{◌≡◌, ◌+◌, ◌<◌, ◌^◌, Some, length, sym, ap, ◌∙◌, subst, arith}
use Rattle.tm_syntax.specs.declared.design.Design.{Design}
use Rattle.tm_syntax.specs.Design.Locations.{end_number}
use Rattle.tm_syntax.specs.Design.View.{design_tree}
use Rattle.tm_flat.specs.Inputs.{first_choice, room}
use Rattle.tm_locations.specs.Locations.{table_of}
use Rattle.tm_plain.proofs.Places.{end_is}
use Rattle.tm_flat_moves.specs.Movable.{tables_by}
use Rattle.tm_flat_moves.specs.Turn.{TellsTurn}
use Rattle.tm_flat_moves.proofs.Standing.{callable_at, task_made}
use Rattle.tm_flat_moves.proofs.tasks.Tasks.call_step.Goals as goal

pub new-mover-requires-clause-text : goal.new-mover-requires-clause-text
new-mover-requires-clause-text c = c.args.self.now.same_text

pub new-mover-requires-clause-cells : goal.new-mover-requires-clause-cells
new-mover-requires-clause-cells c = c.args.self.now.same_cells

pub new-mover-requires-clause-depth : goal.new-mover-requires-clause-depth
new-mover-requires-clause-depth c = c.args.self.now.deep

pub run_call-requires-clause-design : goal.run_call-requires-clause-design
run_call-requires-clause-design c = c.new-mover.ensures.design

pub run_call-requires-clause-locations : goal.run_call-requires-clause-locations
run_call-requires-clause-locations c = c.new-mover.ensures.locations

pub run_call-requires-clause-callable : goal.run_call-requires-clause-callable
run_call-requires-clause-callable c =
    let s = c.args.self.now in
    let l = table_of c.args.locations.now in
    callable_at s.design.now s.all.now c.requires.callable l c.requires.located c.requires.called.0
    c.args.called.now.at c.args.called.now.task.now c.requires.called.1 c.args.course.now.terms c.requires.inputs
    c.requires.sound c.new-mover.result c.new-mover.ensures.design (ap table_of c.new-mover.ensures.locations)
    c.new-mover.ensures.process

pub run_call-requires-clause-turn : goal.run_call-requires-clause-turn
run_call-requires-clause-turn c =
    subst (λ (d : Design). TellsTurn c.args.course.now.terms (design_tree d) (Some c.args.turn))
    (sym c.new-mover.ensures.design) c.requires.turn

pub finish-requires-clause-ending : goal.finish-requires-clause-ending
finish-requires-clause-ending c =
    let s = c.args.self.now in
    let m = c.new-mover.result in
    let d = design_tree m.design.now in
    let k = callable_at s.design.now s.all.now c.requires.callable (table_of c.args.locations.now) c.requires.located
    c.requires.called.0 c.args.called.now.at c.args.called.now.task.now c.requires.called.1 c.args.course.now.terms
    c.requires.inputs c.requires.sound m c.new-mover.ensures.design (ap table_of c.new-mover.ensures.locations)
    c.new-mover.ensures.process in
    let ran = c.in_ok-run_call.ensures in
    record {
      cells = k.cells;
      sound = ran.sound;
      inputs = ran.grown.inputs ∙ k.inputs;
      few = let few : first_choice d + (room + room) < 2 ^ 32 = k.few in omega (arith, few);
      small = k.small;
      known = ran.ends;
    }

pub finish-requires-clause-width : goal.finish-requires-clause-width
finish-requires-clause-width c = (omega arith, omega arith)

pub finish-requires-clause-within : goal.finish-requires-clause-within
finish-requires-clause-within c =
    let s = c.args.self.now in
    let m = c.new-mover.result in
    let d = design_tree m.design.now in
    let w = tables_by m in
    let k = callable_at s.design.now s.all.now c.requires.callable (table_of c.args.locations.now) c.requires.located
    c.requires.called.0 c.args.called.now.at c.args.called.now.task.now c.requires.called.1 c.args.course.now.terms
    c.requires.inputs c.requires.sound m c.new-mover.ensures.design (ap table_of c.new-mover.ensures.locations)
    c.new-mover.ensures.process in
    let ran = c.in_ok-run_call.ensures in
    let end : length w.locations.rows + 1 ≡ end_number d m.process = end_is w.locations d m.process k.are in
    let low : end_number d m.process < 2 ^ 64 = k.small.locations m.process in
    omega (arith, end, low, ran.count)

pub returns : goal.returns
returns c = λ number is.
    let s = c.args.self.now in
    let m = c.new-mover.result in
    task_made s.design.now s.all.now c.requires.callable (table_of c.args.locations.now) c.requires.located number
    c.args.called.now.at c.args.called.now.task.now is c.args.course.now.terms c.requires.inputs c.requires.sound m
    c.new-mover.ensures.design (ap table_of c.new-mover.ensures.locations) c.new-mover.ensures.process
    c.run_call.new.course c.in_ok-run_call.ensures c.finish.new.course.terms c.in_ok-step.step c.in_ok-step.ensures
