use Rattle.tm_syntax.specs.Design.View.{design_tree}
use Rattle.tm_flat_states.proofs.TaskParameters.{found_task, no_task, no_widths, params_sized, widths_are}
use Rattle.tm_flat_states.proofs.marker.Marker.task_widths.Goals as goal

pub param_widths-requires : goal.param_widths-requires
param_widths-requires c =
    let d = c.args.self.now.design.now in
    params_sized d c.requires c.args.number c.in-Some.task.now
    (found_task d c.args.number c.task.result c.in-Some.task c.in-Some.is c.task.ensures.found) c.as_slice.result.now
    c.as_slice.ensures.value

pub returns-in_ok-widths-in-Some-clause-widths : goal.returns-in_ok-widths-in-Some-clause-widths
returns-in_ok-widths-in-Some-clause-widths c =
    let m = c.args.self.now in
    let d = m.design.now in
    widths_are d c.requires c.args.number c.in-Some.task.now
    (found_task d c.args.number c.task.result c.in-Some.task c.in-Some.is c.task.ensures.found) m.scopes.now
    c.as_slice.result.now c.in_ok-widths-in-Some.widths.items m.same_text c.as_slice.ensures.value
    c.in_ok-widths-in-Some.ensures.widths

pub returns-in-None-clause-widths : goal.returns-in-None-clause-widths
returns-in-None-clause-widths c =
    let d = c.args.self.now.design.now in
    no_widths (design_tree d) c.args.number _ (no_task d c.args.number c.task.result c.in-None.is c.task.ensures.none)
