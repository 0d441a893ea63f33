use Rattle.std.proofs.Common.{None, Some}
use Rattle.tm_locations.proofs.TableCallees.{item-read}
use Rattle.tm_flat_states.proofs.TaskParameters.{is_driver_task, none_found, none_here, without_index, without_instance, without_item, without_task, without_template}
use Rattle.tm_flat_states.proofs.marker.Marker.task.Goals as goal

pub returns-in_err-item-clause-found : goal.returns-in_err-item-clause-found
returns-in_err-item-clause-found c = none_found c.from_residual.result _ c.from_residual.ensures

pub returns-in_err-item-clause-none : goal.returns-in_err-item-clause-none
returns-in_err-item-clause-none c =
    let d = c.args.self.now.design.now in
    none_here c.from_residual.result _ c.from_residual.ensures
    (without_item d c.args.number
    (item-read d.tasks.items c.deref.result.now c.args.number None c.deref.ensures.value c.in_err-item.ensures.lookup))

pub returns-in_err-index-clause-found : goal.returns-in_err-index-clause-found
returns-in_err-index-clause-found c =
    none_found c.from_residual-in_err-index.result _ c.from_residual-in_err-index.ensures

pub returns-in_err-index-clause-none : goal.returns-in_err-index-clause-none
returns-in_err-index-clause-none c =
    let d = c.args.self.now.design.now in
    let item = c.in_ok-item.item.now in
    let listed = item-read d.tasks.items c.deref.result.now c.args.number (Some c.in_ok-item.item) c.deref.ensures.value
    c.in_ok-item.ensures.lookup in
    none_here c.from_residual-in_err-index.result _ c.from_residual-in_err-index.ensures
    (without_index d c.args.number item listed c.in_err-index.was)

pub returns-in_err-node-clause-found : goal.returns-in_err-node-clause-found
returns-in_err-node-clause-found c =
    none_found c.from_residual-in_err-node.result _ c.from_residual-in_err-node.ensures

pub returns-in_err-node-clause-none : goal.returns-in_err-node-clause-none
returns-in_err-node-clause-none c =
    let d = c.args.self.now.design.now in
    let item = c.in_ok-item.item.now in
    let listed = item-read d.tasks.items c.deref.result.now c.args.number (Some c.in_ok-item.item) c.deref.ensures.value
    c.in_ok-item.ensures.lookup in
    none_here c.from_residual-in_err-node.result _ c.from_residual-in_err-node.ensures
    (without_instance d c.args.number item listed c.in_ok-index.index c.in_ok-index.was
    (item-read d.instances.items c.deref-2.result.now item.instance None c.deref-2.ensures.value
    c.in_err-node.ensures.lookup))

pub returns-in_err-template-clause-found : goal.returns-in_err-template-clause-found
returns-in_err-template-clause-found c =
    none_found c.from_residual-in_err-template.result _ c.from_residual-in_err-template.ensures

pub returns-in_err-template-clause-none : goal.returns-in_err-template-clause-none
returns-in_err-template-clause-none c =
    let d = c.args.self.now.design.now in
    let item = c.in_ok-item.item.now in
    let node = c.in_ok-node.node.now in
    let listed = item-read d.tasks.items c.deref.result.now c.args.number (Some c.in_ok-item.item) c.deref.ensures.value
    c.in_ok-item.ensures.lookup in
    let there = item-read d.instances.items c.deref-2.result.now item.instance (Some c.in_ok-node.node)
    c.deref-2.ensures.value c.in_ok-node.ensures.lookup in
    none_here c.from_residual-in_err-template.result _ c.from_residual-in_err-template.ensures
    (without_template d c.args.number item listed c.in_ok-index.index c.in_ok-index.was node there
    (item-read d.spec.templates.items c.deref-3.result.now node.template None c.deref-3.ensures.value
    c.in_err-template.ensures.lookup))

pub returns-in_err-task-clause-found : goal.returns-in_err-task-clause-found
returns-in_err-task-clause-found c =
    none_found c.from_residual-in_err-task.result _ c.from_residual-in_err-task.ensures

pub returns-in_err-task-clause-none : goal.returns-in_err-task-clause-none
returns-in_err-task-clause-none c =
    let d = c.args.self.now.design.now in
    let item = c.in_ok-item.item.now in
    let node = c.in_ok-node.node.now in
    let template = c.in_ok-template.template.now in
    let k = c.in_ok-index.index in
    let listed = item-read d.tasks.items c.deref.result.now c.args.number (Some c.in_ok-item.item) c.deref.ensures.value
    c.in_ok-item.ensures.lookup in
    let there = item-read d.instances.items c.deref-2.result.now item.instance (Some c.in_ok-node.node)
    c.deref-2.ensures.value c.in_ok-node.ensures.lookup in
    let here = item-read d.spec.templates.items c.deref-3.result.now node.template (Some c.in_ok-template.template)
    c.deref-3.ensures.value c.in_ok-template.ensures.lookup in
    none_here c.from_residual-in_err-task.result _ c.from_residual-in_err-task.ensures
    (without_task d c.args.number item listed k c.in_ok-index.was node there template here
    (item-read template.tasks.items c.deref-4.result.now k None c.deref-4.ensures.value c.in_err-task.ensures.lookup))

pub returns-clause-found : goal.returns-clause-found
returns-clause-found c =
    let d = c.args.self.now.design.now in
    let item = c.in_ok-item.item.now in
    let node = c.in_ok-node.node.now in
    let template = c.in_ok-template.template.now in
    let k = c.in_ok-index.index in
    let listed = item-read d.tasks.items c.deref.result.now c.args.number (Some c.in_ok-item.item) c.deref.ensures.value
    c.in_ok-item.ensures.lookup in
    let there = item-read d.instances.items c.deref-2.result.now item.instance (Some c.in_ok-node.node)
    c.deref-2.ensures.value c.in_ok-node.ensures.lookup in
    let here = item-read d.spec.templates.items c.deref-3.result.now node.template (Some c.in_ok-template.template)
    c.deref-3.ensures.value c.in_ok-template.ensures.lookup in
    is_driver_task d c.args.number item listed k c.in_ok-index.was node there template here c.in_ok-task.task.now
    (item-read template.tasks.items c.deref-4.result.now k (Some c.in_ok-task.task) c.deref-4.ensures.value
    c.in_ok-task.ensures.lookup)
