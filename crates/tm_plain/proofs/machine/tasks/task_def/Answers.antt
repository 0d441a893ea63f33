use Rattle.std.proofs.Common.{None, Some, sym, ◌∙◌}
use Rattle.tm_locations.proofs.TableCallees.{item-read}
use Rattle.tm_plain.proofs.DriverTasks.{task_there, without_instance_there, without_template_there}
use Rattle.tm_plain.proofs.machine.tasks.task_def.Goals as goal

pub returns-in-Some-get : goal.returns-in-Some-get
returns-in-Some-get c =
    let d = c.args.design.now in
    let node = c.in-Some.node.now in
    let template = c.in-Some-get.template.now in
    let there = item-read d.instances.items c.deref.result.now c.args.instance (Some c.in-Some.node)
    c.deref.ensures.value c.in-Some.ensures.lookup in
    let here = item-read d.spec.templates.items c.deref-in-Some.result.now node.template (Some c.in-Some-get.template)
    c.deref-in-Some.ensures.value c.in-Some-get.ensures.lookup in
    sym (task_there d c.args.instance c.args.index node there template here
    ∙ item-read template.tasks.items c.deref-in-Some-get.result.now c.args.index c.get-in-Some-get.result
    c.deref-in-Some-get.ensures.value c.get-in-Some-get.ensures.lookup)

pub returns-in-None-get : goal.returns-in-None-get
returns-in-None-get c =
    let d = c.args.design.now in
    let node = c.in-Some.node.now in
    let there = item-read d.instances.items c.deref.result.now c.args.instance (Some c.in-Some.node)
    c.deref.ensures.value c.in-Some.ensures.lookup in
    sym (without_template_there d c.args.instance c.args.index node there
    (item-read d.spec.templates.items c.deref-in-Some.result.now node.template None c.deref-in-Some.ensures.value
    c.in-None-get.ensures.lookup))

pub returns-in-None : goal.returns-in-None
returns-in-None c =
    let d = c.args.design.now in
    sym (without_instance_there d c.args.instance c.args.index
    (item-read d.instances.items c.deref.result.now c.args.instance None c.deref.ensures.value
    c.in-None.ensures.lookup))
