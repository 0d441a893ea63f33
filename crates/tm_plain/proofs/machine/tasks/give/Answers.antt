use Rattle.std.proofs.Common.{◌≡◌, List, Some, map, ap, ◌∙◌}
use Rattle.tm_scope.specs.Cells.{cell_at}
use Rattle.tm_scope.specs.declared.cells.site_body.CellNumber.{CellNumber}
use Rattle.tm_plain.proofs.Calling.{given_memory}
use Rattle.tm_plain.proofs.DriverTasks.{cells_are}
use Rattle.tm_plain.proofs.machine.tasks.give.Goals as goal

pub returns-clause-given : goal.returns-clause-given
returns-clause-given c = λ d number of s sound kept.
    let frame = c.args.called.now.frame in
    let task = c.args.called.now.task.now in
    let numbers : map (cell_at frame.reader.tables frame.reader.at) c.as_slice.result.now ≡ map Some of.called.params =
    ap (λ (ns : List CellNumber). map (cell_at frame.reader.tables frame.reader.at) ns) c.as_slice.ensures.value
    ∙ cells_are d number frame task of c.in_ok-cells.cells.items c.in_ok-cells.ensures in
    given_memory d number frame task sound of c.as_slice.result.now c.args.args.now s c.args.course.now.store
    c.put_all.new.store numbers kept c.in_ok-put_all.ensures
