use Rattle.std.proofs.Common.{sym, subst, arith}
use Rattle.std.specs.List.{flat_map}
use Rattle.tm_syntax.specs.Design.Atoms.{task_atoms}
use Rattle.tm_atoms.specs.Inner.Bodies.{task_seen}
use Rattle.tm_atoms.specs.Inner.Walks.{HasWalked, tables_of}
use Rattle.tm_atoms.proofs.Listing.{listed-all, listed-more, listed-none, task-is, task-root}
use Rattle.tm_atoms.proofs.find.note_tasks.Goals as goal

pub loop-item-init : goal.loop-item-init
loop-item-init c = λ d over rank ranked idle.
    listed-none d (tables_of c.args.walk.now) (task_atoms d) c.args.tasks.now idle

pub loop-item-preserved : goal.loop-item-preserved
loop-item-preserved c = λ d over rank ranked idle.
    let item = c.item-item.result in
    listed-more d (tables_of c.args.walk.now) (tables_of c.loop-item.walk) (tables_of c.note_body.new.walk)
    (task_atoms d) c.args.tasks.now c.loop-item.item-index item (flat_map (task_atoms d) c.args.tasks.now) (omega arith)
    c.item-item.is (c.loop-item.invariant d over rank ranked idle)
    (λ now. subst (HasWalked d (tables_of c.loop-item.walk) (tables_of c.note_body.new.walk)) (sym (task-is d item))
    (c.in_ok-note_body.ensures d over rank ranked (task_seen d item) (c.task.ensures d over)
    (task-root d rank ranked item) now))

pub returns : goal.returns
returns c = λ d over rank ranked idle.
    listed-all d (tables_of c.args.walk.now) (tables_of c.loop-item.walk) (task_atoms d) c.args.tasks.now
    c.loop-item.item-index (flat_map (task_atoms d) c.args.tasks.now) (omega arith)
    (c.loop-item.invariant d over rank ranked idle)
