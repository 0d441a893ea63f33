use Rattle.std.proofs.Common.{sym, subst, arith}
use Rattle.std.specs.List.{flat_map}
use Rattle.tm_syntax.specs.Design.Atoms.{process_atoms}
use Rattle.tm_atoms.specs.Inner.Bodies.{process_seen}
use Rattle.tm_atoms.specs.Inner.Walks.{HasWalked, tables_of}
use Rattle.tm_atoms.proofs.Listing.{listed-all, listed-more, listed-none, process-is, process-root}
use Rattle.tm_atoms.proofs.find.note_processes.Goals as goal

pub loop-item-init : goal.loop-item-init
loop-item-init c = λ d over rank ranked idle.
    listed-none d (tables_of c.args.walk.now) (process_atoms d) c.args.processes.now idle

pub loop-item-preserved : goal.loop-item-preserved
loop-item-preserved c = λ d over rank ranked idle.
    let item = c.item-item.result in
    listed-more d (tables_of c.args.walk.now) (tables_of c.loop-item.walk) (tables_of c.note_body.new.walk)
    (process_atoms d) c.args.processes.now c.loop-item.item-index item (flat_map (process_atoms d) c.args.processes.now)
    (omega arith)
    c.item-item.is (c.loop-item.invariant d over rank ranked idle)
    (λ now. subst (HasWalked d (tables_of c.loop-item.walk) (tables_of c.note_body.new.walk)) (sym (process-is d item))
    (c.in_ok-note_body.ensures d over rank ranked (process_seen d item) (c.process.ensures d over)
    (process-root d rank ranked item) now))

pub returns : goal.returns
returns c = λ d over rank ranked idle.
    listed-all d (tables_of c.args.walk.now) (tables_of c.loop-item.walk) (process_atoms d) c.args.processes.now
    c.loop-item.item-index (flat_map (process_atoms d) c.args.processes.now) (omega arith)
    (c.loop-item.invariant d over rank ranked idle)
