use Rattle.std.proofs.Common.{arith}
use Rattle.tm_syntax.specs.Tree.{ProcessTree}
use Rattle.tm_syntax.specs.Tree.View.{process_tree}
use Rattle.tm_scope.specs.Marks.{is_marked}
use Rattle.tm_types.specs.Inner.Crossings.{body_loops}
use Rattle.tm_types.proofs.FoundPlaces.{found_all, found_more}
use Rattle.tm_types.proofs.crossings.loops.processes_loop.Goals as goal

pub loop-process-preserved : goal.loop-process-preserved
loop-process-preserved c =
    found_more (λ (x : ProcessTree). body_loops (is_marked c.args.calls.now) x.body) process_tree c.args.processes.now
    c.loop-process.process-index c.process-item.result (omega arith) c.process-item.is c.in-Ok.ensures
    c.earlier_place-first.ensures.earlier c.loop-process.invariant

pub returns : goal.returns
returns c =
    found_all (λ (x : ProcessTree). body_loops (is_marked c.args.calls.now) x.body) process_tree c.args.processes.now
    c.loop-process.process-index (omega arith) c.loop-process.invariant
