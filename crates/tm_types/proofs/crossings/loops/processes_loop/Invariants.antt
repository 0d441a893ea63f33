use Rattle.std.proofs.Common.{◌≡◌}
use Rattle.tm_syntax.specs.Tree.{ProcessTree}
use Rattle.tm_syntax.specs.Tree.View.{process_tree}
use Rattle.tm_scope.specs.Marks.{is_marked}
use Rattle.tm_types.specs.Inner.Crossings.{body_loops}
use Rattle.tm_types.proofs.FoundPlaces.{found_before}
use Rattle.tm_types.proofs.crossings.loops.processes_loop.Given as goal

abbrev pub invariant-loop-process : goal.invariant-loop-process
invariant-loop-process l =
    l.first
    ≡ found_before (λ (x : ProcessTree). body_loops (is_marked l.calls) x.body) process_tree l.processes l.process-index
