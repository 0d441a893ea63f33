use Rattle.std.proofs.Common.{◌≡◌, ◌++◌, map, drop, true}
use Rattle.tm_syntax.specs.Tree.{ProcessTree}
use Rattle.tm_syntax.specs.Tree.View.{process_tree}
use Rattle.tm_inst.specs.Inner.Listed.{items_from}
use Rattle.tm_inst.proofs.items.push_processes.Given as goal

abbrev pub invariant-loop-index : goal.invariant-loop-index
invariant-loop-index l =
    l.items.items ++ items_from (λ _. true) (λ (p : ProcessTree). p.name) l.number l.base l.index
    (map process_tree (drop l.index l.processes))
    ≡ l.initial.items.items ++ items_from (λ _. true) (λ (p : ProcessTree). p.name) l.number l.base 0
    (map process_tree l.processes)
