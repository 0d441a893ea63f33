use Rattle.std.proofs.Common.{◌≡◌, ◌∷◌, map, take}
use Rattle.std.specs.List.{flat_map}
use Rattle.std.specs.Option.{option_copied}
use Rattle.tm_limits.specs.LongNames.{first_long}
use Rattle.tm_syntax.specs.Tree.{LocalTree, ProcessTree}
use Rattle.tm_syntax.specs.Tree.View.{process_tree}
use Rattle.tm_limits.proofs.names.templates.processes_declared.Given as goal

abbrev pub invariant-loop-process : goal.invariant-loop-process
invariant-loop-process l =
    option_copied l.first
    ≡ first_long (flat_map (λ (p : ProcessTree). p.name ∷ map (λ (l : LocalTree). l.name) p.body.locals)
    (map process_tree (take l.process-index l.processes)))
