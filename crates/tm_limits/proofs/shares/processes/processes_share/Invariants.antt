use Rattle.std.proofs.Common.{◌≡◌, map, take}
use Rattle.std.specs.List.{enumerate_from}
use Rattle.tm_syntax.specs.Tree.View.{process_tree, spec_tree, template_tree}
use Rattle.tm_limits.specs.Amount.{capped}
use Rattle.tm_limits.specs.Shares.{combination_of, process_share}
use Rattle.tm_limits.specs.Totals.{over}
use Rattle.tm_limits.proofs.shares.processes.processes_share.Given as goal

abbrev pub invariant-loop-index : goal.invariant-loop-index
invariant-loop-index l =
    l.share ≡ capped (over (combination_of l.quantity)
    (map (process_share (spec_tree l.scopes) l.quantity (template_tree l.template))
    (enumerate_from 0 (map process_tree (take l.index l.processes)))))
