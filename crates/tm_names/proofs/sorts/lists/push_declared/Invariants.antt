use Rattle.std.proofs.Common.{◌≡◌, ◌++◌, map, drop}
use Rattle.tm_names.specs.Sorts.{all_declared}
use Rattle.tm_names.proofs.sorts.lists.push_declared.Given as goal

abbrev pub invariant-loop-part : goal.invariant-loop-part
invariant-loop-part g l =
    all_declared l.all.items ++ map g.T.Declares.declared (drop l.part-index l.parts)
    ≡ all_declared l.initial.all.items ++ map g.T.Declares.declared l.parts
