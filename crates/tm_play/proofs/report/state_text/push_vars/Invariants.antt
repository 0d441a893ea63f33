use Rattle.std.proofs.Common.{◌≡◌, ◌++◌}
use Rattle.std.specs.List.{flat_map, zip}
use Rattle.std.specs.Slice.Iter.{iter_rest}
use Rattle.std.specs.Iterator.Adapters.{zip_first, zip_second}
use Rattle.tm_play.specs.Report.{var_text}
use Rattle.tm_play.proofs.report.state_text.push_vars.Given as goal

abbrev pub invariant-loop-var : goal.invariant-loop-var
invariant-loop-var l =
    l.line.items ++ flat_map var_text
    (zip (iter_rest (zip_first l.var-iterator)) (iter_rest (zip_second l.var-iterator)))
    ≡ l.initial.line.items ++ flat_map var_text (zip l.vars l.values)
