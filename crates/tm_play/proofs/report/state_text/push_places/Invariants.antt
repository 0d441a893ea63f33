use Rattle.std.proofs.Common.{◌≡◌, ◌++◌}
use Rattle.std.specs.List.{flat_map, zip}
use Rattle.std.specs.Slice.Iter.{iter_rest}
use Rattle.std.specs.Iterator.Adapters.{zip_first, zip_second}
use Rattle.tm_play.specs.Report.{place_text}
use Rattle.tm_play.proofs.report.state_text.push_places.Given as goal

abbrev pub invariant-loop-process : goal.invariant-loop-process
invariant-loop-process l =
    l.line.items ++ flat_map place_text
    (zip (iter_rest (zip_first l.process-iterator)) (iter_rest (zip_second l.process-iterator)))
    ≡ l.initial.line.items ++ flat_map place_text (zip l.processes l.places)
