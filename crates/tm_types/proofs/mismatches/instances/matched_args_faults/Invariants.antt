use Rattle.std.proofs.Common.{◌≡◌}
use Rattle.std.specs.List.{flat_map, zip}
use Rattle.std.specs.Slice.Iter.{iter_rest}
use Rattle.std.specs.Iterator.Adapters.{zip_first, zip_second}
use Rattle.tm_syntax.specs.Faults.Mismatches.{arg_faults}
use Rattle.tm_scope.specs.Context.{context_of}
use Rattle.tm_types.specs.Firsts.{first_of}
use Rattle.tm_types.proofs.ZippedFaults.{either}
use Rattle.tm_types.proofs.mismatches.instances.matched_args_faults.Given as goal

abbrev pub invariant-loop-port : goal.invariant-loop-port
invariant-loop-port l =
    either l.first (first_of (flat_map (arg_faults (context_of l.at).template)
    (zip (iter_rest (zip_first l.port-iterator)) (iter_rest (zip_second l.port-iterator)))))
    ≡ first_of (flat_map (arg_faults (context_of l.at).template) (zip l.ports l.args))
