use Rattle.std.specs.Slice.Iter.{iter_rest}
use Rattle.std.specs.Iterator.Adapters.{zip_first, zip_second}
use Rattle.std.proofs.lemmas.Slice.Zip.{either_empty_from_Zip, Zip-more}
use Rattle.tm_syntax.specs.Faults.Mismatches.{arg_faults}
use Rattle.tm_scope.specs.Context.{context_of}
use Rattle.tm_types.proofs.ZippedFaults.{zipped_all, zipped_more}
use Rattle.tm_types.proofs.mismatches.instances.matched_args_faults.Goals as goal

pub loop-port-preserved : goal.loop-port-preserved
loop-port-preserved c =
    let s = c.loop-port.port-iterator in
    let t = c.next.new.self in
    let split = Zip-more s t c.next.result _ c.in-Some.is c.next.ensures.steps in
    zipped_more (arg_faults (context_of c.args.at.now).template) (iter_rest (zip_first s)) (iter_rest (zip_first t)) _
    (iter_rest (zip_second s)) (iter_rest (zip_second t)) _ c.loop-port.first c.arg_faults.result
    c.earlier_place-first.result _ split.0 split.1 c.arg_faults.ensures c.earlier_place-first.ensures.earlier
    c.loop-port.invariant

pub returns : goal.returns
returns c =
    let s = c.loop-port.port-iterator in
    zipped_all (arg_faults (context_of c.args.at.now).template) (iter_rest (zip_first s)) (iter_rest (zip_second s))
    c.loop-port.first _ (either_empty_from_Zip s c.next.new.self c.next.result c.in-None.is c.next.ensures.steps)
    c.loop-port.invariant
