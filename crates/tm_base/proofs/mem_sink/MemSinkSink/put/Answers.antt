use Rattle.std.proofs.Common.{arith}
use Rattle.std.proofs.lemmas.Grind.{common_steps}
use Rattle.tm_base.proofs.Pieces.{AppendsPrefix-refused}
use Rattle.tm_base.proofs.mem_sink.MemSinkSink.put.Goals as goal

pub returns-clause-part : goal.returns-clause-part
returns-clause-part c =
    let appended = c.extend_from_slice.ensures.items in
    let same_variant = c.map_err-2.ensures.variant in
    AppendsPrefix-refused _ c.args.piece.now _ _ (grind (arith, common_steps, appended, same_variant))
