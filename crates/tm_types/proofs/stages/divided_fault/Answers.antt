use Rattle.std.proofs.Common.{subst}
use Rattle.std.specs.Prelude.{IfOk}
use Rattle.tm_types.specs.Inner.TextParts.{IsDivided}
use Rattle.tm_types.proofs.stages.divided_fault.Goals as goal

pub part_fault-requires-clause-text : goal.part_fault-requires-clause-text
part_fault-requires-clause-text c = subst (λ r. IfOk r (IsDivided c.args.spec.now)) c.in-Ok.is c.requires.text
