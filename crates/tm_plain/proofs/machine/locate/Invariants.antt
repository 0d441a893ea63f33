use Rattle.tm_plain.specs.Machine.{AreLocated}
use Rattle.tm_plain.proofs.machine.locate.Given as goal

abbrev pub invariant-loop-process : goal.invariant-loop-process
invariant-loop-process l = AreLocated l.tables l.process-index l.all.items
