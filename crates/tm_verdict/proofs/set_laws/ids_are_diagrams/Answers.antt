use Rattle.tm_verdict.proofs.Values.{always_holds, entry_holds, never_holds}
use Rattle.tm_verdict.proofs.set_laws.ids_are_diagrams.Goals as goal

pub returns : goal.returns
returns c = record { never = never_holds; always = always_holds; entries = entry_holds }
