use Rattle.tm_reorder.specs.Inner.Raised.{AreBranches, AreParts}
use Rattle.tm_reorder.proofs.raising.all_parted.Given as goal

abbrev pub invariant-loop-entry : goal.invariant-loop-entry
invariant-loop-entry l = record {
  branches : AreBranches l.graph.entries.keys;
  parts : AreParts l.entries l.graph.entries.keys l.level l.entry-index l.parts.items;
}
