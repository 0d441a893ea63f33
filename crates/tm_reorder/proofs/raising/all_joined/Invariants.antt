use Rattle.std.proofs.Common.{ℕ, List}
use Rattle.tm_cert.specs.declared.cert.Entry.{Entry}
use Rattle.tm_numbering.specs.Parts.{ArePairs}
use Rattle.tm_reorder.specs.Inner.Raised.{AreBranches, AreParts, Keeps}
use Rattle.tm_reorder.specs.Inner.Told.{IsTold}
use Rattle.tm_reorder.proofs.raising.all_joined.Given as goal

abbrev pub invariant-loop-id : goal.invariant-loop-id
invariant-loop-id l = record {
  branches : AreBranches l.graph.entries.keys;
  keeps : Keeps l.fn.graph.entries.keys l.graph.entries.keys;
  told : (old : List Entry) (k : ℕ) → AreParts old l.fn.graph.entries.keys l.level k l.parts →
      ArePairs (IsTold (λ v. v) old l.graph.entries.keys) l.ids l.joined.items l.id-index;
}
