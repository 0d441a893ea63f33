use Rattle.std.proofs.Common.{◌≡◌, length}
use Rattle.tm_abs.specs.Inner.Turns.{AreTurnsBelow}
use Rattle.tm_abs.proofs.turns.order_turns.Given as goal

abbrev pub invariant-loop-atom : goal.invariant-loop-atom
invariant-loop-atom l = record {
  count : length l.later.items ≡ length l.gone.marks.items;
  turns : AreTurnsBelow l.gone.marks.items l.atoms l.atom-index l.later.items l.turns.items;
}
