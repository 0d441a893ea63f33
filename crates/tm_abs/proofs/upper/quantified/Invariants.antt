use Rattle.std.proofs.Common.{◌≡◌, Bool, List, length, take, All}
use Rattle.tm_abs.specs.declared.atoms.Atom.{Atom}
use Rattle.tm_abs.specs.Inner.Atoms.{IsAtom}
use Rattle.tm_abs.specs.Inner.Eliminated.{IsEliminatedFrom}
use Rattle.tm_abs.specs.Inner.Turns.{AreTurnsOf}
use Rattle.tm_dd.specs.Table.{Knows, means}
use Rattle.tm_game.specs.Game.{Grows}
use Rattle.tm_abs.proofs.upper.quantified.Given as goal

abbrev pub invariant-loop-turn : goal.invariant-loop-turn
invariant-loop-turn l = record {
  grows : Grows l.fn.game l.game;
  known : Knows l.game.diagrams.table l.left;
  front : l.waiting.items ≡ take (length l.waiting.items) l.fn.turns.turns.items;
  so_far : (gone : List Bool) (atoms : List Atom) →
      AreTurnsOf gone atoms l.fn.turns.unread.items l.fn.turns.turns.items →
      All (IsAtom (length gone) l.fn.game.diagrams.table) atoms →
      IsEliminatedFrom l.fn.game.diagrams.table atoms l.fn.turns.unread.items l.fn.turns.turns.items
      (length l.waiting.items) (means l.fn.game.diagrams.table l.fn.set) (means l.game.diagrams.table l.left);
}

abbrev pub decreases-loop-turn : goal.decreases-loop-turn
decreases-loop-turn l = length l.waiting.items
