use Rattle.std.proofs.Common.{◌≡◌, length, take}
use Rattle.std.specs.Prelude.{All}
use Rattle.tm_abs.specs.Inner.Atoms.{AreTracked, IsAtom}
use Rattle.tm_abs.specs.Tracked.{IsPooled, tracked_of}
use Rattle.tm_game.specs.Game.{GameData, Grows}
use Rattle.tm_syntax.specs.Design.{DesignTree}
use Rattle.tm_abs.proofs.reading.read_tracked.Given as goal

abbrev pub invariant-loop-number : goal.invariant-loop-number
invariant-loop-number l = record {
  grows : Grows l.fn.game l.game;
  count : length l.free.items ≡ length l.fn.game.order;
  atoms : All (IsAtom (length l.fn.game.order) l.game.diagrams.table) l.atoms.items;
  tracked : (h : GameData) (d : DesignTree) → Grows l.game h → IsPooled d h →
      AreTracked d h h.diagrams.table (tracked_of d (take l.number-index l.numbers)) l.free.items l.atoms.items;
}
