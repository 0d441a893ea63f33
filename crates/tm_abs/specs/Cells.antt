-- Cells of tracked predicates whose diagrams have been read.
-- g the data of a game, c cells, h a game that has grown from g, and d a design of it.
use Rattle.std.specs.Prelude.{◌≡◌, All, length}
use Rattle.tm_abs.specs.declared.cells.Cells.{Cells}
use Rattle.tm_abs.specs.Inner.Atoms.{AreTracked, IsAtom}
use Rattle.tm_abs.specs.Tracked.{AreInPool, IsPooled, tracked_of}
use Rattle.tm_game.specs.Game.{GameData, Grows}
use Rattle.tm_syntax.specs.Design.{DesignTree}

-- the numbers are those of predicates of the pool, there is a mark for each level of a state, the atoms are known, and
-- marks and atoms are those of the predicates, also in each game that has grown from this one
pub record AreCells (g : GameData) (c : Cells) : Type 0 where
  pub in_pool : AreInPool g c.tracked.items
  pub count : length c.read.free.items ≡ length g.order
  pub atoms : All (IsAtom (length g.order) g.diagrams.table) c.read.atoms.items
  pub tracked : (h : GameData) (d : DesignTree) → Grows g h → IsPooled d h →
      ∥ AreTracked d h h.diagrams.table (tracked_of d c.tracked.items) c.read.free.items c.read.atoms.items ∥₁
