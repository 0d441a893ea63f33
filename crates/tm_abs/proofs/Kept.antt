-- Cells of a game are cells of it when it has grown.
use Rattle.std.proofs.Common.{ℕ, List, All, length, refl, sym, ◌∙◌, ap, subst}
use Rattle.std.proofs.Props.{props}
use Rattle.tm_abs.proofs.Tracking.{atoms_kept}
use Rattle.tm_abs.proofs.ValidParts.{in_pool_kept}
use Rattle.tm_abs.specs.Cells.{AreCells}
use Rattle.tm_abs.specs.declared.cells.Cells.{Cells}
use Rattle.tm_abs.specs.Inner.Atoms.{IsAtom}
use Rattle.tm_game.proofs.Growing.{grows_then}
use Rattle.tm_game.specs.Game.{GameData, Grows}

pub cells_kept : (g h : GameData) → Grows g h → (c : Cells) → AreCells g c → AreCells h c
cells_kept g h grows c cells = record {
  in_pool = in_pool_kept g h grows c.tracked.items c.tracked.items refl cells.in_pool;
  count = cells.count ∙ ap (λ (o : List ℕ). length o) (sym grows.order);
  atoms = subst (λ (o : List ℕ). All (IsAtom (length o) h.diagrams.table) c.read.atoms.items) (sym grows.order)
      (atoms_kept g.diagrams.table h.diagrams.table grows.diagrams (length g.order) c.read.atoms.items cells.atoms);
  tracked = λ k d more pooled. cells.tracked k d (grows_then g h k grows more) pooled;
}

-- that cells are those of a game can hold in one way
pub cells_prop : (g : GameData) (c : Cells) → IsProp (AreCells g c)
cells_prop g c = hlevel props
