-- A game whose diagrams were copied.
use Rattle.std.specs.Prelude.{◌≡◌}
use Rattle.tm_dd.specs.Table.{means}
use Rattle.tm_ddops.specs.Copied.{MeanTheSame}
use Rattle.tm_ddops.specs.Manager.{IsFunction}
use Rattle.tm_game.specs.Game.{GameData}

-- the guarded updates, terms, order and levels are the same, and the ids that the game keeps mean what they meant
pub record IsCopied (old new : GameData) : Type 0 where
  pub flat : new.flat ≡ old.flat
  pub terms : new.terms ≡ old.terms
  pub order : new.order ≡ old.order
  pub levels : new.diagrams.table.levels ≡ old.diagrams.table.levels
  pub goals : MeanTheSame old.diagrams.table old.goals new.diagrams.table new.goals
  pub fairs : MeanTheSame old.diagrams.table old.fairs new.diagrams.table new.fairs
  pub initial : IsFunction new.diagrams.table new.initial (means old.diagrams.table old.initial)
  pub valid : IsFunction new.diagrams.table new.valid (means old.diagrams.table old.valid)
  pub turn : IsFunction new.diagrams.table new.turn (means old.diagrams.table old.turn)
