-- A game of diagrams that was made of guarded updates.
use Rattle.tm_dd.specs.Table.{Table}
use Rattle.tm_flat.specs.Flat.{FlatTerms}
use Rattle.tm_game_bits.specs.Diagrams.{KnowsGame, game_of}
use Rattle.tm_game_steps.specs.declared.making.MadeGame.{MadeGame}
use Rattle.tm_game_steps.specs.Setting.{Setting}
use Rattle.tm_game_steps.specs.Telling.{TellsGame}

-- its ids are known, and it is what the terms tell
pub record IsMadeGame (x : Setting) (f : FlatTerms) (s : Table) (g : MadeGame) : Type 0 where
  pub known : KnowsGame s g.steps
  pub tells : TellsGame x f (game_of s g.steps) g.movers.items
