-- How a game keeps its data.
use Rattle.std.specs.Prelude.{◌+◌, ◌≤◌, length}
use Rattle.tm_dd.specs.Reduced.{RanksRise}
use Rattle.tm_flat.specs.Flat.{flat_terms}
use Rattle.tm_game_bits.specs.Diagrams.{game_of}
use Rattle.tm_game_bits.specs.Recent.{AreAnswers}
use Rattle.tm_game.specs.declared.game.Game.TheInside.{Inside}
use Rattle.tm_game.specs.Game.{GameData}
use Rattle.tm_game.specs.Kept.{AreKept}
use Rattle.tm_game.specs.Shape.{IsShape}
use Rattle.tm_game_steps.specs.Made.{IsMadeGame}
use Rattle.tm_game_steps.specs.Setting.{IsReady, setting_of}
use Rattle.tm_game_steps.specs.Telling.{HasTerms}

-- what contracts see of a game
abbrev pub game_data : Inside → GameData
game_data a = record {
  flat = flat_terms a.flat;
  terms = a.encoding.terms;
  order = a.order.items;
  diagrams = a.dd;
  goals = a.kept.goals.items;
  fairs = a.kept.fairs.items;
  initial = a.kept.initial;
  valid = a.made.steps.valid;
  turn = a.kept.turn;
}

-- what holds of every game: its parts fit together, and its diagrams are those of its guarded updates
pub record IsGame (a : Inside) : Type 0 where
  pub shape : IsShape (setting_of a.encoding) (flat_terms a.flat) a.order.items
  pub terms : HasTerms (setting_of a.encoding) (flat_terms a.flat)
  pub levels : length a.order.items + 128 + length a.flat.pool.items ≤ a.dd.table.levels
  pub rises : RanksRise (length a.order.items) a.dd.table
  pub ready : IsReady (setting_of a.encoding) a.dd.table a.bits
  pub steps : IsMadeGame (setting_of a.encoding) (flat_terms a.flat) a.dd.table a.made
  pub answers : AreAnswers a.dd.table (game_of a.dd.table a.made.steps) a.recent
  pub kept : AreKept (setting_of a.encoding) (flat_terms a.flat) a.dd.table a.made.steps.valid a.made.steps.turn
      a.kept.goals.items a.kept.fairs.items a.kept.initial a.kept.turn
