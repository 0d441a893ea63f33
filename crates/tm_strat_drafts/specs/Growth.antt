-- What a call leaves of a game's diagrams and of what blocks are chosen from.
use Rattle.std.specs.Prelude.{◌≡◌, ℕ}
use Rattle.tm_game.specs.Game.{GameData, Grows}
use Rattle.tm_solve.specs.Ids.{Extends, Ids}
use Rattle.tm_strat_drafts.specs.Moves.{Game, turned}

-- a game that has grown to the old one has grown to the new one
abbrev pub Carried : GameData → GameData → Type 0
Carried old new = (base : GameData) → Grows base old → Grows base new

-- the symbolic game whose ids name sets, what blocks are chosen from, and which ids are known and what they mean
pub record Setting : Type 1 where
  pub symbolic : GameData
  pub game : Game
  pub ids : Ids

-- a setting while another goal is pending
abbrev pub at_goal : ℕ → Setting → Setting
at_goal goal s = record s { game = turned s.game goal }

-- every id means what it meant, what blocks are chosen from stays, and known ids stay known
pub record Follows (old new : Setting) : Type 0 where
  pub grows : Carried old.symbolic new.symbolic
  pub game : new.game ≡ old.game
  pub extends : Extends old.ids new.ids
