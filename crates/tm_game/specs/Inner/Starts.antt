-- Terms and levels with which a game is made.
use Rattle.std.specs.Prelude.{ℕ, ◌+◌, ◌≤◌, List, []}
use Rattle.tm_dd.specs.Table.{Table}
use Rattle.tm_flat.specs.Flat.{FlatTerms}
use Rattle.tm_game.specs.declared.opening.Kept.{Kept}
use Rattle.tm_game.specs.declared.start.Start.{Start}
use Rattle.tm_game.specs.Kept.{AreKept}
use Rattle.tm_game.specs.Shape.{IsShape}
use Rattle.tm_game_steps.specs.declared.making.MadeGame.{MadeGame}
use Rattle.tm_game_steps.specs.Passing.{ArePassing}
use Rattle.tm_game_steps.specs.Places.{ArePlaces}
use Rattle.tm_game_steps.specs.Setting.{IsReady, Setting, setting_of}
use Rattle.tm_game_steps.specs.Telling.{HasTerms}
use Rattle.tm_term.specs.Table.{Table as Terms}
use Rattle.tm_term.specs.Value.{Extends}

-- terms were added, and all that a game is made with is there
pub record IsStart (t : Terms) (f : FlatTerms) (order : List ℕ) (start : Start) : Type 0 where
  pub earlier : Extends t start.encoding.terms
  pub shape : IsShape (setting_of start.encoding) f order
  pub terms : HasTerms (setting_of start.encoding) f
  pub places_are : ArePlaces start.encoding.terms f.magic start.encoding.first start.places.items
  pub stutter_is : ArePassing start.encoding.terms start.encoding.numbers 0 start.stutter.items
  pub idle_is : ArePassing start.encoding.terms start.encoding.numbers 1 start.idle.items
  pub ready : (s : Table) → start.encoding.state_levels + 128 ≤ s.levels → IsReady (setting_of start.encoding) s []

-- the ids that a game keeps are its sets
abbrev pub AreSetsKept : Setting → FlatTerms → Table → MadeGame → Kept → Type 0
AreSetsKept x f s made kept =
    AreKept x f s made.steps.valid made.steps.turn kept.goals.items kept.fairs.items kept.initial kept.turn
