-- What all actors share: where the driver can be picked, and what a stutter changes.
use Rattle.std.specs.Prelude.{List, length}
use Rattle.tm_dd.specs.Table.{Table}
use Rattle.tm_game_bits.specs.Diagrams.{IsSetOf, KnowsChanges, changes_of}
use Rattle.tm_game_steps.specs.declared.making.Turns.{Turns}
use Rattle.tm_game_steps.specs.declared.places.Place.{Place}
use Rattle.tm_game_steps.specs.Inner.Turns.{HasBlockBelow}
use Rattle.tm_game_steps.specs.Setting.{Setting}
use Rattle.tm_game_steps.specs.Telling.{PassesTo}

-- the driver can be picked where a process stands at a block, and a stutter passes
pub record AreTurns (x : Setting) (s : Table) (places : List Place) (turns : Turns) : Type 0 where
  pub turn : IsSetOf s (HasBlockBelow x places (length places)) turns.turn
  pub known : KnowsChanges s turns.stutter.items
  pub stutter : PassesTo x 0 (changes_of s turns.stutter.items)
