-- Sets in which the driver was asked to stay, with the answers.
use Rattle.std.specs.Prelude.{All}
use Rattle.tm_dd.specs.Table.{Table, Knows, means}
use Rattle.tm_game_bits.specs.declared.recent.Answer.{Answer}
use Rattle.tm_game_bits.specs.declared.recent.Recent.{Recent}
use Rattle.tm_game_bits.specs.Functions.{GameFunctions}
use Rattle.tm_game_bits.specs.Forcing.{Stays}
use Rattle.tm_game_bits.specs.Diagrams.{IsSetOf}

-- an answer is right: its predecessor is where the driver stays in its set
pub record IsAnswer (s : Table) (g : GameFunctions) (a : Answer) : Type 0 where
  pub set : Knows s a.set
  pub stays : IsSetOf s (Stays g (means s a.set)) a.stays

-- each remembered answer is right
abbrev pub AreAnswers : Table → GameFunctions → Recent → Type 0
AreAnswers s g recent = All (IsAnswer s g) recent.answers
