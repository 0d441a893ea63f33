-- What a text of choices says, as plain data.
use Rattle.std.specs.Prelude.{ℕ, List}
use Rattle.tm_play.specs.declared.input.script.Actor.{Actor}

-- who moves in a step, and with which choices
pub record TurnData : Type 0 where
  pub actor : Actor
  pub choices : List ℕ

-- the choices of the initial state, and the steps in order
pub record ScriptData : Type 0 where
  pub start : List ℕ
  pub turns : List TurnData
