-- What playing asks of a design.
use Rattle.std.specs.Prelude.{◌<◌, ◌^◌, length}
use Rattle.tm_syntax.specs.Design.{DesignTree}
use Rattle.tm_syntax.specs.Faults.{IsOfText, IsSound}

-- what playing asks of a design: it is that of a text, keeps its facts, and has a goal and no more than numbers
pub record IsPlayable (d : DesignTree) : Type 0 where
  pub sound : IsSound d
  pub of_text : IsOfText d.spec
  pub some_goal : 0 < length d.goals
  pub few_goals : length d.goals < 2 ^ 32
  pub few_processes : length d.processes < 2 ^ 32
