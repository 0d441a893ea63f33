-- The items of a design whose conditions have atoms.
use Rattle.std.specs.Prelude.{◌≡◌}
use Rattle.tm_syntax.specs.Design.{DesignTree}
use Rattle.tm_atoms.specs.declared.find.Conditions.{Conditions}

-- a design has these goals, fairness conditions, processes and controllable tasks
pub record HasConditions (c : Conditions) (d : DesignTree) : Type 0 where
  pub goals : d.goals ≡ c.goals.now
  pub fairs : d.fairs ≡ c.fairs.now
  pub processes : d.processes ≡ c.processes.now
  pub tasks : d.tasks ≡ c.tasks.now
