-- What is asked of a design so that the terms can be made of what it says of states.
use Rattle.std.specs.Prelude.{◌≡◌, ◌+◌, ◌<◌, ◌^◌, ℕ, Some}
use Rattle.std.specs.List.{AllByRecursion}
use Rattle.tm_syntax.specs.declared.design.Design.{Design}
use Rattle.tm_syntax.specs.declared.design.Item.{Item}
use Rattle.tm_syntax.specs.declared.design.Ty.TheVariants as types
use Rattle.tm_syntax.specs.Tree.{ExprTree}
use Rattle.tm_syntax.specs.Design.{DesignTree}
use Rattle.tm_syntax.specs.Design.Cells.{Called}
use Rattle.tm_syntax.specs.Design.View.{design_tree}
use Rattle.tm_typing.specs.HasType.{IsSized}
use Rattle.tm_scope.specs.Cells.{HasCells, ScopedCells}
use Rattle.tm_scope.specs.declared.context.BodyName.TheVariants.{Outside}
use Rattle.tm_design.specs.Typed.{HasTypeAt}
use Rattle.tm_design.specs.Settled.{AreSettled}
use Rattle.tm_design.specs.Values.{HasParameters, HasValues}
use Rattle.tm_sem.specs.Fairness.{fair_expr}
use Rattle.tm_sem.specs.Play.{goal_expr}
use Rattle.tm_sem.specs.Run.{asked_by}
use Rattle.tm_sem.specs.Step.{task_of}
use Rattle.tm_flat.specs.Inputs.{AreSmall, first_choice, room}
use Rattle.tm_flat_exprs.specs.Tables.{cells_of}

-- what stands outside of the bodies of an instance
abbrev pub outside_of : Design → ℕ → ScopedCells
outside_of d n = record { tables = cells_of d; at = record { instance = n; body = Outside } }

-- the expressions of goals and of declared fairness conditions are truths
pub record HasConditions (d : Design) : Type 0 where
  pub goals : (item : Item) (e : ExprTree) → goal_expr (design_tree d) item ≡ Some e →
      HasTypeAt (outside_of d item.instance) types.Bool e
  pub fairs : (item : Item) (e : ExprTree) → fair_expr (design_tree d) item ≡ Some e →
      HasTypeAt (outside_of d item.instance) types.Bool e

-- the parameters of controllable tasks have cells, which ask for types whose numbers have a width that they can have
pub record HasArguments (d : DesignTree) : Type 0 where
  pub parameters : HasParameters d
  pub sized : (n : ℕ) (c : Called) → task_of d n ≡ Some c → AllByRecursion (λ c. IsSized (asked_by d (Some c))) c.params

-- what a design has: types with values, conditions that are truths over settled cells, parameters with cells, small
-- numbers, and no more inputs than can be numbered
pub record IsMarkable (d : Design) : Type 0 where
  pub values : HasValues (design_tree d)
  pub conditions : HasConditions d
  pub settled : (e : DesignTree) → HasCells (cells_of d) e → AreSettled e
  pub arguments : HasArguments (design_tree d)
  pub small : AreSmall (design_tree d)
  pub few : first_choice (design_tree d) + (room + room) < 2 ^ 32
