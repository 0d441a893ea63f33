-- The parameters of a called task get the values of arguments.
use Rattle.std.proofs.Common.{◌≡◌, ℕ, Some, List, length, map, sym, ◌∙◌, subst}
use Rattle.tm_syntax.specs.declared.tree.TaskDef.{TaskDef}
use Rattle.tm_syntax.specs.Tree.{ExprTree}
use Rattle.tm_syntax.specs.Design.Cells.{Cell}
use Rattle.tm_scope.specs.Cells.{HasCells, ScopedCells, cell_at}
use Rattle.tm_scope.specs.declared.cells.site_body.CellNumber.{CellNumber}
use Rattle.tm_sem.specs.Value.{Memory}
use Rattle.tm_design.specs.Parameters.{AreCalledCells, task_at}
use Rattle.tm_design.proofs.CalledParameters.{as_many_cells, has_parameters, params_typed}
use Rattle.tm_plain_bodies.specs.declared.course.Course.{Course}
use Rattle.tm_plain_bodies.specs.Arguments.{AreGiven, AreValued}
use Rattle.tm_plain_bodies.specs.Frames.{AreArguments}
use Rattle.tm_plain_bodies.specs.Runs.{IsSame, told}
use Rattle.tm_design.specs.StepCells.{AreApart}
use Rattle.tm_plain_exprs.specs.Kept.{Keeps, put_all}
use Rattle.tm_plain_bodies.proofs.Giving.{given_is, none_overruns}

pub are_given : (s inner : ScopedCells) (args : List ExprTree) (task : TaskDef) (from valued to : Course)
    (values : List ℕ) (numbers : List CellNumber) → inner.tables ≡ s.tables → task_at inner ≡ Some task →
    IsSame from valued → AreArguments s task.params.items args →
    AreValued s from.store task.params.items args values →
    AreCalledCells inner (length task.params.items) numbers →
    ((m : Memory) (cs : List Cell) → AreApart inner.tables → Keeps inner.tables valued.store m →
    map (cell_at inner.tables inner.at) numbers ≡ map Some cs →
    Keeps inner.tables to.store (put_all m cs values)) → to.trail ≡ valued.trail → to.choices ≡ valued.choices →
    AreGiven s inner.at args from to
are_given s inner args task from valued to values numbers tables there same fit are cells puts trail choices = record {
  trail = trail ∙ same.trail;
  choices = choices ∙ same.choices;
  keeps = λ o c is.
      let has : HasCells inner.tables o.design = subst (λ x. HasCells x o.design) (sym tables) o.cells in
      let kept : Keeps inner.tables to.store (put_all o.memory c.params values) =
      puts o.memory c.params (subst AreApart (sym tables) o.apart)
      (subst (λ k. Keeps inner.tables k o.memory) (sym same.store)
      (subst (λ x. Keeps x from.store o.memory) (sym tables) o.keeps))
      (cells.cells o.design has c is (as_many_cells inner task there o.design has (has_parameters o.typed) c is)) in
      subst (Keeps s.tables to.store)
      (sym (given_is s from.store (told s from.store o) task.params.items args values c.params fit are
      (params_typed inner task there o.design has (has_parameters o.typed) c is)))
      (subst (λ x. Keeps x to.store (put_all o.memory c.params values)) tables kept);
  within = λ of. none_overruns s from.store task.params.items args values fit are of;
}
