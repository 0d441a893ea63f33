use Rattle.std.proofs.Common.{◌≡◌, ℕ, List, length, sym, subst, arith}
use Rattle.tm_syntax.specs.declared.design.Design.{Design}
use Rattle.tm_syntax.specs.Design.View.{design_tree}
use Rattle.tm_syntax.proofs.Limits.{few_tasks}
use Rattle.tm_locations.specs.declared.table.Locations.{Locations}
use Rattle.tm_flat_states.specs.Marks.{MakesSuch}
use Rattle.tm_flat_moves.specs.Callable.{AreCallable}
use Rattle.tm_flat_design.specs.Making.{AreTasks}
use Rattle.tm_flat_design.proofs.Steps.{made_behind}
use Rattle.tm_flat_design.proofs.updater.Updater.tasks.Goals as goal

pub overflow_cast-len : goal.overflow_cast-len
overflow_cast-len c =
    omega (
      arith,
      few_tasks (design_tree c.args.self.now.design.now) c.requires.design.runnable.sound,
      c.len.ensures,
    )

pub task_steps-requires-clause-callable : goal.task_steps-requires-clause-callable
task_steps-requires-clause-callable c =
    let d = c.args.self.now.design.now in
    let runnable = c.requires.design.runnable in
    let callable = c.sound_designs_of_texts_are_callable.ensures d runnable.sound runnable.read
    c.args.self.now.locations.now c.requires.design.located in
    subst (λ (k : Design). AreCallable k c.new-tasks.result.all.now) (sym c.new-tasks.ensures.design)
    (subst (λ (all : List Locations). AreCallable d all) (sym c.new-tasks.ensures.locations) callable)

pub returns : goal.returns
returns c =
    let d = c.args.self.now.design.now in
    let t = c.args.course.now.terms in
    let m = c.driver_turn.new.terms in
    let n = c.task_steps.new.course.terms in
    let steps = c.in_ok-steps.steps.items in
    let made = made_behind t m n (AreTasks (design_tree c.new-tasks.result.design.now) c.len.result) steps
    c.in_ok-turn.ensures.grown c.in_ok-steps.ensures in
    let long : c.len.result ≡ length d.tasks.items = omega (arith, c.len.ensures, d.tasks.ok) in
    subst (λ (count : ℕ). MakesSuch t n (AreTasks (design_tree d) count) steps) long
    (subst (λ (k : Design). MakesSuch t n (AreTasks (design_tree k) c.len.result) steps) c.new-tasks.ensures.design
    made)
