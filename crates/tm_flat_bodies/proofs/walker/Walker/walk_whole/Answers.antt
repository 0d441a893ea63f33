use Rattle.std.proofs.Common.{◌∷◌, List, ap, ◌∙◌}
use Rattle.tm_design.proofs.Contexts.{some_cells, some_design}
use Rattle.tm_flat_bodies.specs.declared.waiting.Spot.TheVariants.{Start}
use Rattle.tm_flat_bodies.specs.declared.waiting.Todo.{Todo}
use Rattle.tm_flat_bodies.specs.declared.waiting.Todo.TheVariants as todo
use Rattle.tm_flat_bodies.specs.Inner.Places.{row_tree, stack}
use Rattle.tm_flat_bodies.specs.Inner.Waiting.{RowGoal}
use Rattle.tm_flat_bodies.specs.Tables.{known_by}
use Rattle.tm_flat_bodies.proofs.Stepping.{all_done, begins, fewer_left, next_asks, stepped}
use Rattle.tm_flat_bodies.proofs.walker.Walker.walk_whole.Goals as goal

pub loop-next-init : goal.loop-next-init
loop-next-init c =
    begins (known_by c.args.self.now) c.args.start.now _ c.args.row c.args.course.now c.args.flow
    (c.in_ok-leave.ensures ∙ ap (λ (ts : List Todo). todo.Row Start c.args.row ∷ ts) c.new-waiting.ensures) c.requires

pub step-requires : goal.step-requires
step-requires c =
    next_asks (known_by c.args.self.now) c.args.start.now (stack c.loop-next.waiting) (stack c.next.new.self)
    c.in-Some.next
    c.loop-next.course c.loop-next.here
    (RowGoal (known_by c.args.self.now) c.args.start.now (row_tree c.args.row) c.args.course.now c.args.flow)
    c.in-Some.ensures.next c.loop-next.invariant

pub loop-next-preserved : goal.loop-next-preserved
loop-next-preserved c =
    stepped (known_by c.args.self.now) c.args.start.now (stack c.loop-next.waiting) (stack c.next.new.self)
    c.in-Some.next c.loop-next.course c.loop-next.here
    (RowGoal (known_by c.args.self.now) c.args.start.now (row_tree c.args.row) c.args.course.now c.args.flow)
    c.in-Some.ensures.next c.loop-next.invariant (stack c.step.new.waiting) c.step.new.course _ c.in_ok-here.ensures

pub loop-next-smaller : goal.loop-next-smaller
loop-next-smaller c =
    fewer_left (known_by c.args.self.now) c.args.start.now (stack c.loop-next.waiting) (stack c.next.new.self)
    c.in-Some.next c.loop-next.course c.loop-next.here
    (RowGoal (known_by c.args.self.now) c.args.start.now (row_tree c.args.row) c.args.course.now c.args.flow)
    c.in-Some.ensures.next c.loop-next.invariant (stack c.step.new.waiting) c.step.new.course _ c.in_ok-here.ensures
    (some_design c.args.self.now.cells.now) (some_cells c.args.self.now.cells.now)

pub returns : goal.returns
returns c =
    all_done (known_by c.args.self.now) c.args.start.now (stack c.loop-next.waiting) c.loop-next.course c.loop-next.here
    (RowGoal (known_by c.args.self.now) c.args.start.now (row_tree c.args.row) c.args.course.now c.args.flow)
    c.in_default.ensures.none c.loop-next.invariant
