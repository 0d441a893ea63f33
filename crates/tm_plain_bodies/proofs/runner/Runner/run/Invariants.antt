use Rattle.tm_plain_bodies.specs.Inner.Owed.{owed}
use Rattle.tm_plain_bodies.specs.Inner.Weights.{weight}
use Rattle.tm_plain_bodies.proofs.Stacks.{OverSoFar}
use Rattle.tm_plain_bodies.proofs.runner.Runner.run.Given as goal

abbrev pub invariant-loop-next : goal.invariant-loop-next
invariant-loop-next l =
    OverSoFar l.self (owed l.fn.todo.items) (owed l.todo.items) l.fn.course l.course

abbrev pub decreases-loop-next : goal.decreases-loop-next
decreases-loop-next l = weight l.self (owed l.todo.items)
