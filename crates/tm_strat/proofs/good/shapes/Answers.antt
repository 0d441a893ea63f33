use Rattle.std.proofs.Common.{List, [], ◌∷◌, ◌++◌, ap, ◌∙◌}
use Rattle.tm_game.specs.declared.moves.MoveShape.{MoveShape}
use Rattle.tm_game.specs.declared.moves.MoveShape.TheVariants.{Idle}
use Rattle.tm_strat.proofs.Behind.{shapes_all}
use Rattle.tm_strat.proofs.good.shapes.Goals as goal

pub returns-clause-all : goal.returns-clause-all
returns-clause-all c =
    shapes_all c.push.new.self.items c.push_leaves.new.shapes.items c.push_calls.new.shapes.items c.args.processes
    c.args.tasks
    (c.in_ok-push.ensures.items ∙ ap (λ (l : List MoveShape). l ++ Idle ∷ []) c.new-shapes.ensures.items)
    c.in_ok-push_leaves.ensures c.in_ok-push_calls.ensures
