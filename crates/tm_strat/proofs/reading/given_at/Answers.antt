use Rattle.std.proofs.Common.{ℕ, List, Some, sym, ap, ◌∙◌, subst}
use Rattle.std.proofs.lemmas.Option.{slice_get-get_or}
use Rattle.std.proofs.lemmas.Result.{IfOk-weaker}
use Rattle.std.specs.Prelude.{All}
use Rattle.tm_check.specs.Replies.{IsMoveOf}
use Rattle.tm_dd.specs.declared.node.NodeId.{NodeId}
use Rattle.tm_game.specs.Moves.{HasTask}
use Rattle.tm_game.specs.declared.moves.MoveShape.{MoveShape}
use Rattle.tm_strat.proofs.Giving.{moved_at}
use Rattle.tm_strat.proofs.reading.given_at.Goals as goal

pub returns-in-Test : goal.returns-in-Test
returns-in-Test c = λ d g blocks b replies block. c.not_given.ensures d g c.args.shapes.now b

pub returns-in-Move : goal.returns-in-Move
returns-in-Move c =
    IfOk-weaker c.given_move.result _ _
    (λ x made. λ d g blocks b are block.
    made d g b (subst (All (HasTask g.flat)) (sym c.deref.ensures.value) are.tasks)
    (subst (λ (l : List (ℕ × NodeId)).
    IsMoveOf d g.order g.diagrams.table 0 c.deref.result.now b c.in-Move.own c.in-Move.fits l)
    (sym c.deref-in-Move.ensures.value)
    (subst (λ (l : List MoveShape).
    IsMoveOf d g.order g.diagrams.table 0 l b c.in-Move.own c.in-Move.fits c.in-Move.arguments.items)
    (sym c.deref.ensures.value)
    (moved_at d g blocks c.args.replies.now c.args.index c.in-Move.own c.in-Move.fits c.in-Move.arguments b
    c.index.result.now are block
    (slice_get-get_or c.args.replies.now.list.items c.args.index c.index.result.now c.requires
    ∙ ap Some (sym c.index.ensures)) c.in-Move.is))))
    c.given_move.ensures
