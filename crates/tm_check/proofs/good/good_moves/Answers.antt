use Rattle.std.proofs.Common.{◌+◌, ℕ, List, get_or, sym, subst, arith}
use Rattle.std.proofs.lemmas.Option.{slice_get-get_or}
use Rattle.tm_check.proofs.Moving.{AreFirstMoves, in_set_kept, moves_all, moves_more, moves_none}
use Rattle.tm_check.proofs.good.good_moves.Goals as goal
use Rattle.tm_dd.specs.declared.node.NodeId.{NodeId}
use Rattle.tm_game.specs.Game.{in_set}
use Rattle.tm_flat.specs.Flat.{FlatTerms}
use Rattle.tm_game.specs.declared.moves.MoveShape.TheVariants.{Idle}
use Rattle.tm_game.specs.Moves.{AreMoves, HasTask}
use Rattle.tm_sem.specs.State.{StateData}
use Rattle.tm_game.proofs.Growing.{grows_none, grows_then, of_kept, set_kept}

pub loop-shape-init : goal.loop-shape-init
loop-shape-init c = record {
  grows = grows_none c.args.game.now;
  moves = λ d of.
      subst (λ (ids : List NodeId). AreFirstMoves d c.args.game.now.order (in_set d c.args.game.now c.args.set)
      c.args.shapes.now c.args.game.now.diagrams.table 0 ids) (sym c.new-moves.ensures.items)
      (moves_none d c.args.game.now.order (in_set d c.args.game.now c.args.set) c.args.shapes.now
      c.args.game.now.diagrams.table);
}

pub legal_move-requires-clause-set : goal.legal_move-requires-clause-set
legal_move-requires-clause-set c =
    set_kept c.args.game.now c.loop-shape.game c.loop-shape.invariant.grows c.args.set c.requires.set

pub legal_move-requires-clause-task : goal.legal_move-requires-clause-task
legal_move-requires-clause-task c =
    subst (λ (f : FlatTerms). HasTask f (get_or c.args.shapes.now c.loop-shape.shape-index Idle))
    (sym c.loop-shape.invariant.grows.flat)
    (c.requires.tasks c.loop-shape.shape-index Idle (omega arith))

pub returns-in_err-good-clause-grows : goal.returns-in_err-good-clause-grows
returns-in_err-good-clause-grows c =
    grows_then c.args.game.now c.loop-shape.game c.legal_move.new.self c.loop-shape.invariant.grows
    c.legal_move.ensures.grows

pub returns-in_err-push-clause-grows : goal.returns-in_err-push-clause-grows
returns-in_err-push-clause-grows c =
    grows_then c.args.game.now c.loop-shape.game c.legal_move.new.self c.loop-shape.invariant.grows
    c.legal_move.ensures.grows

pub loop-shape-preserved : goal.loop-shape-preserved
loop-shape-preserved c = record {
  grows = grows_then c.args.game.now c.loop-shape.game c.legal_move.new.self c.loop-shape.invariant.grows
      c.legal_move.ensures.grows;
  moves = λ d of.
      subst (λ (ids : List NodeId). AreFirstMoves d c.args.game.now.order (in_set d c.args.game.now c.args.set)
      c.args.shapes.now c.legal_move.new.self.diagrams.table (c.loop-shape.shape-index + 1) ids)
      (sym c.in_ok-push.ensures.items)
      (moves_more d c.args.game.now.order (in_set d c.args.game.now c.args.set) c.args.shapes.now
      c.loop-shape.game.diagrams.table c.legal_move.new.self.diagrams.table c.loop-shape.shape-index
      c.loop-shape.moves.items (get_or c.args.shapes.now c.loop-shape.shape-index Idle) c.in_ok-good.good
      c.legal_move.ensures.grows.diagrams
      (c.loop-shape.invariant.moves d of)
      (slice_get-get_or c.args.shapes.now c.loop-shape.shape-index Idle (omega arith))
      (subst (λ (within : StateData → Type 0). AreMoves d c.args.game.now.order c.legal_move.new.self.diagrams.table
      (get_or c.args.shapes.now c.loop-shape.shape-index Idle) within c.in_ok-good.good)
      (in_set_kept d c.args.game.now c.loop-shape.game c.loop-shape.invariant.grows c.args.set c.requires.set.known)
      (subst (λ (o : List ℕ). AreMoves d o c.legal_move.new.self.diagrams.table
      (get_or c.args.shapes.now c.loop-shape.shape-index Idle) (in_set d c.loop-shape.game c.args.set)
      c.in_ok-good.good)
      c.loop-shape.invariant.grows.order
      (c.in_ok-good.ensures.answer d
      (of_kept c.args.game.now c.loop-shape.game c.loop-shape.invariant.grows d of)))));
}

pub returns-clause-moves : goal.returns-clause-moves
returns-clause-moves c = λ d of.
    moves_all d c.args.game.now.order (in_set d c.args.game.now c.args.set) c.args.shapes.now
    c.loop-shape.game.diagrams.table c.loop-shape.shape-index c.loop-shape.moves.items (omega arith)
    (c.loop-shape.invariant.moves d of)
