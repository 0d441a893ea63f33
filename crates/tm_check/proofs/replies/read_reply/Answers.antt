use Rattle.std.proofs.Common.{List, map, refl, sym, subst}
use Rattle.std.specs.Prelude.{All}
use Rattle.tm_check.specs.declared.replies.Reply.TheVariants as replies
use Rattle.tm_check.specs.Replies.{FitsGame, IsMove, IsReply, move_of}
use Rattle.tm_check.proofs.KeepingReplies.{all_mapped, shape_added}
use Rattle.tm_check.proofs.Placing.{plain_move}
use Rattle.tm_check.proofs.replies.read_reply.Goals as goal
use Rattle.tm_cir.specs.declared.block.Block.{Block}
use Rattle.tm_cir.specs.declared.block.Num64.{Num64}
use Rattle.tm_cir.specs.Fit.{FitsNum}
use Rattle.tm_cir.specs.Tree.{call, idle, leave}
use Rattle.tm_cir.specs.View.{block_tree, num_tree}
use Rattle.tm_dd.specs.declared.node.TheConstants.{TRUE}
use Rattle.tm_game.specs.declared.moves.MoveShape.TheVariants as shapes

pub call-requires-clause-fits : goal.call-requires-clause-fits
call-requires-clause-fits c =
    let fits = subst (λ (b : Block).
    FitsGame c.args.game.now.flat c.args.reading.vars c.args.reading.processes (block_tree b)) c.in-Call.is
    c.requires.fits in
    subst (All (λ n. FitsNum c.args.reading.vars c.args.reading.processes (num_tree n))) (sym c.deref.ensures.value)
    (all_mapped (FitsNum c.args.reading.vars c.args.reading.processes) c.in-Call.args.items fits.1)

pub returns-in_ok-holds-in-Test-clause-reply : goal.returns-in_ok-holds-in-Test-clause-reply
returns-in_ok-holds-in-Test-clause-reply c = λ d is.
    subst (λ (b : Block). IsReply d c.args.game.now.order c.test.new.game.diagrams.table c.args.reading.goal
    c.args.shapes.now.items (block_tree b)
    (replies.Test c.in_ok-holds-in-Test.holds c.in-Test.first c.in-Test.second)) (sym c.in-Test.is)
    (c.in_ok-holds-in-Test.ensures.holds d is, refl, refl)

pub returns-in_ok-given-in-Call-clause-shapes : goal.returns-in_ok-given-in-Call-clause-shapes
returns-in_ok-given-in-Call-clause-shapes c =
    let fits = subst (λ (b : Block).
    FitsGame c.args.game.now.flat c.args.reading.vars c.args.reading.processes (block_tree b)) c.in-Call.is
    c.requires.fits in
    shape_added c.args.game.now.flat c.args.shapes.now.items c.shape_number.new.shapes.items (shapes.Call
    c.in-Call.task)
    c.in_ok-shape-in-Call.shape fits.0 c.in_ok-shape-in-Call.ensures

pub returns-in_ok-given-in-Call-clause-reply : goal.returns-in_ok-given-in-Call-clause-reply
returns-in_ok-given-in-Call-clause-reply c = λ d is.
    subst (λ (b : Block). IsReply d c.args.game.now.order c.call.new.game.diagrams.table c.args.reading.goal
    c.shape_number.new.shapes.items (block_tree b)
    (replies.Move c.in_ok-shape-in-Call.shape c.in_ok-given-in-Call.given.fits c.in_ok-given-in-Call.given.parts))
    (sym c.in-Call.is)
    (record {
      shape = c.in_ok-shape-in-Call.ensures.here;
      move = subst (λ (args : List Num64). IsMove d c.args.game.now.order c.call.new.game.diagrams.table
          (move_of c.args.reading.goal (call c.in-Call.task (map num_tree args))) (shapes.Call c.in-Call.task)
          c.in_ok-given-in-Call.given.fits c.in_ok-given-in-Call.given.parts.items) c.deref.ensures.value
          (c.in_ok-given-in-Call.ensures.call d is);
    })

pub returns-in_ok-shape-in-Leave-clause-reply : goal.returns-in_ok-shape-in-Leave-clause-reply
returns-in_ok-shape-in-Leave-clause-reply c = λ d is.
    subst (λ (b : Block). IsReply d c.args.game.now.order c.args.game.now.diagrams.table c.args.reading.goal
    c.shape_number-in-Leave.new.shapes.items (block_tree b)
    (replies.Move c.in_ok-shape-in-Leave.shape TRUE c.new.result)) (sym c.in-Leave.is)
    (record {
      shape = c.in_ok-shape-in-Leave.ensures.here;
      move = subst (IsMove d c.args.game.now.order c.args.game.now.diagrams.table
          (move_of c.args.reading.goal (leave c.in-Leave.process)) (shapes.Leave c.in-Leave.process) TRUE)
          (sym c.new.ensures.items)
          (plain_move d c.args.game.now.order c.args.game.now.diagrams.table
          (move_of c.args.reading.goal (leave c.in-Leave.process)) (shapes.Leave c.in-Leave.process) (λ v. refl));
    })

pub returns-in_ok-shape-in-Idle-clause-reply : goal.returns-in_ok-shape-in-Idle-clause-reply
returns-in_ok-shape-in-Idle-clause-reply c = λ d is.
    subst (λ (b : Block). IsReply d c.args.game.now.order c.args.game.now.diagrams.table c.args.reading.goal
    c.shape_number-in-Idle.new.shapes.items (block_tree b)
    (replies.Move c.in_ok-shape-in-Idle.shape TRUE c.new-in-Idle.result)) (sym c.in-Idle.is)
    (record {
      shape = c.in_ok-shape-in-Idle.ensures.here;
      move = subst (IsMove d c.args.game.now.order c.args.game.now.diagrams.table (move_of c.args.reading.goal idle)
          shapes.Idle TRUE) (sym c.new-in-Idle.ensures.items)
          (plain_move d c.args.game.now.order c.args.game.now.diagrams.table (move_of c.args.reading.goal idle)
          shapes.Idle (λ v. refl));
    })
