use Rattle.std.proofs.Common.{◌-◌, ◌<◌, List, Some, length, sym, ap, ◌∙◌, subst, arith}
use Rattle.std.proofs.lemmas.List.{length_push}
use Rattle.std.proofs.lemmas.Option.{slice_get-get_or}
use Rattle.tm_check.specs.declared.replies.Reply.{Reply}
use Rattle.tm_check.specs.Good.{AreMovesFor, FitsReply, IsGoodReply}
use Rattle.tm_check.proofs.Answering.{AreBehind, behind_more, behind_none}
use Rattle.tm_check.proofs.Gone.{answered, next_fits, next_good}
use Rattle.tm_check.proofs.Moving.{moves_kept}
use Rattle.tm_check.proofs.good.good_answers.Goals as goal
use Rattle.tm_dd.specs.declared.node.NodeId.{NodeId}
use Rattle.tm_game.specs.declared.moves.MoveShape.{MoveShape}
use Rattle.tm_game.specs.Game.{in_set}
use Rattle.tm_game.proofs.Growing.{grows_none, grows_then}

pub loop-passed-init : goal.loop-passed-init
loop-passed-init c = record {
  grows = grows_none c.good_moves.new.game;
  long = ap length c.new-from_last.ensures.items;
  behind = λ d pending bs of blocks are.
      subst (λ (ids : List NodeId). AreBehind d c.args.game.now.order c.good_moves.new.game.diagrams.table bs pending
      (in_set d c.args.game.now c.args.set) c.len-count.result ids) (sym c.new-from_last.ensures.items)
      (behind_none d c.args.game.now.order c.good_moves.new.game.diagrams.table bs pending
      (in_set d c.args.game.now c.args.set) c.len-count.result);
}

pub good_from-requires : goal.good_from-requires
good_from-requires c =
    let has = c.requires.replies in
    let s = c.loop-passed.game.diagrams.table in
    let at = c.len-count.result - 1 - c.loop-passed.passed in
    let all = c.len-count.ensures ∙ c.args.replies.now.list.ok.0 in
    let moves = subst (λ (shapes : List MoveShape). AreMovesFor has.0 c.args.game.now.order
    c.good_moves.new.game.diagrams.table (in_set has.0 c.args.game.now c.args.set) shapes c.in_ok-moves.moves.items)
    c.deref.ensures.value (c.in_ok-moves.ensures.moves has.0 has.3) in
    record {
      reply = subst (λ (ids : List NodeId). FitsReply s ids c.deref-in-loop-passed-2.result.now c.len-count.result
          c.index-reply.result.now) (sym c.deref-in-loop-passed.ensures.value)
          (subst (λ (ids : List NodeId). FitsReply s c.in_ok-moves.moves.items ids c.len-count.result
          c.index-reply.result.now) (sym c.deref-in-loop-passed-2.ensures.value)
          (next_fits has.0 c.args.game.now c.loop-passed.game
          (grows_then c.args.game.now c.good_moves.new.game c.loop-passed.game c.good_moves.ensures.grows
          c.loop-passed.invariant.grows) has.1 has.2 c.args.replies.now (in_set has.0 c.args.game.now c.args.set)
          c.in_ok-moves.moves.items c.loop-passed.from_last.items c.len-count.result at has.4 has.5
          (moves_kept has.0 c.args.game.now.order (in_set has.0 c.args.game.now c.args.set)
          c.args.replies.now.shapes.items c.good_moves.new.game.diagrams.table s c.in_ok-moves.moves.items
          c.loop-passed.invariant.grows.diagrams moves)
          (c.loop-passed.invariant.behind has.0 has.1 has.2 has.3 has.4 has.5) all
          (omega (arith, c.loop-passed.invariant.long, c.loop-passed-test.true)) c.index-reply.result.now
          (slice_get-get_or c.args.replies.now.list.items at c.index-reply.result.now
          (omega (arith, all, c.loop-passed-test.true))
          ∙ ap (λ (r : Reply). Some r) (sym c.index-reply.ensures))));
    }

pub returns-in_err-good-clause-grows : goal.returns-in_err-good-clause-grows
returns-in_err-good-clause-grows c =
    grows_then c.args.game.now c.loop-passed.game c.good_from.new.game
    (grows_then c.args.game.now c.good_moves.new.game c.loop-passed.game c.good_moves.ensures.grows
    c.loop-passed.invariant.grows) c.good_from.ensures.grows

pub returns-in_err-push-clause-grows : goal.returns-in_err-push-clause-grows
returns-in_err-push-clause-grows c =
    grows_then c.args.game.now c.loop-passed.game c.good_from.new.game
    (grows_then c.args.game.now c.good_moves.new.game c.loop-passed.game c.good_moves.ensures.grows
    c.loop-passed.invariant.grows) c.good_from.ensures.grows

pub loop-passed-preserved : goal.loop-passed-preserved
loop-passed-preserved c =
    let s = c.loop-passed.game.diagrams.table in
    let t = c.good_from.new.game.diagrams.table in
    let at = c.len-count.result - 1 - c.loop-passed.passed in
    let all = c.len-count.ensures ∙ c.args.replies.now.list.ok.0 in
    record {
      grows = grows_then c.good_moves.new.game c.loop-passed.game c.good_from.new.game c.loop-passed.invariant.grows
          c.good_from.ensures.grows;
      long = omega (
        arith,
        ap length c.in_ok-push.ensures.items,
        length_push c.loop-passed.from_last.items c.in_ok-good.good,
        c.loop-passed.invariant.long,
      );
      behind = λ d pending bs of blocks are.
          let moves = subst (λ (shapes : List MoveShape). AreMovesFor d c.args.game.now.order
          c.good_moves.new.game.diagrams.table (in_set d c.args.game.now c.args.set) shapes
          c.in_ok-moves.moves.items) c.deref.ensures.value (c.in_ok-moves.ensures.moves d of) in
          let good = subst (λ (ids : List NodeId). IsGoodReply s t ids c.loop-passed.from_last.items
          c.len-count.result c.index-reply.result.now c.in_ok-good.good) c.deref-in-loop-passed.ensures.value
          (subst (λ (ids : List NodeId). IsGoodReply s t c.deref-in-loop-passed.result.now ids c.len-count.result
          c.index-reply.result.now c.in_ok-good.good) c.deref-in-loop-passed-2.ensures.value
          c.in_ok-good.ensures.good) in
          subst (λ (ids : List NodeId). AreBehind d c.args.game.now.order t bs pending
          (in_set d c.args.game.now c.args.set) c.len-count.result ids) (sym c.in_ok-push.ensures.items)
          (behind_more d c.args.game.now.order s t bs pending (in_set d c.args.game.now c.args.set)
          c.len-count.result c.loop-passed.from_last.items c.in_ok-good.good c.good_from.ensures.grows.diagrams
          (c.loop-passed.invariant.behind d pending bs of blocks are)
          (next_good d c.args.game.now c.loop-passed.game
          (grows_then c.args.game.now c.good_moves.new.game c.loop-passed.game c.good_moves.ensures.grows
          c.loop-passed.invariant.grows) pending bs c.args.replies.now (in_set d c.args.game.now c.args.set)
          c.in_ok-moves.moves.items c.loop-passed.from_last.items c.len-count.result at blocks are
          (moves_kept d c.args.game.now.order (in_set d c.args.game.now c.args.set)
          c.args.replies.now.shapes.items c.good_moves.new.game.diagrams.table s c.in_ok-moves.moves.items
          c.loop-passed.invariant.grows.diagrams moves)
          (c.loop-passed.invariant.behind d pending bs of blocks are) all
          (omega (arith, c.loop-passed.invariant.long, c.loop-passed-test.true)) t c.index-reply.result.now
          c.in_ok-good.good
          (slice_get-get_or c.args.replies.now.list.items at c.index-reply.result.now
          (omega (arith, all, c.loop-passed-test.true))
          ∙ ap (λ (r : Reply). Some r) (sym c.index-reply.ensures)) good));
    }

pub index-requires : goal.index-requires
index-requires c =
    omega (
      arith,
      c.len-count.ensures,
      c.args.replies.now.list.ok.0,
      c.requires.replies.5.count,
      c.requires.replies.4.some,
      c.loop-passed.invariant.long,
      c.loop-passed-test.false,
      c.loop-passed.auto.passed-end,
      c.loop-passed.from_last.ok.0,
    )

pub returns-clause-grows : goal.returns-clause-grows
returns-clause-grows c =
    grows_then c.args.game.now c.good_moves.new.game c.loop-passed.game c.good_moves.ensures.grows
    c.loop-passed.invariant.grows

pub returns-clause-states : goal.returns-clause-states
returns-clause-states c = λ d pending bs of blocks are.
    let some : 0 < c.len-count.result = omega (
      arith,
      c.len-count.ensures,
      c.args.replies.now.list.ok.0,
      are.count,
      blocks.some,
    ) in
    answered d c.args.game.now.order c.loop-passed.game.diagrams.table bs pending (in_set d c.args.game.now c.args.set)
    c.len-count.result c.loop-passed.from_last.items c.index.result.now
    (c.loop-passed.invariant.behind d pending bs of blocks are)
    (slice_get-get_or c.loop-passed.from_last.items (c.len-count.result - 1) c.index.result.now
    (omega (arith, some, c.loop-passed.invariant.long, c.loop-passed-test.false, c.loop-passed.auto.passed-end))
    ∙ ap (λ (x : NodeId). Some x) (sym c.index.ensures)) some
