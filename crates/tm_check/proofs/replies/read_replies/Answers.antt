use Rattle.std.proofs.Common.{◌+◌, List, [], length, sym, ap, ◌∙◌, subst, arith}
use Rattle.std.proofs.lemmas.List.{length-map}
use Rattle.tm_check.specs.declared.replies.Reply.{Reply}
use Rattle.tm_check.proofs.Growth.{reads_kept}
use Rattle.tm_check.proofs.KeepingReplies.{AreFirst, block_there, first_all, first_more, first_none, fits_game}
use Rattle.tm_check.proofs.replies.read_replies.Goals as goal
use Rattle.tm_cir.specs.View.{block_tree, trees_of}
use Rattle.tm_game.specs.declared.moves.MoveShape.{MoveShape}
use Rattle.tm_game.proofs.Growing.{grows_none, grows_then, of_kept}
use Rattle.tm_game.proofs.Ordered.{count_inputs}
use Rattle.tm_game.proofs.Shapes.{length-state_widths}
use Rattle.tm_syntax.specs.Design.View.{design_tree}

pub loop-block-init : goal.loop-block-init
loop-block-init c = record {
  grows = grows_none c.args.game.now;
  first = subst (λ (xs : List Reply). AreFirst (design_tree c.args.design.now) c.args.game.now c.args.goal
      (trees_of c.args.blocks.now) 0 xs c.new-shapes.result.items) (sym c.new-list.ensures.items)
      (subst (λ (ys : List MoveShape). AreFirst (design_tree c.args.design.now) c.args.game.now c.args.goal
      (trees_of c.args.blocks.now) 0 [] ys) (sym c.new-shapes.ensures.items)
      (first_none (design_tree c.args.design.now) c.args.game.now c.args.goal (trees_of c.args.blocks.now)));
}

pub read_reply-requires-clause-reads : goal.read_reply-requires-clause-reads
read_reply-requires-clause-reads c = (
  design_tree c.args.design.now,
  reads_kept (design_tree c.args.design.now) c.args.game.now c.loop-block.game
      (record { vars = c.len.result; processes = c.len-2.result; goal = c.args.goal }) c.loop-block.invariant.grows
      (record {
        of = c.requires.of;
        sized = c.requires.sized;
        vars = c.len.ensures ∙ c.args.design.now.vars.ok.0;
        processes = c.len-2.ensures ∙ c.args.design.now.processes.ok.0;
      }),
)

pub read_reply-requires-clause-fits : goal.read_reply-requires-clause-fits
read_reply-requires-clause-fits c =
    fits_game (design_tree c.args.design.now) c.loop-block.game
    (of_kept c.args.game.now c.loop-block.game c.loop-block.invariant.grows (design_tree c.args.design.now)
    c.requires.of)
    c.len.result c.len-2.result (length (trees_of c.args.blocks.now)) c.loop-block.block-index
    (block_tree c.block-item.result) (c.len.ensures ∙ c.args.design.now.vars.ok.0)
    (c.len-2.ensures ∙ c.args.design.now.processes.ok.0)
    (c.requires.blocks.each c.loop-block.block-index (block_tree c.block-item.result)
    (block_there c.args.blocks.now c.blocks-block-items.result.now c.loop-block.block-index c.block-item.result
    c.blocks-block-items.ensures c.loop-block-test.true c.block-item.is))

pub loop-block-preserved : goal.loop-block-preserved
loop-block-preserved c = record {
  grows = grows_then c.args.game.now c.loop-block.game c.read_reply.new.game c.loop-block.invariant.grows
      c.read_reply.ensures.grows;
  first = subst (λ (xs : List Reply). AreFirst (design_tree c.args.design.now) c.read_reply.new.game c.args.goal
      (trees_of c.args.blocks.now) (c.loop-block.block-index + 1) xs c.read_reply.new.shapes.items)
      (sym c.in_ok-push.ensures.items)
      (first_more (design_tree c.args.design.now) c.loop-block.game c.read_reply.new.game c.args.goal
      (trees_of c.args.blocks.now) c.loop-block.block-index c.loop-block.list.items c.loop-block.shapes.items
      c.read_reply.new.shapes.items (block_tree c.block-item.result) c.in_ok-reply.reply c.read_reply.ensures.grows
      c.loop-block.invariant.first c.in_ok-reply.ensures.shapes
      (block_there c.args.blocks.now c.blocks-block-items.result.now c.loop-block.block-index c.block-item.result
      c.blocks-block-items.ensures c.loop-block-test.true c.block-item.is)
      (c.in_ok-reply.ensures.reply (design_tree c.args.design.now)
      (reads_kept (design_tree c.args.design.now) c.args.game.now c.loop-block.game
      (record { vars = c.len.result; processes = c.len-2.result; goal = c.args.goal }) c.loop-block.invariant.grows
      (record {
        of = c.requires.of;
        sized = c.requires.sized;
        vars = c.len.ensures ∙ c.args.design.now.vars.ok.0;
        processes = c.len-2.ensures ∙ c.args.design.now.processes.ok.0;
      }))));
}

pub returns-in_err-reply-clause-grows : goal.returns-in_err-reply-clause-grows
returns-in_err-reply-clause-grows c =
    grows_then c.args.game.now c.loop-block.game c.read_reply.new.game c.loop-block.invariant.grows
    c.read_reply.ensures.grows

pub returns-in_err-push-clause-grows : goal.returns-in_err-push-clause-grows
returns-in_err-push-clause-grows c =
    grows_then c.args.game.now c.loop-block.game c.read_reply.new.game c.loop-block.invariant.grows
    c.read_reply.ensures.grows

pub returns-clause-replies : goal.returns-clause-replies
returns-clause-replies c =
    first_all (design_tree c.args.design.now) c.loop-block.game c.args.goal (trees_of c.args.blocks.now)
    c.loop-block.block-index (record { list = c.loop-block.list; shapes = c.loop-block.shapes })
    (omega (
      arith,
      c.loop-block-test.false,
      c.loop-block.auto.block-index-end,
      length-map c.blocks-block-items.result.now block_tree,
      ap length c.blocks-block-items.ensures,
    ))
    c.loop-block.invariant.first

pub overflow_cast-reading-2 : goal.overflow_cast-reading-2
overflow_cast-reading-2 c =
    omega (
      arith,
      c.len-2.ensures,
      c.args.design.now.processes.ok.0,
      length-state_widths (design_tree c.args.design.now),
      count_inputs c.args.game.now.terms (design_tree c.args.design.now) c.args.game.now.flat c.requires.of.flat,
      ap length (c.requires.of.flat.inputs ∙ sym c.requires.of.flat.widths),
      c.requires.sized.inputs,
    )
