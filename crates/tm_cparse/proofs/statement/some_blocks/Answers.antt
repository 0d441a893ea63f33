use Rattle.std.proofs.Common.{rules, arith, List, [], ◌++◌, ◌∷◌, map, ap, ◌∙◌}
use Rattle.tm_cparse.specs.declared.statement.Labelled.{Labelled}
use Rattle.tm_cparse.specs.View.{tokens_of, written_tree}
use Rattle.tm_cparse.proofs.Moves.{moves_then}
use Rattle.tm_cparse.proofs.Readings.{refused_behind}
use Rattle.tm_cparse.proofs.Blocks.{block_moved, blocks_go_on, block_refused, closes_blocks}
use Rattle.tm_cparse.proofs.statement.some_blocks.Goals as goal

pub returns-in_err-first_block-clause-refused : goal.returns-in_err-first_block-clause-refused
returns-in_err-first_block-clause-refused c =
    let h = block_refused [] (tokens_of c.args.spots.now) _ c.in_err-first_block.ensures.refused in search rules

pub loop-behind-init : goal.loop-behind-init
loop-behind-init c = (
  block_moved [] c.push.new.self.items written_tree c.in_ok-first_block.first_block (tokens_of c.args.spots.now)
      (tokens_of c.in_ok-first_block.rest.now)
      (c.in_ok-push.ensures.items
      ∙ ap (λ (l : List Labelled). l ++ c.in_ok-first_block.first_block ∷ []) c.new-blocks.ensures.items)
      c.in_ok-first_block.ensures.taken,
  omega (arith, c.in_ok-first_block.ensures.shorter),
)

pub returns-in-Some-clause-taken : goal.returns-in-Some-clause-taken
returns-in-Some-clause-taken c =
    closes_blocks (map written_tree c.loop-behind.blocks.items) (tokens_of c.args.spots.now)
    (tokens_of c.loop-behind.rest.now) (tokens_of c.in-Some.behind.now) c.loop-behind.invariant.0
    c.in-Some.ensures.whole

pub returns-in_err-next-clause-refused : goal.returns-in_err-next-clause-refused
returns-in_err-next-clause-refused c =
    let h = refused_behind
    (moves_then c.loop-behind.invariant.0
    (blocks_go_on (map written_tree c.loop-behind.blocks.items) (tokens_of c.loop-behind.rest.now)
    c.in_default.ensures.whole)) _
    (block_refused (map written_tree c.loop-behind.blocks.items) (tokens_of c.loop-behind.rest.now) _
    c.in_err-next.ensures.refused) in
    search rules

pub loop-behind-preserved : goal.loop-behind-preserved
loop-behind-preserved c = (
  moves_then c.loop-behind.invariant.0
      (moves_then
      (blocks_go_on (map written_tree c.loop-behind.blocks.items) (tokens_of c.loop-behind.rest.now)
      c.in_default.ensures.whole)
      (block_moved c.loop-behind.blocks.items c.push-in-loop-behind.new.self.items written_tree c.in_ok-next.next
      (tokens_of c.loop-behind.rest.now) (tokens_of c.in_ok-next.behind.now) c.in_ok-push-2.ensures.items
      c.in_ok-next.ensures.taken)),
  omega (arith, c.in_ok-next.ensures.shorter),
)
