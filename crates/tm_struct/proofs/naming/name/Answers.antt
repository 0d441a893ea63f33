use Rattle.std.proofs.Common.{sym, ◌∙◌, arith}
use Rattle.std.proofs.lemmas.List.{length-map}
use Rattle.tm_cir.specs.View.{block_tree, block_trees}
use Rattle.tm_struct.proofs.Numbering.{few, function_named, named_less, small_function}
use Rattle.tm_struct.proofs.naming.name.Goals as goal

pub overflow_cast-len : goal.overflow_cast-len
overflow_cast-len c =
    let is = sym c.is_function.ensures ∙ c.if-is_function.true in
    omega (
      arith,
      few (block_trees c.args.blocks.now) c.args.reaches.now c.args.at _ _ c.requires.later is
          (omega (arith, c.requires.within, length-map c.args.blocks.now block_tree))
          (small_function (block_trees c.args.blocks.now) c.args.reaches.now c.requires.table c.args.at is),
      c.len.ensures,
    )

pub returns-in_ok-push : goal.returns-in_ok-push
returns-in_ok-push c =
    function_named (block_trees c.args.blocks.now) c.args.reaches.now c.args.at _ _ _ c.len.result c.requires.table
    c.requires.later (omega (arith, c.requires.within, length-map c.args.blocks.now block_tree))
    (sym c.is_function.ensures ∙ c.if-is_function.true)
    (omega (arith, c.len.ensures, c.args.naming.now.order.ok)) c.in_ok-push.ensures.items

pub returns-else-is_function : goal.returns-else-is_function
returns-else-is_function c =
    named_less (block_trees c.args.blocks.now) c.args.reaches.now c.args.at _ _ c.requires.later
    (sym c.is_function.ensures ∙ c.if-is_function.false)
