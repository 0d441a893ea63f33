use Rattle.std.proofs.Common.{arith}
use Rattle.std.proofs.lemmas.List.{length-map}
use Rattle.tm_cir.specs.View.{block_tree}
use Rattle.tm_struct.proofs.Followed.{table_begins, table_ends}
use Rattle.tm_struct.proofs.reaching.reaches.Goals as goal

pub unreached-requires : goal.unreached-requires
unreached-requires c = omega (arith, c.requires.some, length-map c.args.blocks.now block_tree)

pub loop-at-init : goal.loop-at-init
loop-at-init c = table_begins c.args.blocks.now _ c.requires c.in_ok-reaches.ensures

pub returns : goal.returns
returns c = table_ends c.args.blocks.now _ c.loop-at.at (omega arith) c.loop-at.invariant
