use Rattle.tm_syntax.specs.Design.View.{design_tree}
use Rattle.tm_cir.specs.View.{trees_of}
use Rattle.tm_cir.proofs.Following.{of_one_design}
use Rattle.tm_play.proofs.play.turn.move_of.Goals as goal

pub answer-requires : goal.answer-requires
answer-requires c = of_one_design (design_tree c.args.machine.now) (trees_of c.args.blocks.now) c.args.state.now
    c.requires.blocks c.requires.state
