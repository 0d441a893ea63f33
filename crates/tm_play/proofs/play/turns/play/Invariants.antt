use Rattle.tm_syntax.specs.Design.View.{design_tree}
use Rattle.tm_cir.specs.View.{trees_of}
use Rattle.tm_play.proofs.Playing.{Playing}
use Rattle.tm_play.proofs.play.turns.play.Given as goal

abbrev pub invariant-loop-index : goal.invariant-loop-index
invariant-loop-index g l =
    Playing (design_tree l.machine) (trees_of l.blocks) l.script g.O.Sink.tells l.index l.position
    (g.O.Sink.written l.fn.out) (g.O.Sink.written l.out) (g.O.Sink.faults l.fn.out) (g.O.Sink.faults l.out)
