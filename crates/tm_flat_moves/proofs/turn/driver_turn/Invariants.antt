use Rattle.tm_syntax.specs.Design.View.{design_tree}
use Rattle.tm_flat_exprs.specs.Made.{MakesTruth}
use Rattle.tm_flat_moves.specs.Turn.{stands_in}
use Rattle.tm_flat_moves.proofs.turn.driver_turn.Given as goal

abbrev pub invariant-loop-index : goal.invariant-loop-index
invariant-loop-index l =
    MakesTruth l.fn.terms l.terms l.turn (λ u v. stands_in (design_tree l.design) l.index v)
