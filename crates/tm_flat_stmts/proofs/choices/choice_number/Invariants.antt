use Rattle.tm_flat.specs.BitRun.{number_at}
use Rattle.tm_flat_exprs.specs.Made.{Makes}
use Rattle.tm_flat_stmts.specs.Choices.{choice_bit}
use Rattle.tm_flat_stmts.proofs.choices.choice_number.Given as goal

abbrev pub invariant-loop-index : goal.invariant-loop-index
invariant-loop-index l =
    Makes l.fn.terms l.terms l.width l.id (λ u v. number_at (choice_bit l.first v) l.position l.index)
