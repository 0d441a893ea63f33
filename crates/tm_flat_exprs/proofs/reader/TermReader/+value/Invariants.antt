use Rattle.std.proofs.Common.{◌+◌, ◌*◌}
use Rattle.std.specs.Prelude.{max}
use Rattle.tm_syntax.proofs.tree.Expr.TheLaws.{the_size}
use Rattle.tm_flat_exprs.proofs.reader.TermReader.+value.Given as goal

abbrev pub decreases-value : goal.decreases-value
decreases-value l = 2 * the_size l.e.now

abbrev pub decreases-unary : goal.decreases-unary
decreases-unary l = 2 * the_size l.e.now + 1

abbrev pub decreases-binary : goal.decreases-binary
decreases-binary l = 2 * max (the_size l.a.now) (the_size l.b.now) + 1

abbrev pub decreases-shifted : goal.decreases-shifted
decreases-shifted l = 2 * the_size l.e.now + 1

abbrev pub decreases-chosen : goal.decreases-chosen
decreases-chosen l = 2 * max (the_size l.test.now) (max (the_size l.a.now) (the_size l.b.now)) + 1

abbrev pub decreases-cast : goal.decreases-cast
decreases-cast l = 2 * the_size l.e.now + 1

abbrev pub decreases-element : goal.decreases-element
decreases-element l = 2 * the_size l.index.now + 1
