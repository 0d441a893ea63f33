use Rattle.std.proofs.Common.{◌+◌, ◌*◌}
use Rattle.tm_syntax.specs.Tree.View.{expr_tree}
use Rattle.tm_plain_exprs.proofs.Sizes.{expr_size}
use Rattle.tm_plain_exprs.proofs.reader.Reader.+value.Given as goal

abbrev pub decreases-value : goal.decreases-value
decreases-value l = 3 * expr_size (expr_tree l.e.now)

abbrev pub decreases-unary : goal.decreases-unary
decreases-unary l = 3 * expr_size (expr_tree l.e.now) + 1

abbrev pub decreases-joined : goal.decreases-joined
decreases-joined l = 3 * expr_size (expr_tree l.b.now) + 1

abbrev pub decreases-shifted : goal.decreases-shifted
decreases-shifted l = 3 * expr_size (expr_tree l.e.now) + 1

abbrev pub decreases-cast : goal.decreases-cast
decreases-cast l = 3 * expr_size (expr_tree l.e.now) + 1

abbrev pub decreases-element : goal.decreases-element
decreases-element l = 3 * expr_size (expr_tree l.index.now) + 2

abbrev pub decreases-index : goal.decreases-index
decreases-index l = 3 * expr_size (expr_tree l.index.now) + 1
