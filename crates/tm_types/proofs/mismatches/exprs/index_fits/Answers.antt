use Rattle.std.proofs.Common.{sym, ◌∙◌}
use Rattle.tm_syntax.specs.Tree.View.{expr_tree}
use Rattle.tm_scope.specs.Context.{context_of}
use Rattle.tm_types.specs.Findings.{finding_of}
use Rattle.tm_types.proofs.IndexFits.{index_fits-number, index_fits-other}
use Rattle.tm_types.proofs.mismatches.exprs.index_fits.Goals as goal

pub returns-then-is_number : goal.returns-then-is_number
returns-then-is_number c =
    index_fits-number (context_of c.args.at.now).body (expr_tree c.args.index.now) (finding_of c.args.found)
    (sym c.is_number.ensures ∙ c.if-is_number.true)

pub returns : goal.returns
returns c =
    c.other_index_fits.ensures
    ∙ index_fits-other (context_of c.args.at.now).body (expr_tree c.args.index.now) (finding_of c.args.found)
    (sym c.is_number.ensures ∙ c.if-is_number.false)
