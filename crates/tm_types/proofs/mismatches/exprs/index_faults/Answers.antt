use Rattle.std.proofs.Common.{ap, ◌∙◌}
use Rattle.tm_syntax.specs.Tree.View.{expr_tree}
use Rattle.tm_syntax.specs.Faults.Operands as text
use Rattle.tm_scope.specs.Context.{context_of}
use Rattle.tm_types.specs.Firsts.{first_of}
use Rattle.tm_types.proofs.mismatches.exprs.index_faults.Goals as goal

pub returns : goal.returns
returns c = λ xs tx x.
    let fits = c.index_fits.ensures
    ∙ ap (text.index_fits (context_of c.args.at.now).body (expr_tree c.args.index.now)) x.found in
    c.judged.ensures xs x.first ∙ (λ i. first_of (text.judged xs (fits i) (c.expr_place.ensures i)))
