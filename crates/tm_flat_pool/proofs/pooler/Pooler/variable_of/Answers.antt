use Rattle.tm_syntax.specs.Tree.View.{expr_tree}
use Rattle.tm_flat_pool.proofs.TruthTerms.{scope_there}
use Rattle.tm_flat_pool.proofs.pooler.Pooler.variable_of.Goals as goal

pub returns : goal.returns
returns c =
    let m = c.args.self.now in
    c.variable_by.ensures m.design.now c.args.at
    (scope_there m.design.now m.cells.now m.same_cells c.args.at c.scope-found.result c.scope-found.ensures
    (expr_tree c.args.e.now) c.requires.typed)
