use Rattle.tm_scope.specs.Types.{ty_of}
use Rattle.tm_syntax.specs.Tree.View.{expr_tree}
use Rattle.tm_design.proofs.Contexts.{index_told}
use Rattle.tm_plain_exprs.proofs.reader.Reader.index_type.Goals as goal

pub returns : goal.returns
returns c =
    index_told c.self.inside.scope c.args.self.now c.self.view_is (expr_tree c.args.index.now)
    (ty_of c.index_type.result) c.index_type.ensures
