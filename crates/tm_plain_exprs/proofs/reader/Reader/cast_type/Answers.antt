use Rattle.tm_scope.specs.Types.{ty_of}
use Rattle.tm_syntax.specs.Tree.View.{expr_tree}
use Rattle.tm_design.proofs.Contexts.{valued_told}
use Rattle.tm_plain_exprs.proofs.reader.Reader.cast_type.Goals as goal

pub returns : goal.returns
returns c =
    valued_told c.self.inside.scope c.args.self.now c.self.view_is (ty_of c.args.asked) (expr_tree c.args.e.now)
    (ty_of c.valued_type.result) c.valued_type.ensures
