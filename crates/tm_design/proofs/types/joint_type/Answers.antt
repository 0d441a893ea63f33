use Rattle.std.proofs.Common.{sym, ap, ◌∙◌}
use Rattle.std.specs.Option.{option_map}
use Rattle.tm_syntax.specs.Tree.View.{expr_tree}
use Rattle.tm_syntax.specs.Scopes.Types.{either_type, valued_in}
use Rattle.tm_syntax.specs.Design.Scope.{type_in}
use Rattle.tm_scope.specs.Cells.{scope_of}
use Rattle.tm_scope.specs.Types.{ty_of}
use Rattle.tm_design.proofs.types.joint_type.Goals as goal

pub returns-in-Some : goal.returns-in-Some
returns-in-Some c = λ d has.
    ap (λ o. valued_in (ty_of c.args.asked)
    (either_type o (type_in d (scope_of c.args.scope.now.at) (expr_tree c.args.b.now))))
    (ap (option_map ty_of) (sym c.in-Some.is) ∙ c.own_type.ensures d has)

pub returns-in-None : goal.returns-in-None
returns-in-None c = λ d has.
    c.valued_in.ensures
    ∙ ap (valued_in (ty_of c.args.asked)) (c.own_type-in-None.ensures d has)
    ∙ ap (λ o. valued_in (ty_of c.args.asked)
    (either_type o (type_in d (scope_of c.args.scope.now.at) (expr_tree c.args.b.now))))
    (ap (option_map ty_of) (sym c.in-None.is) ∙ c.own_type.ensures d has)
