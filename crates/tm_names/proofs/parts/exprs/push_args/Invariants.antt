use Rattle.std.proofs.Common.{◌≡◌, ◌++◌, drop}
use Rattle.tm_syntax.specs.Tree.View.{expr_trees}
use Rattle.tm_syntax.specs.Scopes.Parts.{asked_args}
use Rattle.tm_names.specs.Asked.{all_asked}
use Rattle.tm_names.proofs.parts.exprs.push_args.Given as goal

abbrev pub invariant-loop-index : goal.invariant-loop-index
invariant-loop-index l =
    all_asked l.asked.items ++ asked_args (drop l.index l.params) (expr_trees (drop l.index l.args))
    ≡ all_asked l.initial.asked.items ++ asked_args l.params (expr_trees l.args)
