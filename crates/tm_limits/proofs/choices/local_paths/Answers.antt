use Rattle.std.proofs.Common.{List, None, subst}
use Rattle.tm_syntax.specs.declared.tree.Ident.{Ident}
use Rattle.tm_syntax.specs.Tree.{assign}
use Rattle.tm_syntax.specs.Tree.View.{value_tree}
use Rattle.tm_syntax.specs.Counts.Choices.{stmt_paths}
use Rattle.tm_scope.specs.Context.{context_of}
use Rattle.tm_limits.specs.Inner.PathSums.{AreBest}
use Rattle.tm_limits.proofs.choices.local_paths.Goals as goal

pub returns : goal.returns
returns c = λ within known.
    subst (λ (ns : List Ident). AreBest c.assignment.result (stmt_paths within (context_of c.args.calls.now.place)
    (assign ns None (value_tree c.args.local.now.value)))) c.from_ref.ensures.value
    (c.assignment.ensures within None known)
