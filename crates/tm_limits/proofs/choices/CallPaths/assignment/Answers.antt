use Rattle.std.proofs.Common.{refl, sym, subst}
use Rattle.tm_syntax.specs.declared.tree.Value.{Value}
use Rattle.tm_syntax.specs.Tree.{assign}
use Rattle.tm_syntax.specs.Tree.View.{value_tree}
use Rattle.tm_syntax.specs.Counts.Choices.{stmt_paths}
use Rattle.tm_scope.specs.Context.{context_of}
use Rattle.tm_limits.specs.Inner.PathSums.{AreBest}
use Rattle.tm_limits.proofs.choices.CallPaths.assignment.Goals as goal

pub returns-in-Plain : goal.returns-in-Plain
returns-in-Plain c = λ within index known.
    subst (λ (v : Value). AreBest c.choosing-in-Plain.result (stmt_paths within (context_of c.args.self.now.place)
    (assign c.args.target.now index (value_tree v)))) (sym c.in-Plain.is) (c.choosing-in-Plain.ensures 0 refl)
