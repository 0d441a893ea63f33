use Rattle.std.proofs.Common.{◌≡◌, None, Some, sym, ◌∙◌}
use Rattle.tm_syntax.specs.Tree.View.{expr_tree}
use Rattle.tm_flat_states.proofs.StatedTerms.{one_found}
use Rattle.tm_flat_pool.specs.Inner.Holding.{body_of}
use Rattle.tm_flat_pool.proofs.TruthTerms.{variable_here}
use Rattle.tm_flat_pool.proofs.marks.variable_by.Goals as goal

pub returns-in-Some : goal.returns-in-Some
returns-in-Some c =
    λ d at found.
    variable_here c.in-Some.scope d at (expr_tree c.args.e.now) c.variable.result
    (one_found c.args.found.now c.in-Some.scope (body_of d at) c.in-Some.is found) c.variable.ensures

pub returns-in-None : goal.returns-in-None
returns-in-None c = λ d at found. let both : None ≡ Some (body_of d at) = sym c.in-None.is ∙ found in cc
