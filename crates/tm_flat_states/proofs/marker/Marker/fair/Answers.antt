use Rattle.std.proofs.Common.{sym, ◌∙◌}
use Rattle.tm_syntax.specs.Design.View.{design_tree}
use Rattle.tm_sem.specs.Fairness.{fair_expr}
use Rattle.tm_flat_states.proofs.StatedTerms.{stated_so}
use Rattle.tm_flat_states.proofs.marker.Marker.fair.Goals as goal

pub stated-requires-clause-typed : goal.stated-requires-clause-typed
stated-requires-clause-typed c = λ e is.
    c.requires.markable.conditions.fairs c.args.fair.now e (sym c.fair_expr-e.ensures ∙ is)

pub returns : goal.returns
returns c =
    stated_so c.args.terms.now c.stated.new.terms c.in_ok-id.id (design_tree c.args.self.now.design.now)
    c.args.fair.now.instance _ (fair_expr (design_tree c.args.self.now.design.now) c.args.fair.now)
    c.fair_expr-e.ensures
    c.in_ok-id.ensures
