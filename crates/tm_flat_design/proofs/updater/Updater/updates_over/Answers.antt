use Rattle.std.proofs.Common.{IfOk, sym, subst}
use Rattle.tm_syntax.specs.Design.View.{design_tree}
use Rattle.tm_term.specs.Table.{Table}
use Rattle.tm_flat_states.specs.Marks.{MakesSuch}
use Rattle.tm_flat_design.specs.Making.{AreOver, IsWhole}
use Rattle.tm_flat_design.proofs.updater.Updater.updates_over.Goals as goal

pub updates-flat-requires-clause-terms : goal.updates-flat-requires-clause-terms
updates-flat-requires-clause-terms c =
    subst (AreOver c.args.self.now.design.now) (sym c.swap.ensures.y_after) c.requires.terms

pub returns : goal.returns
returns c =
    let d = design_tree c.args.self.now.design.now in
    subst (λ (n : Table). IfOk c.updates-flat.result (MakesSuch c.args.terms.now n (IsWhole d)))
    (sym c.swap-2.ensures.x_after)
    (subst (λ (t : Table). IfOk c.updates-flat.result (MakesSuch t c.updates-flat.new.course.terms (IsWhole d)))
    c.swap.ensures.y_after c.updates-flat.ensures)
