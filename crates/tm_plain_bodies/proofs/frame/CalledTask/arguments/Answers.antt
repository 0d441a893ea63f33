use Rattle.std.proofs.Common.{ap, ◌∙◌, map, refl, subst}
use Rattle.tm_syntax.specs.Tree.View.{expr_trees}
use Rattle.tm_scope.specs.Cells.{cell_at}
use Rattle.tm_plain_bodies.specs.Arguments.{AreValued}
use Rattle.tm_plain_exprs.specs.Kept.{Keeps, put_all}
use Rattle.tm_plain_bodies.proofs.Passed.{are_given}
use Rattle.tm_plain_bodies.proofs.frame.CalledTask.arguments.Goals as goal

pub returns-clause-given : goal.returns-clause-given
returns-clause-given c =
    let outer = c.args.outer.now in
    let inner = c.args.self.now.frame.reader in
    let args = expr_trees c.args.args.now in
    are_given outer inner args c.args.self.now.task.now c.args.course.now c.argument_values.new.course _
    c.in_ok-values.values.items c.in_ok-cells.cells.items c.requires.tables c.requires.task
    c.argument_values.ensures.same c.requires.args
    (subst (λ ps. AreValued outer c.args.course.now.store ps args c.in_ok-values.values.items)
    c.as_slice.ensures.value c.in_ok-values.ensures.values) c.in_ok-cells.ensures
    (λ m cs apart keeps are.
    subst (λ vs. Keeps inner.tables c.put_all.new.store (put_all m cs vs)) c.as_slice-3.ensures.value
    (c.in_ok-put_all.ensures m cs apart keeps
    (ap (map (cell_at inner.tables inner.at)) c.as_slice-2.ensures.value ∙ are))) refl refl
