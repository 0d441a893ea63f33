use Rattle.std.proofs.Common.{◌∷◌, refl, sym, subst}
use Rattle.tm_syntax.specs.Tree as trees
use Rattle.tm_syntax.specs.Tree.{StmtTree, row_of}
use Rattle.tm_syntax.specs.Tree.View.{expr_tree, stmt_tree, stmt_trees}
use Rattle.tm_plain_exprs.specs.Valued.{Holds}
use Rattle.tm_plain_bodies.specs.Frames.{StmtFits}
use Rattle.tm_plain_bodies.specs.Inner.Owed.{again, level_of, one, owed, row}
use Rattle.tm_plain_bodies.specs.Inner.Steps.{Stepped}
use Rattle.tm_plain_bodies.specs.Runs.{StmtAt, behind}
use Rattle.tm_plain_bodies.proofs.Arms.{as_halts}
use Rattle.tm_plain_bodies.proofs.Behind.{halts_behind, same_behind}
use Rattle.tm_plain_bodies.proofs.Performing.{loop_passes, loop_test_halts, repeat_test}
use Rattle.tm_plain_bodies.proofs.Stepping.{at_once, halts_there, handed, left_steps, takes_repeat}
use Rattle.tm_plain_bodies.proofs.runner.Runner.repeat.Goals as goal

pub condition-requires : goal.condition-requires
condition-requires c =
    repeat_test c.args.frame.now.reader c.requires.is.0 (expr_tree c.args.e.now) (row_of (stmt_trees c.args.body.now))
    (subst (StmtAt c.args.frame.now.reader) c.requires.is.1 c.requires.fits.promised)

pub returns-in_err-holds : goal.returns-in_err-holds
returns-in_err-holds c =
    let d = c.args.self.now in
    let f = c.args.frame.now in
    let ts = owed c.args.todo.now.items in
    let from = c.args.course.now in
    let to = c.condition.new.course in
    let e = expr_tree c.args.e.now in
    let s = stmt_tree c.args.stmt.now in
    handed d (one (level_of f) s ∷ ts) ts from to c.from_residual.result _ c.from_residual.ensures.1
    (halts_there d f c.requires.fits.tables s ts from to _
    (as_halts f.reader from to s _ c.requires.is.1 _
    (λ calls. loop_test_halts f.reader (behind calls from) e c.requires.is.0 (behind calls to)
    (row_of (stmt_trees c.args.body.now)) _ (halts_behind calls from f.reader e _ c.in_err-holds.ensures.halts))))

pub returns-then-holds : goal.returns-then-holds
returns-then-holds c =
    let d = c.args.self.now in
    let f = c.args.frame.now in
    let ts = owed c.args.todo.now.items in
    let from = c.args.course.now in
    let to = c.condition.new.course in
    let e = expr_tree c.args.e.now in
    let a = stmt_trees c.args.body.now in
    let s = stmt_tree c.args.stmt.now in
    left_steps d (one (level_of f) s ∷ ts) _ (row (level_of f) a ∷ again (level_of f) s ∷ ts) from to
    c.take_loop.result c.take_loop.ensures.left c.take_loop.ensures.memory
    (subst (λ s. Stepped d (one (level_of f) s ∷ ts) (row (level_of f) a ∷ again (level_of f) s ∷ ts) from to)
    (sym c.requires.is.1)
    (takes_repeat d f c.requires.fits.tables e ts from to c.condition.ensures.same c.requires.is.0 a
    (subst (StmtFits d f) c.requires.is.1 c.requires.fits)
    (subst (Holds f.reader from.store e) c.if-holds.true c.in_ok-holds.ensures.holds)))

pub returns-else-holds : goal.returns-else-holds
returns-else-holds c =
    let d = c.args.self.now in
    let f = c.args.frame.now in
    let ts = owed c.args.todo.now.items in
    let from = c.args.course.now in
    let to = c.condition.new.course in
    let e = expr_tree c.args.e.now in
    let a = row_of (stmt_trees c.args.body.now) in
    subst (λ s. Stepped d (one (level_of f) s ∷ ts) ts from to) (sym c.requires.is.1)
    (at_once d f c.requires.fits.tables (trees.repeat c.requires.is.0 e a) ts from to
    (λ calls. loop_passes f.reader (behind calls from) e c.requires.is.0 (behind calls to) a
    (same_behind calls from to c.condition.ensures.same)
    (subst (Holds f.reader from.store e) c.if-holds.false c.in_ok-holds.ensures.holds))
    (λ k stands. refl))
