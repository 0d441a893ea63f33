use Rattle.std.proofs.Common.{◌∷◌, subst}
use Rattle.tm_syntax.specs.Tree as trees
use Rattle.tm_syntax.specs.Tree.{StmtTree, row_of}
use Rattle.tm_syntax.specs.Tree.View.{expr_tree, stmt_trees}
use Rattle.tm_plain_exprs.specs.Valued.{Holds}
use Rattle.tm_plain_bodies.specs.Inner.Owed.{level_of, one, owed, row}
use Rattle.tm_plain_bodies.specs.Runs.{behind}
use Rattle.tm_plain_bodies.proofs.Behind.{halts_behind}
use Rattle.tm_plain_bodies.proofs.Performing.{branch_halts, branch_test}
use Rattle.tm_plain_bodies.proofs.Stepping.{halts_there, handed, left_steps, takes_first, takes_second}
use Rattle.tm_plain_bodies.proofs.runner.Runner.take_branch.Goals as goal

pub condition-requires : goal.condition-requires
condition-requires c =
    branch_test c.args.frame.now.reader (expr_tree c.args.e.now) (row_of (stmt_trees c.args.first.now))
    (row_of (stmt_trees c.args.second.now)) c.requires.promised

pub returns-in_err-holds : goal.returns-in_err-holds
returns-in_err-holds c =
    let d = c.args.self.now in
    let f = c.args.frame.now in
    let ts = owed c.args.todo.now.items in
    let from = c.args.course.now in
    let to = c.condition.new.course in
    let e = expr_tree c.args.e.now in
    let a = row_of (stmt_trees c.args.first.now) in
    let b = row_of (stmt_trees c.args.second.now) in
    let s : StmtTree = trees.branch e a b in
    handed d (one (level_of f) s ∷ ts) ts from to c.from_residual.result _ c.from_residual.ensures.1
    (halts_there d f c.requires.tables s ts from to _
    (λ calls. branch_halts f.reader (behind calls from) e (behind calls to) a b _
    (halts_behind calls from f.reader e _ c.in_err-holds.ensures.halts)))

pub returns-then-holds : goal.returns-then-holds
returns-then-holds c =
    let d = c.args.self.now in
    let f = c.args.frame.now in
    let ts = owed c.args.todo.now.items in
    let from = c.args.course.now in
    let to = c.condition.new.course in
    let e = expr_tree c.args.e.now in
    let a = stmt_trees c.args.first.now in
    let b = row_of (stmt_trees c.args.second.now) in
    left_steps d (one (level_of f) (trees.branch e (row_of a) b) ∷ ts) _ (row (level_of f) a ∷ ts) from to
    c.take_row.result c.take_row.ensures.left c.take_row.ensures.memory
    (takes_first d f c.requires.tables e ts from to c.condition.ensures.same a b c.requires
    (subst (Holds f.reader from.store e) c.if-holds.true c.in_ok-holds.ensures.holds))

pub returns-else-holds : goal.returns-else-holds
returns-else-holds c =
    let d = c.args.self.now in
    let f = c.args.frame.now in
    let ts = owed c.args.todo.now.items in
    let from = c.args.course.now in
    let to = c.condition.new.course in
    let e = expr_tree c.args.e.now in
    let a = row_of (stmt_trees c.args.first.now) in
    let b = stmt_trees c.args.second.now in
    left_steps d (one (level_of f) (trees.branch e a (row_of b)) ∷ ts) _ (row (level_of f) b ∷ ts) from to
    c.take_row-else-holds.result c.take_row-else-holds.ensures.left c.take_row-else-holds.ensures.memory
    (takes_second d f c.requires.tables e ts from to c.condition.ensures.same a b c.requires
    (subst (Holds f.reader from.store e) c.if-holds.false c.in_ok-holds.ensures.holds))
