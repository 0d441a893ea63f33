use Rattle.std.proofs.Common.{◌≡◌, sym, ap, ◌∙◌, subst}
use Rattle.std.specs.Prelude.{IfOk}
use Rattle.std.specs.Option.{option_map}
use Rattle.tm_syntax.specs.Tree as trees
use Rattle.tm_syntax.specs.Tree.{alternatives_of, row_of}
use Rattle.tm_syntax.specs.Tree.View.{expr_tree, expr_trees, stmt_tree, stmt_trees, value_tree}
use Rattle.tm_syntax.proofs.Views.{view-Assign, view-Call, view-If, view-While, view-Forever, view-Choice, view-Assert, view-Assume, view-Pause, view-Wait, view-Magic}
use Rattle.tm_flat_bodies.specs.Inner.Alternatives.{block_rows}
use Rattle.tm_flat_bodies.specs.Inner.Places.{stack}
use Rattle.tm_flat_bodies.specs.Inner.Waiting.{StepsTo, StmtGoal}
use Rattle.tm_flat_bodies.specs.Inner.Weights.{stmt_most}
use Rattle.tm_flat_bodies.specs.Tables.{known_by}
use Rattle.tm_flat_bodies.specs.Walks.{StmtWalks}
use Rattle.tm_flat_bodies.proofs.Stepping.{led_at_once}
use Rattle.tm_flat_bodies.proofs.walker.Walker.walk.Goals as goal

pub assign-requires : goal.assign-requires
assign-requires c =
    let w = known_by c.args.self.now in
    let f = c.args.stand.now in
    let is : stmt_tree c.args.stmt.now ≡ trees.assign c.as_slice.result.now (option_map expr_tree c.in-Assign.index)
    (value_tree c.in-Assign.value) =
    ap stmt_tree c.in-Assign.is ∙ view-Assign c.in-Assign.path c.in-Assign.index c.in-Assign.value
    ∙ (λ i. trees.assign (sym c.as_slice.ensures.value i) (option_map expr_tree c.in-Assign.index)
    (value_tree c.in-Assign.value)) in
    subst (λ s. StmtWalks w f s c.args.course.now c.args.flow) is c.requires

pub returns-in-Assign : goal.returns-in-Assign
returns-in-Assign c = λ start at.
    let w = known_by c.args.self.now in
    let f = c.args.stand.now in
    let is : stmt_tree c.args.stmt.now ≡ trees.assign c.as_slice.result.now (option_map expr_tree c.in-Assign.index)
    (value_tree c.in-Assign.value) =
    ap stmt_tree c.in-Assign.is ∙ view-Assign c.in-Assign.path c.in-Assign.index c.in-Assign.value
    ∙ (λ i. trees.assign (sym c.as_slice.ensures.value i) (option_map expr_tree c.in-Assign.index)
    (value_tree c.in-Assign.value)) in
    subst (λ s. IfOk c.assign.result (StepsTo w start (StmtGoal w f s c.args.course.now c.args.flow)
    (λ d. stmt_most d f s) (stack c.args.waiting.now) (stack c.assign.new.waiting) c.assign.new.course)) (sym is)
    (c.assign.ensures start at)

pub call-requires : goal.call-requires
call-requires c =
    let w = known_by c.args.self.now in
    let f = c.args.stand.now in
    let is : stmt_tree c.args.stmt.now ≡ trees.invoke c.as_slice-in-Call.result.now
    (expr_trees c.as_slice-in-Call-2.result.now) =
    ap stmt_tree c.in-Call.is ∙ view-Call c.in-Call.path c.in-Call.args
    ∙ (λ i. trees.invoke (sym c.as_slice-in-Call.ensures.value i)
    (expr_trees (sym c.as_slice-in-Call-2.ensures.value i))) in
    subst (λ s. StmtWalks w f s c.args.course.now c.args.flow) is c.requires

pub returns-in-Call : goal.returns-in-Call
returns-in-Call c = λ start at.
    let w = known_by c.args.self.now in
    let f = c.args.stand.now in
    let is : stmt_tree c.args.stmt.now ≡ trees.invoke c.as_slice-in-Call.result.now
    (expr_trees c.as_slice-in-Call-2.result.now) =
    ap stmt_tree c.in-Call.is ∙ view-Call c.in-Call.path c.in-Call.args
    ∙ (λ i. trees.invoke (sym c.as_slice-in-Call.ensures.value i)
    (expr_trees (sym c.as_slice-in-Call-2.ensures.value i))) in
    subst (λ s. IfOk c.call.result (StepsTo w start (StmtGoal w f s c.args.course.now c.args.flow)
    (λ d. stmt_most d f s) (stack c.args.waiting.now) (stack c.call.new.waiting) c.call.new.course)) (sym is)
    (c.call.ensures start)

pub branch-self-requires : goal.branch-self-requires
branch-self-requires c =
    let w = known_by c.args.self.now in
    let f = c.args.stand.now in
    let is : stmt_tree c.args.stmt.now ≡ trees.branch (expr_tree c.in-If.e)
    (row_of (stmt_trees c.as_slice-in-If.result.now))
    (row_of (stmt_trees c.as_slice-in-If-2.result.now)) =
    ap stmt_tree c.in-If.is ∙ view-If c.in-If.e c.in-If.first c.in-If.second
    ∙ (λ i. trees.branch (expr_tree c.in-If.e) (row_of (stmt_trees (sym c.as_slice-in-If.ensures.value i)))
    (row_of (stmt_trees (sym c.as_slice-in-If-2.ensures.value i)))) in
    subst (λ s. StmtWalks w f s c.args.course.now c.args.flow) is c.requires

pub returns-in-If : goal.returns-in-If
returns-in-If c = λ start at.
    let w = known_by c.args.self.now in
    let f = c.args.stand.now in
    let is : stmt_tree c.args.stmt.now ≡ trees.branch (expr_tree c.in-If.e)
    (row_of (stmt_trees c.as_slice-in-If.result.now))
    (row_of (stmt_trees c.as_slice-in-If-2.result.now)) =
    ap stmt_tree c.in-If.is ∙ view-If c.in-If.e c.in-If.first c.in-If.second
    ∙ (λ i. trees.branch (expr_tree c.in-If.e) (row_of (stmt_trees (sym c.as_slice-in-If.ensures.value i)))
    (row_of (stmt_trees (sym c.as_slice-in-If-2.ensures.value i)))) in
    subst (λ s. IfOk c.branch-self.result (StepsTo w start (StmtGoal w f s c.args.course.now c.args.flow)
    (λ d. stmt_most d f s) (stack c.args.waiting.now) (stack c.branch-self.new.waiting) c.branch-self.new.course))
    (sym is)
    (c.branch-self.ensures start at)

pub repeat-requires : goal.repeat-requires
repeat-requires c =
    let w = known_by c.args.self.now in
    let f = c.args.stand.now in
    let is : stmt_tree c.args.stmt.now ≡ trees.repeat c.in-While.field-0 (expr_tree c.in-While.e)
    (row_of (stmt_trees c.as_slice-in-While.result.now)) =
    ap stmt_tree c.in-While.is ∙ view-While c.in-While.field-0 c.in-While.e c.in-While.body
    ∙ (λ i. trees.repeat c.in-While.field-0 (expr_tree c.in-While.e)
    (row_of (stmt_trees (sym c.as_slice-in-While.ensures.value i)))) in
    (c.in-While.field-0, subst (λ s. StmtWalks w f s c.args.course.now c.args.flow) is c.requires)

pub returns-in-While : goal.returns-in-While
returns-in-While c = λ start at.
    let w = known_by c.args.self.now in
    let f = c.args.stand.now in
    let is : stmt_tree c.args.stmt.now ≡ trees.repeat c.in-While.field-0 (expr_tree c.in-While.e)
    (row_of (stmt_trees c.as_slice-in-While.result.now)) =
    ap stmt_tree c.in-While.is ∙ view-While c.in-While.field-0 c.in-While.e c.in-While.body
    ∙ (λ i. trees.repeat c.in-While.field-0 (expr_tree c.in-While.e)
    (row_of (stmt_trees (sym c.as_slice-in-While.ensures.value i)))) in
    subst (λ s. IfOk c.repeat.result (StepsTo w start (StmtGoal w f s c.args.course.now c.args.flow)
    (λ d. stmt_most d f s) (stack c.args.waiting.now) (stack c.repeat.new.waiting) c.repeat.new.course)) (sym is)
    (c.repeat.ensures start at c.in-While.field-0)

pub returns-in-Forever : goal.returns-in-Forever
returns-in-Forever c = λ start at.
    let w = known_by c.args.self.now in
    let f = c.args.stand.now in
    let is : stmt_tree c.args.stmt.now ≡ trees.forever c.in-Forever.field-0
    (row_of (stmt_trees c.as_slice-in-Forever.result.now)) =
    ap stmt_tree c.in-Forever.is ∙ view-Forever c.in-Forever.field-0 c.in-Forever.body
    ∙ (λ i. trees.forever c.in-Forever.field-0 (row_of (stmt_trees (sym c.as_slice-in-Forever.ensures.value i)))) in
    subst (λ s. IfOk c.run_forever.result (StepsTo w start (StmtGoal w f s c.args.course.now c.args.flow)
    (λ d. stmt_most d f s) (stack c.args.waiting.now) (stack c.run_forever.new.waiting) c.args.course.now)) (sym is)
    (c.run_forever.ensures start f c.in-Forever.field-0 at
    (subst (λ s. StmtWalks w f s c.args.course.now c.args.flow) is c.requires))

pub choose-requires : goal.choose-requires
choose-requires c =
    let w = known_by c.args.self.now in
    let f = c.args.stand.now in
    let is : stmt_tree c.args.stmt.now ≡ trees.choose c.in-Choice.field-0
    (alternatives_of (block_rows c.as_slice-in-Choice.result.now)) =
    ap stmt_tree c.in-Choice.is ∙ view-Choice c.in-Choice.field-0 c.in-Choice.blocks
    ∙ (λ i. trees.choose c.in-Choice.field-0
    (alternatives_of (block_rows (sym c.as_slice-in-Choice.ensures.value i)))) in
    (f, c.in-Choice.field-0, subst (λ s. StmtWalks w f s c.args.course.now c.args.flow) is c.requires)

pub returns-in-Choice : goal.returns-in-Choice
returns-in-Choice c = λ start at.
    let w = known_by c.args.self.now in
    let f = c.args.stand.now in
    let is : stmt_tree c.args.stmt.now ≡ trees.choose c.in-Choice.field-0
    (alternatives_of (block_rows c.as_slice-in-Choice.result.now)) =
    ap stmt_tree c.in-Choice.is ∙ view-Choice c.in-Choice.field-0 c.in-Choice.blocks
    ∙ (λ i. trees.choose c.in-Choice.field-0
    (alternatives_of (block_rows (sym c.as_slice-in-Choice.ensures.value i)))) in
    subst (λ s. IfOk c.choose.result (StepsTo w start (StmtGoal w f s c.args.course.now c.args.flow)
    (λ d. stmt_most d f s) (stack c.args.waiting.now) (stack c.choose.new.waiting) c.choose.new.course)) (sym is)
    (c.choose.ensures start f c.in-Choice.field-0 at (subst (λ s. StmtWalks w f s c.args.course.now c.args.flow) is
    c.requires))

pub assert-requires : goal.assert-requires
assert-requires c =
    let w = known_by c.args.self.now in
    let f = c.args.stand.now in
    let is : stmt_tree c.args.stmt.now ≡ trees.assert c.in-Assert.field-0 (expr_tree c.in-Assert.e) =
    ap stmt_tree c.in-Assert.is ∙ view-Assert c.in-Assert.field-0 c.in-Assert.e in
    (c.in-Assert.field-0, subst (λ s. StmtWalks w f s c.args.course.now c.args.flow) is c.requires)

pub returns-in-Assert : goal.returns-in-Assert
returns-in-Assert c = λ start at.
    let w = known_by c.args.self.now in
    let f = c.args.stand.now in
    let is : stmt_tree c.args.stmt.now ≡ trees.assert c.in-Assert.field-0 (expr_tree c.in-Assert.e) =
    ap stmt_tree c.in-Assert.is ∙ view-Assert c.in-Assert.field-0 c.in-Assert.e in
    subst (λ s. IfOk c.assert.result (StepsTo w start (StmtGoal w f s c.args.course.now c.args.flow)
    (λ d. stmt_most d f s) (stack c.args.waiting.now) (stack c.args.waiting.now) c.assert.new.course)) (sym is)
    (led_at_once w start f (trees.assert c.in-Assert.field-0 (expr_tree c.in-Assert.e)) c.args.course.now _
    c.args.flow (stack c.args.waiting.now) c.assert.result
    (c.assert.ensures c.in-Assert.field-0))

pub assume-requires : goal.assume-requires
assume-requires c =
    let w = known_by c.args.self.now in
    let f = c.args.stand.now in
    let is : stmt_tree c.args.stmt.now ≡ trees.assume c.in-Assume.field-0 (expr_tree c.in-Assume.e) =
    ap stmt_tree c.in-Assume.is ∙ view-Assume c.in-Assume.field-0 c.in-Assume.e in
    (c.in-Assume.field-0, subst (λ s. StmtWalks w f s c.args.course.now c.args.flow) is c.requires)

pub returns-in-Assume : goal.returns-in-Assume
returns-in-Assume c = λ start at.
    let w = known_by c.args.self.now in
    let f = c.args.stand.now in
    let is : stmt_tree c.args.stmt.now ≡ trees.assume c.in-Assume.field-0 (expr_tree c.in-Assume.e) =
    ap stmt_tree c.in-Assume.is ∙ view-Assume c.in-Assume.field-0 c.in-Assume.e in
    subst (λ s. IfOk c.assume.result (StepsTo w start (StmtGoal w f s c.args.course.now c.args.flow)
    (λ d. stmt_most d f s) (stack c.args.waiting.now) (stack c.args.waiting.now) c.assume.new.course)) (sym is)
    (led_at_once w start f (trees.assume c.in-Assume.field-0 (expr_tree c.in-Assume.e)) c.args.course.now _
    c.args.flow (stack c.args.waiting.now) c.assume.result
    (c.assume.ensures c.in-Assume.field-0))

pub returns-in-Pause : goal.returns-in-Pause
returns-in-Pause c = λ start at.
    let w = known_by c.args.self.now in
    let f = c.args.stand.now in
    let is : stmt_tree c.args.stmt.now ≡ trees.pause c.in-Pause.at =
    ap stmt_tree c.in-Pause.is ∙ view-Pause c.in-Pause.at in
    subst (λ s. IfOk c.stop.result (StepsTo w start (StmtGoal w f s c.args.course.now c.args.flow)
    (λ d. stmt_most d f s) (stack c.args.waiting.now) (stack c.args.waiting.now) c.stop.new.course)) (sym is)
    (led_at_once w start f (trees.pause c.in-Pause.at) c.args.course.now _ c.args.flow (stack c.args.waiting.now)
    c.stop.result
    c.stop.ensures)

pub returns-in-Wait : goal.returns-in-Wait
returns-in-Wait c = λ start at.
    let w = known_by c.args.self.now in
    let f = c.args.stand.now in
    let is : stmt_tree c.args.stmt.now ≡ trees.wait c.in-Wait.at (expr_tree c.in-Wait.field-1) =
    ap stmt_tree c.in-Wait.is ∙ view-Wait c.in-Wait.at c.in-Wait.field-1 in
    subst (λ s. IfOk c.stop-in-Wait.result (StepsTo w start (StmtGoal w f s c.args.course.now c.args.flow)
    (λ d. stmt_most d f s) (stack c.args.waiting.now) (stack c.args.waiting.now) c.stop-in-Wait.new.course)) (sym is)
    (led_at_once w start f (trees.wait c.in-Wait.at (expr_tree c.in-Wait.field-1)) c.args.course.now _ c.args.flow
    (stack c.args.waiting.now) c.stop-in-Wait.result
    c.stop-in-Wait.ensures)

pub returns-in-Magic : goal.returns-in-Magic
returns-in-Magic c = λ start at.
    let w = known_by c.args.self.now in
    let f = c.args.stand.now in
    let is : stmt_tree c.args.stmt.now ≡ trees.magic c.in-Magic.at =
    ap stmt_tree c.in-Magic.is ∙ view-Magic c.in-Magic.at in
    subst (λ s. IfOk c.stop-in-Magic.result (StepsTo w start (StmtGoal w f s c.args.course.now c.args.flow)
    (λ d. stmt_most d f s) (stack c.args.waiting.now) (stack c.args.waiting.now) c.stop-in-Magic.new.course)) (sym is)
    (led_at_once w start f (trees.magic c.in-Magic.at) c.args.course.now _ c.args.flow (stack c.args.waiting.now)
    c.stop-in-Magic.result
    c.stop-in-Magic.ensures)
