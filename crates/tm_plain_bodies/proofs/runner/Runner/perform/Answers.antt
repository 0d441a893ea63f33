use Rattle.std.proofs.Common.{◌∷◌, sym, ap, ◌∙◌, subst}
use Rattle.tm_syntax.specs.Tree.View.{expr_tree, stmt_tree, stmt_trees}
use Rattle.tm_syntax.specs.Scopes.Crossing.{stmt_crosses}
use Rattle.tm_syntax.proofs.Views.{view-Assert, view-Assume, view-Pause, view-Wait, view-Magic}
use Rattle.tm_plain_bodies.specs.Frames.{StmtFits}
use Rattle.tm_plain_bodies.specs.Inner.Owed.{again, level_of, one, owed, row}
use Rattle.tm_plain_bodies.specs.Inner.Steps.{Stepped}
use Rattle.tm_plain_bodies.specs.Runs.{StmtAt, behind, crossing}
use Rattle.tm_plain_bodies.proofs.Arms.{as_does, as_halts, as_steps}
use Rattle.tm_plain_bodies.proofs.Performing.{assert_test, assume_test, magic_stops, pause_stops, wait_stops}
use Rattle.tm_plain_bodies.proofs.Shapes.{assign_shape, branch_shape, call_shape, choose_shape, forever_shape, repeat_shape}
use Rattle.tm_plain_bodies.proofs.Stepping.{does_at_once, halts_there, left_steps, takes_forever}
use Rattle.tm_plain_bodies.proofs.runner.Runner.perform.Goals as goal

-- ---- assignments
pub assign-requires : goal.assign-requires
assign-requires c =
    subst (StmtFits c.args.self.now c.args.frame.now) (assign_shape c.in-Assign.is c.as_slice.ensures.value) c.requires

pub returns-in-Assign : goal.returns-in-Assign
returns-in-Assign c =
    as_steps c.args.self.now (level_of c.args.frame.now) (owed c.args.todo.now.items) _ c.args.course.now
    c.assign.new.course _ _ (assign_shape c.in-Assign.is c.as_slice.ensures.value) c.assign.result c.assign.ensures

-- ---- calls
pub call-requires : goal.call-requires
call-requires c =
    subst (StmtFits c.args.self.now c.args.frame.now)
    (call_shape c.in-Call.is c.as_slice-in-Call.ensures.value c.as_slice-in-Call-2.ensures.value) c.requires

pub returns-in-Call : goal.returns-in-Call
returns-in-Call c =
    as_steps c.args.self.now (level_of c.args.frame.now) (owed c.args.todo.now.items) _ c.args.course.now
    c.call.new.course _ _
    (call_shape c.in-Call.is c.as_slice-in-Call.ensures.value c.as_slice-in-Call-2.ensures.value) c.call.result
    c.call.ensures

-- ---- branches
pub take_branch-requires : goal.take_branch-requires
take_branch-requires c =
    subst (StmtFits c.args.self.now c.args.frame.now)
    (branch_shape c.in-If.first c.in-If.second c.in-If.is c.as_slice-in-If.ensures.value
    c.as_slice-in-If-2.ensures.value) c.requires

pub returns-in-If : goal.returns-in-If
returns-in-If c =
    as_steps c.args.self.now (level_of c.args.frame.now) (owed c.args.todo.now.items) _ c.args.course.now
    c.take_branch.new.course _ _
    (branch_shape c.in-If.first c.in-If.second c.in-If.is c.as_slice-in-If.ensures.value
    c.as_slice-in-If-2.ensures.value) c.take_branch.result c.take_branch.ensures

-- ---- loops
pub repeat-requires-clause-is : goal.repeat-requires-clause-is
repeat-requires-clause-is c =
    (c.in-While.field-0, repeat_shape c.in-While.body c.in-While.is c.as_slice-in-While.ensures.value)

pub returns-in-Forever : goal.returns-in-Forever
returns-in-Forever c =
    let d = c.args.self.now in
    let f = c.args.frame.now in
    let ts = owed c.args.todo.now.items in
    let a = stmt_trees c.as_slice-in-Forever.result.now in
    let is = forever_shape c.in-Forever.body c.in-Forever.is c.as_slice-in-Forever.ensures.value in
    left_steps d (one (level_of f) (stmt_tree c.args.stmt.now) ∷ ts) _
    (row (level_of f) a ∷ again (level_of f) (stmt_tree c.args.stmt.now) ∷ ts) c.args.course.now c.args.course.now
    c.take_loop.result c.take_loop.ensures.left c.take_loop.ensures.memory
    (subst (λ s. Stepped d (one (level_of f) s ∷ ts) (row (level_of f) a ∷ again (level_of f) s ∷ ts)
    c.args.course.now c.args.course.now) (sym is)
    (takes_forever d f c.requires.tables c.in-Forever.field-0 a ts c.args.course.now
    (subst (StmtFits d f) is c.requires)))

-- ---- alternatives
pub choose-requires : goal.choose-requires
choose-requires c = (
  c.in-Choice.field-0,
  subst (StmtFits c.args.self.now c.args.frame.now)
      (choose_shape c.in-Choice.alternatives c.in-Choice.is c.as_slice-in-Choice.ensures.value) c.requires,
)

pub returns-in-Choice : goal.returns-in-Choice
returns-in-Choice c =
    as_steps c.args.self.now (level_of c.args.frame.now) (owed c.args.todo.now.items) _ c.args.course.now
    c.choose.new.course _ _
    (choose_shape c.in-Choice.alternatives c.in-Choice.is c.as_slice-in-Choice.ensures.value) c.choose.result
    (c.choose.ensures c.in-Choice.field-0)

-- ---- assertions and assumptions
pub assert-requires : goal.assert-requires
assert-requires c =
    let is = ap stmt_tree c.in-Assert.is ∙ view-Assert c.in-Assert.field-0 c.in-Assert.e in
    assert_test c.args.frame.now.reader c.in-Assert.field-0 (expr_tree c.in-Assert.e)
    (subst (StmtAt c.args.frame.now.reader) is c.requires.promised)

pub returns-in-Assert : goal.returns-in-Assert
returns-in-Assert c =
    let s = c.args.frame.now.reader in
    let is = ap stmt_tree c.in-Assert.is ∙ view-Assert c.in-Assert.field-0 c.in-Assert.e in
    does_at_once c.args.self.now c.args.frame.now c.requires.tables (stmt_tree c.args.stmt.now)
    (owed c.args.todo.now.items) c.args.course.now c.assert.new.course c.assert.result
    (as_does s c.args.course.now c.assert.new.course _ _ is c.assert.result (c.assert.ensures c.in-Assert.field-0))
    (λ k stands. ap (stmt_crosses (crossing k)) is)

pub assume-requires : goal.assume-requires
assume-requires c =
    let is = ap stmt_tree c.in-Assume.is ∙ view-Assume c.in-Assume.field-0 c.in-Assume.e in
    assume_test c.args.frame.now.reader c.in-Assume.field-0 (expr_tree c.in-Assume.e)
    (subst (StmtAt c.args.frame.now.reader) is c.requires.promised)

pub returns-in-Assume : goal.returns-in-Assume
returns-in-Assume c =
    let s = c.args.frame.now.reader in
    let is = ap stmt_tree c.in-Assume.is ∙ view-Assume c.in-Assume.field-0 c.in-Assume.e in
    does_at_once c.args.self.now c.args.frame.now c.requires.tables (stmt_tree c.args.stmt.now)
    (owed c.args.todo.now.items) c.args.course.now c.assume.new.course c.assume.result
    (as_does s c.args.course.now c.assume.new.course _ _ is c.assume.result (c.assume.ensures c.in-Assume.field-0))
    (λ k stands. ap (stmt_crosses (crossing k)) is)

-- ---- locations
pub returns-in-Pause : goal.returns-in-Pause
returns-in-Pause c =
    let s = c.args.frame.now.reader in
    let from = c.args.course.now in
    let is = ap stmt_tree c.in-Pause.is ∙ view-Pause c.in-Pause.at in
    halts_there c.args.self.now c.args.frame.now c.requires.tables (stmt_tree c.args.stmt.now)
    (owed c.args.todo.now.items) from from c.at_end.result
    (as_halts s from from _ _ is c.at_end.result
    (λ calls. pause_stops s (behind calls from) c.in-Pause.at c.at_end.result c.at_end.ensures))

pub returns-in-Wait : goal.returns-in-Wait
returns-in-Wait c =
    let s = c.args.frame.now.reader in
    let from = c.args.course.now in
    let is = ap stmt_tree c.in-Wait.is ∙ view-Wait c.in-Wait.at c.in-Wait.field-1 in
    halts_there c.args.self.now c.args.frame.now c.requires.tables (stmt_tree c.args.stmt.now)
    (owed c.args.todo.now.items) from from c.at_end-in-Wait.result
    (as_halts s from from _ _ is c.at_end-in-Wait.result
    (λ calls. wait_stops s (behind calls from) c.in-Wait.at c.at_end-in-Wait.result c.at_end-in-Wait.ensures
    (expr_tree c.in-Wait.field-1)))

pub returns-in-Magic : goal.returns-in-Magic
returns-in-Magic c =
    let s = c.args.frame.now.reader in
    let from = c.args.course.now in
    let is = ap stmt_tree c.in-Magic.is ∙ view-Magic c.in-Magic.at in
    halts_there c.args.self.now c.args.frame.now c.requires.tables (stmt_tree c.args.stmt.now)
    (owed c.args.todo.now.items) from from c.at_end-in-Magic.result
    (as_halts s from from _ _ is c.at_end-in-Magic.result
    (λ calls. magic_stops s (behind calls from) c.in-Magic.at c.at_end-in-Magic.result c.at_end-in-Magic.ensures))
