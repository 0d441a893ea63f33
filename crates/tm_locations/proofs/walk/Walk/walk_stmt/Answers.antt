use Rattle.std.proofs.Common.{◌∙◌, ap, true, false}
use Rattle.std.proofs.lemmas.Result.{on_ok_weaker}
use Rattle.tm_syntax.specs.Tree.{magic, pause}
use Rattle.tm_syntax.specs.Tree.View.{expr_tree, stmt_tree}
use Rattle.tm_syntax.proofs.Views.{view-Choice, view-Forever, view-If, view-Magic, view-Pause, view-While}
use Rattle.tm_locations.specs.Inner.Walks.{tables_of}
use Rattle.tm_locations.proofs.WalkParts.{lighter-branch, lighter-choose, settles-branch, settles-choose, settles-forever, settles-repeat, settles-stmt}
use Rattle.tm_locations.proofs.WalkSteps.{settles-note}
use Rattle.tm_locations.proofs.walk.Walk.walk_stmt.Goals as goal

pub returns-in-If-clause-settles : goal.returns-in-If-clause-settles
returns-in-If-clause-settles c =
    on_ok_weaker c.walk_branches.result (λ h d over by_text.
    settles-branch d c.args.frame (tables_of c.args.self.now) (tables_of c.walk_branches.new.self) c.args.after
    (stmt_tree c.args.stmt.now) (expr_tree c.in-If.field-0) c.in-If.first c.in-If.second c.as_slice-in-If.result
    c.as_slice-in-If-2.result
    (ap stmt_tree c.in-If.is ∙ view-If c.in-If.field-0 c.in-If.first c.in-If.second)
    c.as_slice-in-If.ensures.value c.as_slice-in-If-2.ensures.value (h d)) c.walk_branches.ensures.settles

pub returns-in-If-clause-lighter : goal.returns-in-If-clause-lighter
returns-in-If-clause-lighter c =
    on_ok_weaker c.walk_branches.result (λ h d over.
    lighter-branch d c.args.frame (tables_of c.args.self.now) (tables_of c.walk_branches.new.self) c.args.after
    (stmt_tree c.args.stmt.now) (expr_tree c.in-If.field-0) c.in-If.first c.in-If.second c.as_slice-in-If.result
    c.as_slice-in-If-2.result
    (ap stmt_tree c.in-If.is ∙ view-If c.in-If.field-0 c.in-If.first c.in-If.second)
    c.as_slice-in-If.ensures.value c.as_slice-in-If-2.ensures.value (h d)) c.walk_branches.ensures.weight

pub returns-in-While-clause-settles : goal.returns-in-While-clause-settles
returns-in-While-clause-settles c =
    on_ok_weaker c.walk_loop.result (λ h d over by_text.
    settles-repeat d c.args.frame (tables_of c.args.self.now) (tables_of c.walk_loop.new.self) c.args.after
    (stmt_tree c.args.stmt.now) c.in-While.field-0 (expr_tree c.in-While.field-1) c.in-While.body
    c.as_slice-in-While.result
    (ap stmt_tree c.in-While.is ∙ view-While c.in-While.field-0 c.in-While.field-1 c.in-While.body)
    c.as_slice-in-While.ensures.value (h d)) c.walk_loop.ensures.settles

pub returns-in-Forever-clause-settles : goal.returns-in-Forever-clause-settles
returns-in-Forever-clause-settles c =
    on_ok_weaker c.walk_loop-in-Forever.result (λ h d over by_text.
    settles-forever d c.args.frame (tables_of c.args.self.now) (tables_of c.walk_loop-in-Forever.new.self) c.args.after
    (stmt_tree c.args.stmt.now) c.in-Forever.field-0 c.in-Forever.body c.as_slice-in-Forever.result
    (ap stmt_tree c.in-Forever.is ∙ view-Forever c.in-Forever.field-0 c.in-Forever.body)
    c.as_slice-in-Forever.ensures.value (h d)) c.walk_loop-in-Forever.ensures.settles

pub returns-in-Choice-clause-settles : goal.returns-in-Choice-clause-settles
returns-in-Choice-clause-settles c =
    on_ok_weaker c.leave.result (λ h d over by_text.
    settles-choose d c.args.frame (tables_of c.args.self.now) (tables_of c.leave.new.self) c.args.after
    (stmt_tree c.args.stmt.now) c.in-Choice.field-0 c.in-Choice.blocks c.as_slice-in-Choice.result
    (ap stmt_tree c.in-Choice.is ∙ view-Choice c.in-Choice.field-0 c.in-Choice.blocks)
    c.as_slice-in-Choice.ensures.value h) c.leave.ensures

pub returns-in-Choice-clause-lighter : goal.returns-in-Choice-clause-lighter
returns-in-Choice-clause-lighter c =
    on_ok_weaker c.leave.result (λ h d over.
    lighter-choose d c.args.frame (tables_of c.args.self.now) (tables_of c.leave.new.self) c.args.after
    (stmt_tree c.args.stmt.now) c.in-Choice.field-0 c.in-Choice.blocks c.as_slice-in-Choice.result
    (ap stmt_tree c.in-Choice.is ∙ view-Choice c.in-Choice.field-0 c.in-Choice.blocks)
    c.as_slice-in-Choice.ensures.value h) c.leave.ensures

pub returns-in-Pause-clause-settles : goal.returns-in-Pause-clause-settles
returns-in-Pause-clause-settles c =
    on_ok_weaker c.note.result (λ h d over by_text.
    settles-stmt d c.args.frame (tables_of c.args.self.now) (tables_of c.note.new.self) c.args.after
    (stmt_tree c.args.stmt.now) (pause c.in-Pause.at) (ap stmt_tree c.in-Pause.is ∙ view-Pause c.in-Pause.at)
    (settles-note d (tables_of c.args.self.now) (tables_of c.note.new.self) c.args.frame c.args.after c.in-Pause.at
    false h)) c.note.ensures

pub returns-in-Magic-clause-settles : goal.returns-in-Magic-clause-settles
returns-in-Magic-clause-settles c =
    on_ok_weaker c.note-in-Magic.result (λ h d over by_text.
    settles-stmt d c.args.frame (tables_of c.args.self.now) (tables_of c.note-in-Magic.new.self) c.args.after
    (stmt_tree c.args.stmt.now) (magic c.in-Magic.at) (ap stmt_tree c.in-Magic.is ∙ view-Magic c.in-Magic.at)
    (settles-note d (tables_of c.args.self.now) (tables_of c.note-in-Magic.new.self) c.args.frame c.args.after
    c.in-Magic.at true h)) c.note-in-Magic.ensures
