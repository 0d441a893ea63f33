use Rattle.std.proofs.Common.{◌∙◌, ◌∷◌, [], sym, ap, map, refl, arith}
use Rattle.std.specs.Option.{option_map}
use Rattle.std.proofs.lemmas.Result.{on_ok_weaker}
use Rattle.tm_syntax.specs.Tree.{alternatives_of, assert, assign, assume, branch, choose, forever, invoke, magic, pause, repeat, row_of, wait}
use Rattle.tm_syntax.specs.Tree.View.{expr_tree, expr_trees, stmt_tree, stmt_trees, value_tree}
use Rattle.tm_syntax.proofs.Views.{view-Assert, view-Assign, view-Assume, view-Call, view-Choice, view-Forever, view-If, view-Magic, view-Pause, view-Wait, view-While}
use Rattle.tm_scope.specs.Cells.{scope_of}
use Rattle.tm_atoms.specs.declared.walk.Row.TheVariants.{Blocks, Stmts}
use Rattle.tm_atoms.specs.Inner.Walks.{tables_of}
use Rattle.tm_atoms.proofs.WalkSteps.{blocks-weight, lighter-held, lighter-stmt, part, row-weight, settles-choice, settles-condition, settles-held, settles-plain, settles-stmt, settles-vector, settles-vectors, weight-same}
use Rattle.tm_atoms.proofs.walk.Walk.walk_stmt.Goals as goal

pub returns-in-Assign-clause-settles : goal.returns-in-Assign-clause-settles
returns-in-Assign-clause-settles c =
    on_ok_weaker c.walk_value.result (λ h d over rank ranked.
    settles-stmt d rank (tables_of c.args.self.now) (tables_of c.walk_value.new.self) (scope_of c.args.scope)
    (stmt_tree c.args.stmt.now)
    (assign c.in-Assign.field-0.names.items (option_map expr_tree c.in-Assign.field-1) (value_tree c.in-Assign.value))
    (ap stmt_tree c.in-Assign.is ∙ view-Assign c.in-Assign.field-0 c.in-Assign.field-1 c.in-Assign.value)
    (h d over rank ranked (assign c.in-Assign.field-0.names.items (option_map expr_tree c.in-Assign.field-1)
    (value_tree c.in-Assign.value)) refl refl)) c.walk_value.ensures.settles

pub returns-in-Assign-clause-lighter : goal.returns-in-Assign-clause-lighter
returns-in-Assign-clause-lighter c =
    on_ok_weaker c.walk_value.result (λ h d over.
    lighter-stmt d (tables_of c.args.self.now) (tables_of c.walk_value.new.self) (stmt_tree c.args.stmt.now)
    (assign c.in-Assign.field-0.names.items (option_map expr_tree c.in-Assign.field-1) (value_tree c.in-Assign.value))
    (ap stmt_tree c.in-Assign.is ∙ view-Assign c.in-Assign.field-0 c.in-Assign.field-1 c.in-Assign.value)
    (omega (arith, h d over))) c.walk_value.ensures.lighter

pub returns-in-Call-clause-settles : goal.returns-in-Call-clause-settles
returns-in-Call-clause-settles c =
    on_ok_weaker c.walk_call.result (λ h d over rank ranked.
    settles-stmt d rank (tables_of c.args.self.now) (tables_of c.walk_call.new.self) (scope_of c.args.scope)
    (stmt_tree c.args.stmt.now)
    (invoke c.in-Call.path.names.items (expr_trees c.in-Call.field-1.items))
    (ap stmt_tree c.in-Call.is ∙ view-Call c.in-Call.path c.in-Call.field-1)
    (h d over rank ranked (invoke c.in-Call.path.names.items (expr_trees c.in-Call.field-1.items)) refl
    (ap (λ names. names ∷ []) (sym c.as_slice.ensures.value)))) c.walk_call.ensures.settles

pub returns-in-Call-clause-lighter : goal.returns-in-Call-clause-lighter
returns-in-Call-clause-lighter c =
    on_ok_weaker c.walk_call.result (λ h d over.
    lighter-stmt d (tables_of c.args.self.now) (tables_of c.walk_call.new.self) (stmt_tree c.args.stmt.now)
    (invoke c.in-Call.path.names.items (expr_trees c.in-Call.field-1.items))
    (ap stmt_tree c.in-Call.is ∙ view-Call c.in-Call.path c.in-Call.field-1)
    (omega (arith, h d over))) c.walk_call.ensures.lighter

pub returns-in-If-clause-settles : goal.returns-in-If-clause-settles
returns-in-If-clause-settles c =
    on_ok_weaker c.walk_branches.result (λ h d over rank ranked.
    settles-stmt d rank (tables_of c.args.self.now) (tables_of c.walk_branches.new.self) (scope_of c.args.scope)
    (stmt_tree c.args.stmt.now)
    (branch (expr_tree c.in-If.e) (row_of (stmt_trees c.in-If.first.items)) (row_of (stmt_trees c.in-If.second.items)))
    (ap stmt_tree c.in-If.is ∙ view-If c.in-If.e c.in-If.first c.in-If.second)
    (settles-vectors d rank (tables_of c.args.self.now) (tables_of c.walk_branches.new.self) c.args.scope
    (branch (expr_tree c.in-If.e) (row_of (stmt_trees c.in-If.first.items)) (row_of (stmt_trees c.in-If.second.items)))
    c.in-If.first c.in-If.second
    c.as_slice-in-If.result c.as_slice-in-If-2.result c.as_slice-in-If.ensures.value c.as_slice-in-If-2.ensures.value
    (h d over rank (branch (expr_tree c.in-If.e) (row_of (stmt_trees c.in-If.first.items))
    (row_of (stmt_trees c.in-If.second.items))) refl refl))) c.walk_branches.ensures.settles

pub returns-in-If-clause-lighter : goal.returns-in-If-clause-lighter
returns-in-If-clause-lighter c =
    on_ok_weaker c.walk_branches.result (λ h d over.
    lighter-stmt d (tables_of c.args.self.now) (tables_of c.walk_branches.new.self) (stmt_tree c.args.stmt.now)
    (branch (expr_tree c.in-If.e) (row_of (stmt_trees c.in-If.first.items)) (row_of (stmt_trees c.in-If.second.items)))
    (ap stmt_tree c.in-If.is ∙ view-If c.in-If.e c.in-If.first c.in-If.second)
    (omega (
      arith,
      h d,
      row-weight c.in-If.first c.as_slice-in-If.result c.as_slice-in-If.ensures.value,
      row-weight c.in-If.second c.as_slice-in-If-2.result c.as_slice-in-If-2.ensures.value,
    ))) c.walk_branches.ensures.lighter

pub returns-in-While-clause-settles : goal.returns-in-While-clause-settles
returns-in-While-clause-settles c =
    on_ok_weaker c.walk_loop.result (λ h d over rank ranked.
    settles-stmt d rank (tables_of c.args.self.now) (tables_of c.walk_loop.new.self) (scope_of c.args.scope)
    (stmt_tree c.args.stmt.now)
    (repeat c.in-While.field-0 (expr_tree c.in-While.e) (row_of (stmt_trees c.in-While.body.items)))
    (ap stmt_tree c.in-While.is ∙ view-While c.in-While.field-0 c.in-While.e c.in-While.body)
    (settles-vector d rank (tables_of c.args.self.now) (tables_of c.walk_loop.new.self) (tables_of c.walk_loop.new.self)
    c.args.scope (repeat c.in-While.field-0 (expr_tree c.in-While.e) (row_of (stmt_trees c.in-While.body.items)))
    c.in-While.body
    c.as_slice-in-While.result c.as_slice-in-While.ensures.value
    (h d over rank (repeat c.in-While.field-0 (expr_tree c.in-While.e) (row_of (stmt_trees c.in-While.body.items))) refl
    refl))) c.walk_loop.ensures.settles

pub returns-in-While-clause-lighter : goal.returns-in-While-clause-lighter
returns-in-While-clause-lighter c =
    on_ok_weaker c.walk_loop.result (λ h d over.
    lighter-stmt d (tables_of c.args.self.now) (tables_of c.walk_loop.new.self) (stmt_tree c.args.stmt.now)
    (repeat c.in-While.field-0 (expr_tree c.in-While.e) (row_of (stmt_trees c.in-While.body.items)))
    (ap stmt_tree c.in-While.is ∙ view-While c.in-While.field-0 c.in-While.e c.in-While.body)
    (omega (arith, h d, row-weight c.in-While.body c.as_slice-in-While.result c.as_slice-in-While.ensures.value)))
    c.walk_loop.ensures.lighter

pub returns-in-Forever-clause-settles : goal.returns-in-Forever-clause-settles
returns-in-Forever-clause-settles c =
    on_ok_weaker c.leave.result (λ h d over rank ranked.
    settles-stmt d rank (tables_of c.args.self.now) (tables_of c.leave.new.self) (scope_of c.args.scope)
    (stmt_tree c.args.stmt.now)
    (forever c.in-Forever.field-0 (row_of (stmt_trees c.in-Forever.body.items)))
    (ap stmt_tree c.in-Forever.is ∙ view-Forever c.in-Forever.field-0 c.in-Forever.body)
    (settles-vector d rank (tables_of c.args.self.now) (tables_of c.leave.new.self) (tables_of c.leave.new.self)
    c.args.scope (forever c.in-Forever.field-0 (row_of (stmt_trees c.in-Forever.body.items))) c.in-Forever.body
    c.as_slice-in-Forever.result c.as_slice-in-Forever.ensures.value
    (settles-held d rank (tables_of c.args.self.now) (tables_of c.leave.new.self) (tables_of c.leave.new.self)
    c.args.scope (forever c.in-Forever.field-0 (row_of (stmt_trees c.in-Forever.body.items)))
    c.as_slice-in-Forever.result h
    (settles-plain d rank (tables_of c.leave.new.self) (scope_of c.args.scope)
    (forever c.in-Forever.field-0 (row_of (stmt_trees c.in-Forever.body.items))) refl refl)))) c.leave.ensures

pub returns-in-Forever-clause-lighter : goal.returns-in-Forever-clause-lighter
returns-in-Forever-clause-lighter c =
    on_ok_weaker c.leave.result (λ h d over.
    lighter-stmt d (tables_of c.args.self.now) (tables_of c.leave.new.self) (stmt_tree c.args.stmt.now)
    (forever c.in-Forever.field-0 (row_of (stmt_trees c.in-Forever.body.items)))
    (ap stmt_tree c.in-Forever.is ∙ view-Forever c.in-Forever.field-0 c.in-Forever.body)
    (lighter-held d (tables_of c.args.self.now) (tables_of c.leave.new.self) (tables_of c.leave.new.self)
    (part c.args.scope (Stmts c.as_slice-in-Forever.result)) _ h
    (row-weight c.in-Forever.body c.as_slice-in-Forever.result c.as_slice-in-Forever.ensures.value) (omega arith)))
    c.leave.ensures

pub returns-in-Choice-clause-settles : goal.returns-in-Choice-clause-settles
returns-in-Choice-clause-settles c =
    on_ok_weaker c.leave-in-Choice.result (λ h d over rank ranked.
    settles-stmt d rank (tables_of c.args.self.now) (tables_of c.leave-in-Choice.new.self) (scope_of c.args.scope)
    (stmt_tree c.args.stmt.now)
    (choose c.in-Choice.field-0 (alternatives_of (map (λ b. row_of (stmt_trees b.items)) c.in-Choice.blocks.items)))
    (ap stmt_tree c.in-Choice.is ∙ view-Choice c.in-Choice.field-0 c.in-Choice.blocks)
    (settles-choice d rank (tables_of c.args.self.now) (tables_of c.leave-in-Choice.new.self)
    (tables_of c.leave-in-Choice.new.self) c.args.scope (choose c.in-Choice.field-0
    (alternatives_of (map (λ b. row_of (stmt_trees b.items)) c.in-Choice.blocks.items))) c.in-Choice.blocks
    c.as_slice-in-Choice.result c.as_slice-in-Choice.ensures.value h
    (settles-plain d rank (tables_of c.leave-in-Choice.new.self) (scope_of c.args.scope)
    (choose c.in-Choice.field-0 (alternatives_of (map (λ b. row_of (stmt_trees b.items)) c.in-Choice.blocks.items)))
    refl refl))) c.leave-in-Choice.ensures

pub returns-in-Choice-clause-lighter : goal.returns-in-Choice-clause-lighter
returns-in-Choice-clause-lighter c =
    on_ok_weaker c.leave-in-Choice.result (λ h d over.
    lighter-stmt d (tables_of c.args.self.now) (tables_of c.leave-in-Choice.new.self) (stmt_tree c.args.stmt.now)
    (choose c.in-Choice.field-0 (alternatives_of (map (λ b. row_of (stmt_trees b.items)) c.in-Choice.blocks.items)))
    (ap stmt_tree c.in-Choice.is ∙ view-Choice c.in-Choice.field-0 c.in-Choice.blocks)
    (lighter-held d (tables_of c.args.self.now) (tables_of c.leave-in-Choice.new.self)
    (tables_of c.leave-in-Choice.new.self) (part c.args.scope (Blocks c.as_slice-in-Choice.result)) _ h
    (blocks-weight c.in-Choice.blocks c.as_slice-in-Choice.result c.as_slice-in-Choice.ensures.value) (omega arith)))
    c.leave-in-Choice.ensures

pub returns-in-Assert-clause-settles : goal.returns-in-Assert-clause-settles
returns-in-Assert-clause-settles c =
    on_ok_weaker c.note_condition.result (λ h d over rank ranked.
    settles-stmt d rank (tables_of c.args.self.now) (tables_of c.note_condition.new.self) (scope_of c.args.scope)
    (stmt_tree c.args.stmt.now)
    (assert c.in-Assert.field-0 (expr_tree c.in-Assert.e))
    (ap stmt_tree c.in-Assert.is ∙ view-Assert c.in-Assert.field-0 c.in-Assert.e)
    (settles-condition d rank c.args.bodies.now over (tables_of c.args.self.now) (tables_of c.note_condition.new.self)
    (scope_of c.args.scope) (assert c.in-Assert.field-0 (expr_tree c.in-Assert.e)) (expr_tree c.in-Assert.e) refl refl
    h)) c.note_condition.ensures

pub returns-in-Assert-clause-lighter : goal.returns-in-Assert-clause-lighter
returns-in-Assert-clause-lighter c =
    on_ok_weaker c.note_condition.result (λ h d over.
    lighter-stmt d (tables_of c.args.self.now) (tables_of c.note_condition.new.self) (stmt_tree c.args.stmt.now)
    (assert c.in-Assert.field-0 (expr_tree c.in-Assert.e))
    (ap stmt_tree c.in-Assert.is ∙ view-Assert c.in-Assert.field-0 c.in-Assert.e)
    (let less = weight-same d (tables_of c.args.self.now) (tables_of c.note_condition.new.self) h.entered h.todo in
    omega (arith, less))) c.note_condition.ensures

pub returns-in-Assume-clause-settles : goal.returns-in-Assume-clause-settles
returns-in-Assume-clause-settles c =
    on_ok_weaker c.note_condition-in-Assume.result (λ h d over rank ranked.
    settles-stmt d rank (tables_of c.args.self.now) (tables_of c.note_condition-in-Assume.new.self)
    (scope_of c.args.scope) (stmt_tree c.args.stmt.now)
    (assume c.in-Assume.field-0 (expr_tree c.in-Assume.e))
    (ap stmt_tree c.in-Assume.is ∙ view-Assume c.in-Assume.field-0 c.in-Assume.e)
    (settles-condition d rank c.args.bodies.now over (tables_of c.args.self.now)
    (tables_of c.note_condition-in-Assume.new.self) (scope_of c.args.scope)
    (assume c.in-Assume.field-0 (expr_tree c.in-Assume.e)) (expr_tree c.in-Assume.e) refl refl h))
    c.note_condition-in-Assume.ensures

pub returns-in-Assume-clause-lighter : goal.returns-in-Assume-clause-lighter
returns-in-Assume-clause-lighter c =
    on_ok_weaker c.note_condition-in-Assume.result (λ h d over.
    lighter-stmt d (tables_of c.args.self.now) (tables_of c.note_condition-in-Assume.new.self)
    (stmt_tree c.args.stmt.now)
    (assume c.in-Assume.field-0 (expr_tree c.in-Assume.e))
    (ap stmt_tree c.in-Assume.is ∙ view-Assume c.in-Assume.field-0 c.in-Assume.e)
    (let less = weight-same d (tables_of c.args.self.now) (tables_of c.note_condition-in-Assume.new.self) h.entered
    h.todo in omega (arith, less))) c.note_condition-in-Assume.ensures

pub returns-in-Wait-clause-settles : goal.returns-in-Wait-clause-settles
returns-in-Wait-clause-settles c =
    on_ok_weaker c.note_condition-in-Wait.result (λ h d over rank ranked.
    settles-stmt d rank (tables_of c.args.self.now) (tables_of c.note_condition-in-Wait.new.self)
    (scope_of c.args.scope) (stmt_tree c.args.stmt.now)
    (wait c.in-Wait.field-0 (expr_tree c.in-Wait.e))
    (ap stmt_tree c.in-Wait.is ∙ view-Wait c.in-Wait.field-0 c.in-Wait.e)
    (settles-condition d rank c.args.bodies.now over (tables_of c.args.self.now)
    (tables_of c.note_condition-in-Wait.new.self) (scope_of c.args.scope)
    (wait c.in-Wait.field-0 (expr_tree c.in-Wait.e)) (expr_tree c.in-Wait.e) refl refl h))
    c.note_condition-in-Wait.ensures

pub returns-in-Wait-clause-lighter : goal.returns-in-Wait-clause-lighter
returns-in-Wait-clause-lighter c =
    on_ok_weaker c.note_condition-in-Wait.result (λ h d over.
    lighter-stmt d (tables_of c.args.self.now) (tables_of c.note_condition-in-Wait.new.self) (stmt_tree c.args.stmt.now)
    (wait c.in-Wait.field-0 (expr_tree c.in-Wait.e))
    (ap stmt_tree c.in-Wait.is ∙ view-Wait c.in-Wait.field-0 c.in-Wait.e)
    (let less = weight-same d (tables_of c.args.self.now) (tables_of c.note_condition-in-Wait.new.self) h.entered h.todo
    in omega (arith, less))) c.note_condition-in-Wait.ensures

pub returns-in-Pause-clause-settles : goal.returns-in-Pause-clause-settles
returns-in-Pause-clause-settles c = λ d over rank ranked.
    settles-stmt d rank (tables_of c.args.self.now) (tables_of c.args.self.now) (scope_of c.args.scope)
    (stmt_tree c.args.stmt.now) (pause c.in-Pause.field-0)
    (ap stmt_tree c.in-Pause.is ∙ view-Pause c.in-Pause.field-0)
    (settles-plain d rank (tables_of c.args.self.now) (scope_of c.args.scope) (pause c.in-Pause.field-0) refl refl)

pub returns-in-Pause-clause-lighter : goal.returns-in-Pause-clause-lighter
returns-in-Pause-clause-lighter c = λ d over.
    lighter-stmt d (tables_of c.args.self.now) (tables_of c.args.self.now) (stmt_tree c.args.stmt.now)
    (pause c.in-Pause.field-0)
    (ap stmt_tree c.in-Pause.is ∙ view-Pause c.in-Pause.field-0) (omega arith)

pub returns-in-Magic-clause-settles : goal.returns-in-Magic-clause-settles
returns-in-Magic-clause-settles c = λ d over rank ranked.
    settles-stmt d rank (tables_of c.args.self.now) (tables_of c.args.self.now) (scope_of c.args.scope)
    (stmt_tree c.args.stmt.now) (magic c.in-Magic.field-0)
    (ap stmt_tree c.in-Magic.is ∙ view-Magic c.in-Magic.field-0)
    (settles-plain d rank (tables_of c.args.self.now) (scope_of c.args.scope) (magic c.in-Magic.field-0) refl refl)

pub returns-in-Magic-clause-lighter : goal.returns-in-Magic-clause-lighter
returns-in-Magic-clause-lighter c = λ d over.
    lighter-stmt d (tables_of c.args.self.now) (tables_of c.args.self.now) (stmt_tree c.args.stmt.now)
    (magic c.in-Magic.field-0)
    (ap stmt_tree c.in-Magic.is ∙ view-Magic c.in-Magic.field-0) (omega arith)
