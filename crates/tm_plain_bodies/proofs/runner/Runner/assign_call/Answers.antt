use Rattle.std.proofs.Common.{◌∷◌, length}
use Rattle.std.specs.Option.{option_map}
use Rattle.tm_syntax.specs.Tree as trees
use Rattle.tm_syntax.specs.Tree.{StmtTree, ValueTree}
use Rattle.tm_syntax.specs.Tree.View.{expr_tree, expr_trees}
use Rattle.tm_plain_bodies.specs.Inner.Owed.{answer, level_of, one, owed}
use Rattle.tm_plain_bodies.specs.Runs.{behind}
use Rattle.tm_plain_bodies.proofs.Assigning.{halts_at_target}
use Rattle.tm_plain_bodies.proofs.Behind.{same_behind, some_behind, target_behind}
use Rattle.tm_plain_bodies.proofs.CallParts.{args_fit, call_fits_there, result_args, same_tables, task_here}
use Rattle.tm_plain_bodies.proofs.Entering.{entered_steps, left_of, result_entered}
use Rattle.tm_plain_bodies.proofs.Performing.{target_at}
use Rattle.tm_plain_bodies.proofs.Returning.{result_halts}
use Rattle.tm_plain_bodies.proofs.Stepping.{halts_there, handed}
use Rattle.tm_plain_bodies.proofs.runner.Runner.assign_call.Goals as goal

pub target-requires : goal.target-requires
target-requires c =
    target_at c.args.frame.now.reader c.args.path.now (option_map expr_tree c.args.index.now)
    (trees.result c.args.name.now (expr_trees c.args.args.now)) c.requires.promised

pub returns-in_err-cell : goal.returns-in_err-cell
returns-in_err-cell c =
    let d = c.args.self.now in
    let f = c.args.frame.now in
    let ts = owed c.args.todo.now.items in
    let from = c.args.course.now in
    let to = c.target.new.course in
    let path = c.args.path.now in
    let index = option_map expr_tree c.args.index.now in
    let v : ValueTree = trees.result c.args.name.now (expr_trees c.args.args.now) in
    let s : StmtTree = trees.assign path index v in
    handed d (one (level_of f) s ∷ ts) ts from to c.from_residual.result _ c.from_residual.ensures.1
    (halts_there d f c.requires.tables s ts from to _
    (λ calls. halts_at_target f.reader (behind calls from) (behind calls to) path index v _
    (target_behind calls from f.reader path index _ c.in_err-cell.ensures.halts)))

pub called-called-requires : goal.called-called-requires
called-called-requires c =
    let args = expr_trees c.args.args.now in (
      length args,
      call_fits_there c.args.self.now c.args.frame.now c.args.path.now (option_map expr_tree c.args.index.now)
          c.args.name.now args c.requires,
    )

pub arguments-requires : goal.arguments-requires
arguments-requires c =
    let names = c.args.name.now in
    let is = c.called-called.ensures in
    let h = c.requires.promised in
    let args = expr_trees c.args.args.now in record {
      tables = same_tables is c.requires.tables;
      task = task_here is c.requires.tables;
      args = args_fit is c.requires.tables h.context h.stands args h.promised.0.resolves.1.callee
          (result_args h.context c.args.path.now (option_map expr_tree c.args.index.now) names args h.promised);
    }

pub returns-in_err-arguments : goal.returns-in_err-arguments
returns-in_err-arguments c =
    let d = c.args.self.now in
    let f = c.args.frame.now in
    let ts = owed c.args.todo.now.items in
    let from = c.args.course.now in
    let asked = c.target.new.course in
    let to = c.arguments.new.course in
    let path = c.args.path.now in
    let names = c.args.name.now in
    let index = option_map expr_tree c.args.index.now in
    let args = expr_trees c.args.args.now in
    let s : StmtTree = trees.assign path index (trees.result names args) in
    handed d (one (level_of f) s ∷ ts) ts from to c.from_residual-in_err-arguments.result _
    c.from_residual-in_err-arguments.ensures.1
    (halts_there d f c.requires.tables s ts from to _
    (λ calls. result_halts f.reader path index names args (behind calls from) (behind calls asked)
    (same_behind calls from asked c.target.ensures.same)
    (target_at f.reader path index (trees.result names args) c.requires.promised) c.in_ok-cell.cell
    c.in_ok-cell.ensures.cell (behind calls to) _
    (some_behind calls asked f.reader args _ c.in_err-arguments.ensures.halts)))

pub returns : goal.returns
returns c =
    let d = c.args.self.now in
    let f = c.args.frame.now in
    let k = c.called-called.result in
    let ts = owed c.args.todo.now.items in
    let from = c.args.course.now in
    let asked = c.target.new.course in
    let mid = c.arguments.new.course in
    let path = c.args.path.now in
    let names = c.args.name.now in
    let index = option_map expr_tree c.args.index.now in
    let args = expr_trees c.args.args.now in
    let h = c.requires.promised in
    entered_steps d (one (level_of f) (trees.assign path index (trees.result names args)) ∷ ts) _
    (left_of k names (answer (level_of k.frame) f.reader.at k.task.now c.in_ok-cell.cell ∷ ts)) from mid
    c.enter_for.new.course names c.enter_for.result c.enter_for.ensures.entered c.enter_for.ensures.left
    c.enter_for.ensures.memory
    (λ entered. result_entered c.called-called.ensures c.requires.tables ts path index args from asked mid
    c.enter_for.new.course c.target.ensures.same (target_at f.reader path index (trees.result names args) h)
    c.in_ok-cell.cell c.in_ok-cell.ensures.cell c.in_ok-arguments.ensures.given entered h.promised.0.resolves.1)
