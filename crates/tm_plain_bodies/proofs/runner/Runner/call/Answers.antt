use Rattle.std.proofs.Common.{◌∷◌, length}
use Rattle.tm_syntax.specs.Tree as trees
use Rattle.tm_syntax.specs.Tree.{StmtTree}
use Rattle.tm_syntax.specs.Tree.View.{expr_trees}
use Rattle.tm_plain_bodies.specs.Inner.Owed.{level_of, one, owed}
use Rattle.tm_plain_bodies.specs.Runs.{behind}
use Rattle.tm_plain_bodies.proofs.Behind.{some_behind}
use Rattle.tm_plain_bodies.proofs.CallParts.{args_fit, same_tables, task_here}
use Rattle.tm_plain_bodies.proofs.Entering.{call_entered, entered_steps, left_of}
use Rattle.tm_plain_bodies.proofs.Invoking.{call_fits, invoke_halts}
use Rattle.tm_plain_bodies.proofs.Stepping.{halts_there, handed}
use Rattle.tm_plain_bodies.proofs.runner.Runner.call.Goals as goal

pub called-called-requires : goal.called-called-requires
called-called-requires c =
    let args = expr_trees c.args.args.now in
    (length args, call_fits c.args.self.now c.args.frame.now c.args.path.now args c.requires)

pub arguments-requires : goal.arguments-requires
arguments-requires c =
    let is = c.called-called.ensures in
    let h = c.requires.promised in record {
      tables = same_tables is c.requires.tables;
      task = task_here is c.requires.tables;
      args = args_fit is c.requires.tables h.context h.stands (expr_trees c.args.args.now)
          h.promised.0.resolves h.promised.0.exprs;
    }

pub returns-in_err-arguments : goal.returns-in_err-arguments
returns-in_err-arguments c =
    let d = c.args.self.now in
    let f = c.args.frame.now in
    let ts = owed c.args.todo.now.items in
    let from = c.args.course.now in
    let to = c.arguments.new.course in
    let args = expr_trees c.args.args.now in
    let s : StmtTree = trees.invoke c.args.path.now args in
    handed d (one (level_of f) s ∷ ts) ts from to c.from_residual.result _ c.from_residual.ensures.1
    (halts_there d f c.requires.tables s ts from to _
    (λ calls. invoke_halts f.reader (behind calls from) (behind calls to) c.args.path.now args _
    (some_behind calls from f.reader args _ c.in_err-arguments.ensures.halts)))

pub returns : goal.returns
returns c =
    let d = c.args.self.now in
    let f = c.args.frame.now in
    let ts = owed c.args.todo.now.items in
    let from = c.args.course.now in
    let names = c.args.path.now in
    let args = expr_trees c.args.args.now in
    entered_steps d (one (level_of f) (trees.invoke names args) ∷ ts) _ (left_of c.called-called.result names ts) from
    c.arguments.new.course c.enter.new.course names c.enter.result c.enter.ensures.entered c.enter.ensures.left
    c.enter.ensures.memory
    (λ entered. call_entered c.called-called.ensures c.requires.tables ts args from c.arguments.new.course
    c.enter.new.course c.in_ok-arguments.ensures.given entered)
