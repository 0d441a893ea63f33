use Rattle.std.proofs.Common.{sym, ap, ◌∙◌, subst}
use Rattle.tm_syntax.specs.Design.Cells.{called}
use Rattle.tm_syntax.specs.Design.Scope.{site}
use Rattle.tm_syntax.specs.Design.View.{design_tree}
use Rattle.tm_scope.specs.Cells.{scope_of}
use Rattle.tm_design.specs.Callees.{IsCallee}
use Rattle.tm_plain_bodies.specs.Tables.{IsReady, body_of, tables_of}
use Rattle.tm_plain_bodies.proofs.CallParts.{calls_something}
use Rattle.tm_plain_bodies.proofs.CalledTasks.{is_called, is_deeper}
use Rattle.tm_plain_bodies.proofs.Found.{own_cells}
use Rattle.tm_design.proofs.Found.{body_found}
use Rattle.tm_plain_bodies.proofs.runner.Runner.called.Goals as goal

pub unreachable-requires : goal.unreachable-requires
unreachable-requires c =
    let d = c.args.self.now in
    calls_something d c.self.inside.order.now
    (subst (λ d. IsReady d c.self.inside.order.now) c.self.view_is c.self.invariant.3) c.args.frame.now c.args.path.now
    c.requires.0 c.requires.1
    (ap (λ at. called (design_tree d) (scope_of at) c.args.path.now) (sym c.at.ensures)
    ∙ c.in_default.ensures.none (design_tree d) (own_cells d))

pub returns : goal.returns
returns c =
    let d = c.args.self.now in
    let at = c.in-Some.callee.at in
    is_called d c.self.inside.order.now
    (subst (λ d. IsReady d c.self.inside.order.now) c.self.view_is c.self.invariant.3) c.args.frame.now c.args.path.now
    c.requires.0 c.requires.1 at c.in-Some.callee.task
    (subst (λ from. IsCallee (tables_of d) from c.args.path.now at c.in-Some.callee.task.now) c.at.ensures
    c.in-Some.ensures.found) c.in-Some-reader.reader
    (body_found (site (design_tree d) at.instance) (body_of d at) c.in-Some-reader.reader c.reader.result
    c.reader.ensures
    c.in-Some-reader.is)

pub overflow_sub-result : goal.overflow_sub-result
overflow_sub-result c =
    let d = c.args.self.now in
    let at = c.in-Some.callee.at in
    is_deeper d c.self.inside.order.now
    (subst (λ d. IsReady d c.self.inside.order.now) c.self.view_is c.self.invariant.3) c.args.frame.now c.args.path.now
    c.requires.0 c.requires.1 at c.in-Some.callee.task
    (subst (λ from. IsCallee (tables_of d) from c.args.path.now at c.in-Some.callee.task.now) c.at.ensures
    c.in-Some.ensures.found)
