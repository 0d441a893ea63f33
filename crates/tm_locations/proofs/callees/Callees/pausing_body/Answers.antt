use Rattle.std.proofs.Common.{◌≡◌, Option, None, Some, false, refl, sym, ap, ◌∙◌}
use Rattle.std.specs.Prelude.{IfNone}
use Rattle.tm_syntax.specs.Tree.{SpecTree}
use Rattle.tm_syntax.specs.Tree.View.{body_tree, spec_tree, task_tree}
use Rattle.tm_scope.specs.Cells.{scope_of}
use Rattle.tm_scope.specs.Instances.{InstanceTables}
use Rattle.tm_scope.specs.Marks.{pauses_at}
use Rattle.tm_locations.proofs.WalkCalls.{quiet-called, uncalled, unmarked}
use Rattle.tm_locations.proofs.callees.Callees.pausing_body.Goals as goal

if_none : {T P : Type 0} (o : Option T) → P → IfNone o P
if_none None p = p
if_none (Some x) p = tt

pub returns-in_err-called-clause-quiet : goal.returns-in_err-called-clause-quiet
returns-in_err-called-clause-quiet c =
    if_none c.from_residual.result (λ d over by_text within depth deep trail items.
    uncalled d (record { instance = c.args.instance; body = within }) c.args.path.now
    (c.in_err-called.ensures.body d over within) depth trail items)

pub returns-then-not-has-clause-quiet : goal.returns-then-not-has-clause-quiet
returns-then-not-has-clause-quiet c = λ d over by_text within depth deep trail items.
    let found = c.in_ok-called.called in
    let at = c.in_ok-called.ensures.task d over in
    let marked : false ≡ pauses_at d.spec found.task =
    c.if-not-has.ensures ∙ c.self.invariant.1 found.task
    ∙ ap (λ (x : InstanceTables). pauses_at (spec_tree x.spec) found.task) c.self.view_is
    ∙ ap (λ (s : SpecTree). pauses_at s found.task) (sym over.text) in
    quiet-called d (record { instance = c.args.instance; body = within }) c.args.path.now (scope_of found.scope)
    (body_tree found.def.now.body) (c.in_ok-called.ensures.body d over within) by_text depth deep at.0 at.1
    (unmarked d found.task at.0.template (task_tree found.def.now) false marked refl at.2) trail items

pub returns-clause-called : goal.returns-clause-called
returns-clause-called c = c.in_ok-called.ensures.body
