use Rattle.std.proofs.Common.{◌≡◌, Option, None, Some, slice_get, sym, ap, ◌∙◌, subst}
use Rattle.std.specs.Prelude.{IfNone}
use Rattle.std.specs.Option.{option_map}
use Rattle.std.proofs.lemmas.Option.{slice_get-map}
use Rattle.tm_syntax.specs.declared.tree.TaskDef.{TaskDef}
use Rattle.tm_syntax.specs.declared.tree.Template.{Template}
use Rattle.tm_syntax.specs.Tree.View.{task_tree, template_tree}
use Rattle.tm_scope.specs.Cells.{CellTables, HasCells}
use Rattle.tm_scope.specs.declared.members.SiteTask.{SiteTask}
use Rattle.tm_atoms.proofs.BodyTables.{called-task, item-read, sites-over, uncalled-task, uncalled-template}
use Rattle.tm_atoms.proofs.bodies.Bodies.callee.Goals as goal

if_none : {T P : Type 0} (o : Option T) → P → IfNone o P
if_none None p = p
if_none (Some x) p = tt

pub returns-in_err-task-clause-none : goal.returns-in_err-task-clause-none
returns-in_err-task-clause-none c =
    if_none c.from_residual.result (λ d over within.
    let x : CellTables = c.self.inside.cells.now in
    let inside : HasCells x d = subst (λ (x : CellTables). HasCells x d) (sym c.self.view_is) over in
    sym (c.in_err-task.ensures d (sites-over x c.self.inside.sites d c.self.invariant.1 inside) within))

pub returns-in_err-template-clause-none : goal.returns-in_err-template-clause-none
returns-in_err-template-clause-none c =
    if_none c.from_residual-in_err-template.result (λ d over within.
    let x : CellTables = c.self.inside.cells.now in
    let inside : HasCells x d = subst (λ (x : CellTables). HasCells x d) (sym c.self.view_is) over in
    let task : SiteTask = c.in_ok-task.task in
    sym (c.in_ok-task.ensures d (sites-over x c.self.inside.sites d c.self.invariant.1 inside) within)
    ∙ uncalled-template d task.instance task.index (sym (c.in_err-template.ensures d over)))

pub returns-in_err-def-clause-none : goal.returns-in_err-def-clause-none
returns-in_err-def-clause-none c =
    if_none c.from_residual-in_err-def.result (λ d over within.
    let x : CellTables = c.self.inside.cells.now in
    let inside : HasCells x d = subst (λ (x : CellTables). HasCells x d) (sym c.self.view_is) over in
    let task : SiteTask = c.in_ok-task.task in
    let t : Template = c.in_ok-template.field-0.now in
    let absent : slice_get t.tasks.items task.index ≡ None =
    item-read t.tasks.items c.deref.result.now task.index None c.deref.ensures.value c.in_err-def.ensures.lookup in
    sym (c.in_ok-task.ensures d (sites-over x c.self.inside.sites d c.self.invariant.1 inside) within)
    ∙ uncalled-task d task.instance (template_tree t) (sym (c.in_ok-template.ensures d over)) task.index
    (slice_get-map task_tree t.tasks.items task.index ∙ ap (option_map task_tree) absent))

pub returns-clause-called : goal.returns-clause-called
returns-clause-called c = λ d over within.
    let x : CellTables = c.self.inside.cells.now in
    let inside : HasCells x d = subst (λ (x : CellTables). HasCells x d) (sym c.self.view_is) over in
    let task : SiteTask = c.in_ok-task.task in
    let t : Template = c.in_ok-template.field-0.now in
    let def : TaskDef = c.in_ok-def.def.now in
    let is : slice_get t.tasks.items task.index ≡ Some def =
    item-read t.tasks.items c.deref.result.now task.index (Some c.in_ok-def.def) c.deref.ensures.value
    c.in_ok-def.ensures.lookup in
    called-task d task.instance (template_tree t) (sym (c.in_ok-template.ensures d over)) task.index
    (record { instance = c.args.instance; body = within }) c.args.path.now (task_tree def)
    (slice_get-map task_tree t.tasks.items task.index ∙ ap (option_map task_tree) is)
    (c.in_ok-task.ensures d (sites-over x c.self.inside.sites d c.self.invariant.1 inside) within)
