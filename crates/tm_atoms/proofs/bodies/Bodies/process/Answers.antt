use Rattle.std.proofs.Common.{◌≡◌, None, Some, slice_get, sym, ap, ◌∙◌}
use Rattle.std.specs.Option.{option_map}
use Rattle.std.proofs.lemmas.Option.{slice_get-map}
use Rattle.tm_syntax.specs.declared.tree.Template.{Template}
use Rattle.tm_syntax.specs.Tree.{BodyTree, ProcessTree}
use Rattle.tm_syntax.specs.Tree.View.{body_tree, process_tree, template_tree}
use Rattle.tm_syntax.specs.Scopes.Context.{process_body}
use Rattle.tm_syntax.specs.Design.Scope.{Scope}
use Rattle.tm_scope.specs.Cells.{scope_of}
use Rattle.tm_atoms.specs.Inner.Bodies.{seen}
use Rattle.tm_atoms.specs.declared.bodies.BodyAt.{BodyAt}
use Rattle.tm_atoms.proofs.BodyTables.{item-read, nothing-seen, seen-at, seen-without_index, seen-without_template}
use Rattle.tm_atoms.proofs.bodies.Bodies.process.Goals as goal

-- the body that is found
abbrev shown : BodyAt → Scope × BodyTree
shown b = seen (scope_of b.scope) (body_tree b.body.now)

pub returns-in_err-template : goal.returns-in_err-template
returns-in_err-template c = λ d over.
    nothing-seen shown c.from_residual.result _ c.from_residual.ensures
    (seen-without_template d (λ t. t.processes) (λ k (x : ProcessTree). seen
    (record { instance = c.args.item.now.instance; body = process_body k }) x.body) c.args.item.now
    (sym (c.in_err-template.ensures d over)))

pub returns-in_err-index : goal.returns-in_err-index
returns-in_err-index c = λ d over.
    nothing-seen shown c.from_residual-in_err-index.result _ c.from_residual-in_err-index.ensures
    (seen-without_index d (λ t. t.processes) (λ k (x : ProcessTree). seen
    (record { instance = c.args.item.now.instance; body = process_body k }) x.body) c.args.item.now
    (template_tree c.in_ok-template.template.now) (sym (c.in_ok-template.ensures d over)) c.in_err-index.was)

pub returns-in_err-process : goal.returns-in_err-process
returns-in_err-process c = λ d over.
    let t : Template = c.in_ok-template.template.now in
    let k = c.in_ok-index.field-0 in
    let absent : slice_get t.processes.items k ≡ None =
    item-read t.processes.items c.deref.result.now k None c.deref.ensures.value c.in_err-process.ensures.lookup in
    nothing-seen shown c.from_residual-in_err-process.result _ c.from_residual-in_err-process.ensures
    (seen-at d (λ t. t.processes) (λ k (x : ProcessTree). seen
    (record { instance = c.args.item.now.instance; body = process_body k }) x.body) c.args.item.now
    (template_tree t) (sym (c.in_ok-template.ensures d over)) k c.in_ok-index.was None
    (slice_get-map process_tree t.processes.items k ∙ ap (option_map process_tree) absent))

pub returns : goal.returns
returns c = λ d over.
    let t : Template = c.in_ok-template.template.now in
    let k = c.in_ok-index.field-0 in
    let is : slice_get t.processes.items k ≡ Some c.in_ok-process.process.now =
    item-read t.processes.items c.deref.result.now k (Some c.in_ok-process.process) c.deref.ensures.value
    c.in_ok-process.ensures.lookup in
    sym (seen-at d (λ t. t.processes) (λ k (x : ProcessTree). seen
    (record { instance = c.args.item.now.instance; body = process_body k }) x.body) c.args.item.now
    (template_tree t) (sym (c.in_ok-template.ensures d over)) k c.in_ok-index.was
    (Some (process_tree c.in_ok-process.process.now))
    (slice_get-map process_tree t.processes.items k ∙ ap (option_map process_tree) is))
