use Rattle.std.proofs.Common.{◌≡◌, ◌<◌, Some, length, position, slice_get, slice_index_or, refl, sym, ap, ◌∙◌, subst}
use Rattle.std.proofs.lemmas.Option.{slice_get_read}
use Rattle.std.specs.Option.{option_map}
use Rattle.std.specs.Prelude.{IfSome}
use Rattle.tm_syntax.specs.Scopes.Names.{is_spelled}
use Rattle.tm_syntax.specs.Tree.View.{spec_tree, template_tree}
use Rattle.tm_syntax.specs.Scopes.Calls.{number_along}
use Rattle.tm_scope.proofs.PathSteps.{task_number-read}
use Rattle.tm_scope.proofs.scopes.scope.Scopes.task_number.Goals as goal

pub returns-in_err-index : goal.returns-in_err-index
returns-in_err-index c =
    let along : number_along (spec_tree c.args.self.now) c.args.from c.args.path.now ≡ Some c.in_ok-template.template =
    sym c.number_along.ensures.number ∙ c.in_ok-template.was in
    let within : c.in_ok-template.template < length c.args.self.now.templates.items =
    subst (λ o. IfSome o (λ k. k < length c.args.self.now.templates.items)) c.in_ok-template.was
    c.number_along.ensures.within in
    let at : slice_get c.args.self.now.templates.items c.in_ok-template.template ≡ Some c.index.result.now =
    slice_get_read c.args.self.now.templates.items (length c.args.self.now.templates.items)
    c.in_ok-template.template c.index.result.now refl within
    (c.index.ensures ∙ ap (λ ts. slice_index_or ts c.in_ok-template.template c.index.result.now)
    (c.self.invariant.1 ∙ ap (λ s. s.templates.items) c.self.view_is)) in
    c.from_residual-in_err-index.ensures
    ∙ sym (task_number-read c.args.self.now c.args.from c.in_ok-template.template c.index.result.now c.args.path.now
    along at
    ∙ ap (option_map (λ k. record { template = c.in_ok-template.template; index = k }))
    (sym (c.task_index.ensures ∙ ap (λ name. position (λ k. is_spelled name k.name)
    (template_tree c.index.result.now).tasks) c.last_name.ensures) ∙ c.in_err-index.was))

pub returns : goal.returns
returns c =
    let along : number_along (spec_tree c.args.self.now) c.args.from c.args.path.now ≡ Some c.in_ok-template.template =
    sym c.number_along.ensures.number ∙ c.in_ok-template.was in
    let within : c.in_ok-template.template < length c.args.self.now.templates.items =
    subst (λ o. IfSome o (λ k. k < length c.args.self.now.templates.items)) c.in_ok-template.was
    c.number_along.ensures.within in
    let at : slice_get c.args.self.now.templates.items c.in_ok-template.template ≡ Some c.index.result.now =
    slice_get_read c.args.self.now.templates.items (length c.args.self.now.templates.items)
    c.in_ok-template.template c.index.result.now refl within
    (c.index.ensures ∙ ap (λ ts. slice_index_or ts c.in_ok-template.template c.index.result.now)
    (c.self.invariant.1 ∙ ap (λ s. s.templates.items) c.self.view_is)) in
    sym (task_number-read c.args.self.now c.args.from c.in_ok-template.template c.index.result.now c.args.path.now
    along at
    ∙ ap (option_map (λ k. record { template = c.in_ok-template.template; index = k }))
    (sym (c.task_index.ensures ∙ ap (λ name. position (λ k. is_spelled name k.name)
    (template_tree c.index.result.now).tasks) c.last_name.ensures) ∙ c.in_ok-index.was))
