use Rattle.std.proofs.Common.{◌≡◌, ◌<◌, Some, length, slice_get, slice_index_or, refl, sym, ap, ◌∙◌, subst, arith}
use Rattle.std.proofs.lemmas.Option.{slice_get_read}
use Rattle.std.specs.Option.{option_and_then, option_copied}
use Rattle.std.specs.Prelude.{IfSome}
use Rattle.tm_syntax.specs.Scopes.Names.{template_number}
use Rattle.tm_syntax.specs.Tree.View.{spec_tree}
use Rattle.tm_scope.proofs.PathSteps.{neighbor_number-read}
use Rattle.tm_scope.proofs.scopes.scope.Scopes.neighbor_number.Goals as goal

pub index-requires : goal.index-requires
index-requires c =
    let kept : c.args.from < length c.self.inside.templates.items =
    subst (λ ts. c.args.from < length ts)
    (sym (c.self.invariant.1 ∙ ap (λ s. s.templates.items) c.self.view_is)) c.requires in
    omega arith

pub returns-in_err-known-clause-number : goal.returns-in_err-known-clause-number
returns-in_err-known-clause-number c =
    let at : slice_get c.args.self.now.templates.items c.args.from ≡ Some c.index.result.now =
    slice_get_read c.args.self.now.templates.items (length c.args.self.now.templates.items) c.args.from
    c.index.result.now refl c.requires
    (c.index.ensures ∙ ap (λ ts. slice_index_or ts c.args.from c.index.result.now)
    (c.self.invariant.1 ∙ ap (λ s. s.templates.items) c.self.view_is)) in
    c.from_residual.ensures
    ∙ sym (neighbor_number-read c.args.self.now c.args.from c.index.result.now at c.args.name.now
    ∙ ap (option_and_then (λ known. template_number (spec_tree c.args.self.now) known.text))
    (sym c.known_template.ensures ∙ ap option_copied c.in_err-known.was))

pub returns-in_err-known-clause-within : goal.returns-in_err-known-clause-within
returns-in_err-known-clause-within c =
    subst (λ o. IfSome o (λ k. k < length c.args.self.now.templates.items)) (sym c.from_residual.ensures) tt

pub returns-clause-number : goal.returns-clause-number
returns-clause-number c =
    let at : slice_get c.args.self.now.templates.items c.args.from ≡ Some c.index.result.now =
    slice_get_read c.args.self.now.templates.items (length c.args.self.now.templates.items) c.args.from
    c.index.result.now refl c.requires
    (c.index.ensures ∙ ap (λ ts. slice_index_or ts c.args.from c.index.result.now)
    (c.self.invariant.1 ∙ ap (λ s. s.templates.items) c.self.view_is)) in
    c.template_number.ensures.number
    ∙ ap (template_number (spec_tree c.args.self.now)) c.as_bytes.ensures
    ∙ sym (neighbor_number-read c.args.self.now c.args.from c.index.result.now at c.args.name.now
    ∙ ap (option_and_then (λ known. template_number (spec_tree c.args.self.now) known.text))
    (sym c.known_template.ensures ∙ ap option_copied c.in_ok-known.was))

pub returns-clause-within : goal.returns-clause-within
returns-clause-within c = c.template_number.ensures.within
