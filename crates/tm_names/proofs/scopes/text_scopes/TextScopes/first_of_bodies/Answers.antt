use Rattle.std.proofs.Common.{◌≡◌, ◌<◌, length, get_or, ap, ◌∙◌, arith}
use Rattle.std.specs.List.{flat_map}
use Rattle.std.specs.Option.{option_map}
use Rattle.std.proofs.lemmas.List.{take_all}
use Rattle.tm_syntax.specs.Faults.Marks.{Mark, first_mark}
use Rattle.tm_names.specs.ScopeNames.{mark_of}
use Rattle.tm_names.specs.Inner.Repeats.{body_repeats}
use Rattle.tm_names.proofs.FirstFaults.{first_more}
use Rattle.tm_names.proofs.scopes.text_scopes.TextScopes.first_of_bodies.Goals as goal

pub loop-scopes-preserved : goal.loop-scopes-preserved
loop-scopes-preserved c =
    let items = c.args.self.now.templates.items in
    let same : c.deref-scopes-items.result.now ≡ items = c.deref-scopes-items.ensures.value in
    let within : c.loop-scopes.scopes-index < length items = omega (arith, ap length same) in
    let is : c.scopes-item.result ≡ get_or items c.loop-scopes.scopes-index c.scopes-item.result =
    c.scopes-item.is ∙ ap (λ ts. get_or ts c.loop-scopes.scopes-index c.scopes-item.result) same in
    first_more (λ (m : Mark). m.place) body_repeats items c.loop-scopes.scopes-index
    c.scopes-item.result (option_map mark_of c.loop-scopes.first) (option_map mark_of c.first_in_bodies.result)
    (option_map mark_of c.earlier_mark-first.result) within is
    c.first_in_bodies.ensures c.earlier_mark-first.ensures
    c.loop-scopes.invariant

pub returns : goal.returns
returns c =
    c.loop-scopes.invariant
    ∙ ap (λ ss. first_mark (flat_map body_repeats ss))
    (take_all c.loop-scopes.scopes-index c.args.self.now.templates.items
    (omega (arith, ap length c.deref-scopes-items.ensures.value)))
