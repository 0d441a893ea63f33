use Rattle.std.proofs.Common.{sym, ap, ◌∙◌}
use Rattle.std.specs.Option.{option_and_then, option_copied}
use Rattle.tm_scope.specs.Context.{BodyPlace}
use Rattle.tm_scope.specs.Inner.Slots.{slot_number}
use Rattle.tm_scope.specs.Members.{body_slots}
use Rattle.tm_scope.proofs.scopes.body_scope.BodyScope.slot_named.Goals as goal

pub returns-in_err-self : goal.returns-in_err-self
returns-in_err-self c =
    c.from_residual.ensures
    ∙ ap (option_and_then (λ body. slot_number body c.args.name.now))
    (sym (ap option_copied c.in_err-self.was) ∙ c.self.invariant.slots)
    ∙ ap (λ (at : BodyPlace). option_and_then (λ body. slot_number body c.args.name.now)
    (body_slots at.template at.body)) c.self.view_is

pub returns : goal.returns
returns c =
    c.slot.ensures
    ∙ ap (option_and_then (λ body. slot_number body c.args.name.now))
    (sym (ap option_copied c.in_ok-self.was) ∙ c.self.invariant.slots)
    ∙ ap (λ (at : BodyPlace). option_and_then (λ body. slot_number body c.args.name.now)
    (body_slots at.template at.body)) c.self.view_is
