use Rattle.std.proofs.Common.{ap, ◌∙◌, arith}
use Rattle.std.specs.Option.{option_and_then}
use Rattle.tm_scope.specs.Inner.Slots.{slot_number}
use Rattle.tm_scope.specs.Members.{body_slots}
use Rattle.tm_scope.proofs.BodySlots.{slot_of-numbered}
use Rattle.tm_scope.proofs.PathSteps.{one_name}
use Rattle.tm_scope.proofs.scopes.body_scope.BodyScope.slot_of.Goals as goal

pub returns : goal.returns
returns c =
    let at = c.args.self.now in
    slot_of-numbered at.spec at.template at.body c.args.path.now c.name-item.result c.slot_named.result
    (one_name c.args.path.now c.name-item.result (omega arith) (omega arith) c.name-item.is)
    (c.slot_named.ensures
    ∙ ap (λ n. option_and_then (λ body. slot_number body n) (body_slots at.template at.body)) c.as_bytes.ensures)
