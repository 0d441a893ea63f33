use Rattle.std.proofs.Common.{ap, ◌∙◌}
use Rattle.tm_syntax.specs.Scopes.Types.{own_type}
use Rattle.tm_syntax.specs.Faults.Operands.{expr_faults, value_faults}
use Rattle.tm_scope.specs.Context.{context_of}
use Rattle.tm_names.specs.Asked.{asked_of}
use Rattle.tm_types.specs.Firsts.{first_of}
use Rattle.tm_types.proofs.mismatches.asked.asked_faults.Goals as goal

pub returns : goal.returns
returns c =
    let at = context_of c.args.at.now in
    let asked = asked_of c.args.asked.now in
    let faults = expr_faults at asked.expr in
    let own = own_type at asked.expr in
    c.value_faults.ensures faults own c.part_operand.ensures
    ∙ ap (λ place. first_of (value_faults asked.ty place faults own)) c.part_place.ensures
