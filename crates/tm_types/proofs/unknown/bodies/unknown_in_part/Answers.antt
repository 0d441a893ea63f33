use Rattle.std.proofs.Common.{◌≡◌, IfOk, List, subst, ap}
use Rattle.std.specs.Option.{option_map}
use Rattle.tm_syntax.specs.Faults.Marks.{Mark, first_mark}
use Rattle.tm_syntax.specs.Faults.Names.{unknown_in_body}
use Rattle.tm_names.specs.ScopeNames.{mark_of}
use Rattle.tm_types.proofs.TextParts.{of_body, of_no_body}
use Rattle.tm_types.proofs.unknown.bodies.unknown_in_part.Goals as goal

pub returns-in-Some : goal.returns-in-Some
returns-in-Some c =
    subst (λ (ms : List Mark). IfOk c.unknown_in_body.result (λ first. option_map mark_of first ≡ first_mark ms))
    (of_body unknown_in_body c.args.part.now c.in-Some.body c.in-Some.is) c.unknown_in_body.ensures

pub returns-in-None : goal.returns-in-None
returns-in-None c = ap first_mark (of_no_body unknown_in_body c.args.part.now c.in-None.is)
