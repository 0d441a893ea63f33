use Rattle.std.proofs.Common.{◌≡◌, IfOk, List, subst, ap}
use Rattle.tm_base.specs.declared.place.Place.{Place}
use Rattle.tm_syntax.specs.Faults.Mismatches.{body_faults}
use Rattle.tm_types.specs.Firsts.{first_of}
use Rattle.tm_types.proofs.TextParts.{of_body, of_no_body}
use Rattle.tm_types.proofs.mismatches.bodies.part_faults.Goals as goal

pub returns-in-Some : goal.returns-in-Some
returns-in-Some c =
    subst (λ (places : List Place). IfOk c.body_faults.result (λ first. first ≡ first_of places))
    (of_body body_faults c.args.part.now c.in-Some.body c.in-Some.is) c.body_faults.ensures

pub returns-in-None : goal.returns-in-None
returns-in-None c = ap first_of (of_no_body body_faults c.args.part.now c.in-None.is)
