use Rattle.std.specs.List.{flat_map}
use Rattle.tm_names.specs.Bodies.{all_bodies}
use Rattle.tm_types.specs.Inner.TextParts.{HoldMore, exprs_of_body}
use Rattle.tm_types.proofs.parts.push_bodies.Given as goal

abbrev pub invariant-loop-part : goal.invariant-loop-part
invariant-loop-part l =
    HoldMore l.initial.parts.items l.parts.items (all_bodies l.yielded) (flat_map exprs_of_body (all_bodies l.yielded))
