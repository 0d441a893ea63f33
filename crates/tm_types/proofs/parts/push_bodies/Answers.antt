use Rattle.std.proofs.Common.{◌≡◌, List, subst, sym, ◌∙◌}
use Rattle.std.specs.List.{flat_map}
use Rattle.std.proofs.lemmas.Iterator.Adapters.{YieldsList-from_vec}
use Rattle.std.proofs.lemmas.Iterator.Consumers.{YieldsList-end}
use Rattle.std.proofs.lemmas.List.{map-id}
use Rattle.tm_names.specs.Bodies.{all_bodies}
use Rattle.tm_names.specs.declared.parts.bodies.BodyPart.{BodyPart}
use Rattle.tm_types.specs.Inner.TextParts.{HoldMore, exprs_of_body}
use Rattle.tm_types.proofs.TextParts.{body_pushed, none_pushed}
use Rattle.tm_types.proofs.parts.push_bodies.Goals as goal

pub loop-part-init : goal.loop-part-init
loop-part-init c = none_pushed c.args.parts.now.items

pub loop-part-preserved : goal.loop-part-preserved
loop-part-preserved c =
    body_pushed c.args.parts.now.items c.loop-part.parts.items c.push_body.new.parts.items c.loop-part.yielded
    c.in-Some.part c.loop-part.invariant c.in-Ok.ensures

pub returns : goal.returns
returns c =
    let given = c.into_iter-part-iterator.ensures.into_iter_gives in
    let listed = YieldsList-from_vec c.args.bodies.items given.0 (given.1 ∙ c.args.bodies.ok.0) in
    let end =
    YieldsList-end listed c.loop-part.yielded _ c.loop-part.yielded_by _ c.next.new.self c.in-None.is
    c.next.ensures.steps in
    let all : c.loop-part.yielded ≡ c.args.bodies.items = sym (map-id c.loop-part.yielded) ∙ end.0 in
    subst (λ (ps : List BodyPart). HoldMore c.args.parts.now.items c.loop-part.parts.items (all_bodies ps)
    (flat_map exprs_of_body (all_bodies ps))) all c.loop-part.invariant
