use Rattle.std.proofs.Common.{[], ◌++◌, List, subst}
use Rattle.std.specs.List.{flat_map}
use Rattle.std.proofs.lemmas.Result.{IfOk-weaker}
use Rattle.tm_syntax.specs.Tree.View.{spec_tree, template_tree}
use Rattle.tm_syntax.specs.Scopes.Parts.{BodyAt, template_bodies, template_exprs}
use Rattle.tm_types.specs.Inner.TextParts.{HoldMore, exprs_of_body, outside_exprs}
use Rattle.tm_types.proofs.TextParts.{outside_pushed}
use Rattle.tm_types.proofs.parts.push_template.Goals as goal

pub returns : goal.returns
returns c =
    let spec = spec_tree c.args.names.now in
    let t = template_tree c.args.template.now in
    let old = c.args.parts.now.items in
    let mid = c.push_bodies.new.parts.items in
    let new = c.push_outside.new.parts.items in
    let bodies = template_bodies spec t in
    let first : HoldMore old mid bodies (flat_map exprs_of_body bodies) =
    subst (λ (bs : List BodyAt). HoldMore old mid bs (flat_map exprs_of_body bs)) c.in-Ok.ensures
    c.in-Ok-push_bodies.ensures in
    IfOk-weaker c.push_outside.result (λ _. HoldMore mid new [] (outside_exprs spec t))
    (λ _. HoldMore old new bodies (template_exprs spec t))
    (λ _ second. outside_pushed old mid new bodies (flat_map exprs_of_body bodies) (outside_exprs spec t) first second)
    c.push_outside.ensures
