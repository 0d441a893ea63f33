use Rattle.std.proofs.Common.{◌≡◌, Some, length, slice_get, refl, ap, ◌∙◌, arith}
use Rattle.std.specs.Option.{option_map}
use Rattle.std.proofs.lemmas.Option.{slice_get-map}
use Rattle.tm_syntax.specs.Scopes.Parts.{BodyAt, stmts_in}
use Rattle.tm_syntax.specs.Tree.View.{body_tree, spec_tree, template_tree}
use Rattle.tm_limits.specs.Amount.{capped}
use Rattle.tm_limits.specs.Inner.Weights.{sum_weights}
use Rattle.tm_limits.proofs.TaskTables.{in_all, weighs}
use Rattle.tm_limits.proofs.shares.bodies.weight_of_body.Goals as goal

pub returns : goal.returns
returns c = λ t name at.
    let s = c.args.scopes.now in
    let spec = spec_tree s in
    let counted = c.requires.counted in
    let b : BodyAt = record {
      context = record { spec = spec; template = template_tree t; body = name };
      body = body_tree c.args.body.now;
    } in
    let there : slice_get spec.templates c.args.number ≡ Some (template_tree t) =
    slice_get-map template_tree s.templates.items c.args.number ∙ ap (option_map template_tree) at in
    c.body_weight.ensures
    ∙ ap (λ x. capped (sum_weights x (stmts_in (body_tree c.args.body.now)))) c.new.ensures
    ∙ weighs s counted.order counted.ordered counted.short c.args.weight c.weights_of-weights.result.now.entries
    (length counted.order) (omega arith) (c.weights_of-weights.ensures spec counted) c.args.number (template_tree t) b
    refl refl there (in_all spec counted.order counted.covers c.args.number b)
