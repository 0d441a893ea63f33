use Rattle.std.proofs.Common.{◌≡◌, sym, ◌∙◌}
use Rattle.std.proofs.lemmas.Option.{same_Some, slice_get_within}
use Rattle.tm_syntax.specs.Tree.View.{body_tree, spec_tree, template_tree}
use Rattle.tm_scope.specs.Context.{body_name}
use Rattle.tm_names.proofs.parts.bodies.body_part.Goals as goal

pub new-requires : goal.new-requires
new-requires c = slice_get_within c.args.names.now.templates.items c.args.number c.args.template.now c.requires

pub returns : goal.returns
returns c =
    let same : c.new.result.template ≡ c.args.template.now =
    same_Some c.new.result.template c.args.template.now (sym c.new.ensures.template ∙ c.requires) in
    λ i. record {
      context = record {
        spec = spec_tree (c.new.ensures.spec i);
        template = template_tree (same i);
        body = body_name (c.new.ensures.body i);
      };
      body = body_tree c.args.body.now;
    }
