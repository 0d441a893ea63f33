use Rattle.std.proofs.Common.{◌≡◌, [], ◌++◌, refl, sym, ◌∙◌}
use Rattle.std.proofs.lemmas.Option.{same_Some, slice_get_within}
use Rattle.tm_syntax.specs.Tree.View.{spec_tree, template_tree}
use Rattle.tm_scope.specs.Context.{body_name, context_of}
use Rattle.tm_types.specs.Inner.TextParts.{conditions_of, outside_exprs, outside_of}
use Rattle.tm_types.proofs.TextParts.{conditions_at, exprs_at, part_pushed}
use Rattle.tm_types.proofs.parts.push_outside.Goals as goal

pub new-requires : goal.new-requires
new-requires c = slice_get_within c.args.names.now.templates.items c.args.number c.args.template.now c.requires

pub returns : goal.returns
returns c =
    let spec = spec_tree c.args.names.now in
    let t = template_tree c.args.template.now in
    let same : c.new.result.template ≡ c.args.template.now =
    same_Some c.new.result.template c.args.template.now (sym c.new.ensures.template ∙ c.requires) in
    let stands : context_of c.new.result ≡ outside_of spec t = λ i. record {
      spec = spec_tree (c.new.ensures.spec i);
      template = template_tree (same i);
      body = body_name (c.new.ensures.body i);
    } in
    part_pushed c.args.parts.now.items c.push.new.self.items _ [] (outside_exprs spec t) c.in_ok-push.ensures.items refl
    (exprs_at c.new.result (outside_of spec t) c.in-Ok.given.items (conditions_of (t.goals ++ t.fairs)) stands
    c.in-Ok.ensures
    ∙ conditions_at (outside_of spec t) (t.goals ++ t.fairs))
