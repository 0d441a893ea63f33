use Rattle.std.proofs.Common.{◌≡◌, ◌<◌, position, length, sym, ap, ◌∙◌, subst}
use Rattle.std.specs.Prelude.{IfSome}
use Rattle.tm_syntax.specs.Scopes.Names.{is_spelled}
use Rattle.tm_syntax.specs.Tree.View.{template_tree}
use Rattle.tm_scope.proofs.Positions.{position-map, position-within}
use Rattle.tm_scope.proofs.scopes.spec_names.SpecNames.template_number.Goals as goal

pub returns : goal.returns
returns c =
    let found : c.find.result ≡ position (λ x. is_spelled c.args.name.now x.name) c.args.self.now.templates.items =
    c.find.ensures ∙ c.self.invariant.template c.args.name.now
    ∙ ap (λ s. position (λ x. is_spelled c.args.name.now x.name) s.templates.items) c.self.view_is in
    record {
      number = found
          ∙ sym (position-map (λ x. is_spelled c.args.name.now x.name) template_tree c.args.self.now.templates.items);
      within = subst (λ o. IfSome o (λ k. k < length c.args.self.now.templates.items)) (sym found)
          (position-within (λ x. is_spelled c.args.name.now x.name) c.args.self.now.templates.items);
    }
