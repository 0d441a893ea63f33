use Rattle.std.proofs.Common.{◌≡◌, ◌<◌, position, length, sym, ap, ◌∙◌, subst}
use Rattle.std.specs.Prelude.{IfSome}
use Rattle.tm_syntax.specs.Scopes.Names.{is_spelled}
use Rattle.tm_syntax.specs.Tree.View.{enum_tree}
use Rattle.tm_scope.proofs.Positions.{position-map, position-within}
use Rattle.tm_scope.proofs.scopes.spec_names.SpecNames.enum_number.Goals as goal

pub returns : goal.returns
returns c =
    let found : c.find.result ≡ position (λ x. is_spelled c.args.name.now x.name) c.args.self.now.enums.items =
    c.find.ensures ∙ c.self.invariant.enum_of c.args.name.now
    ∙ ap (λ s. position (λ x. is_spelled c.args.name.now x.name) s.enums.items) c.self.view_is in
    record {
      number = found
          ∙ sym (position-map (λ x. is_spelled c.args.name.now x.name) enum_tree c.args.self.now.enums.items);
      within = subst (λ o. IfSome o (λ k. k < length c.args.self.now.enums.items)) (sym found)
          (position-within (λ x. is_spelled c.args.name.now x.name) c.args.self.now.enums.items);
    }
