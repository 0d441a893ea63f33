use Rattle.std.proofs.Common.{◌<◌, position, length, ap, ◌∙◌, subst}
use Rattle.std.specs.Prelude.{IfSome}
use Rattle.tm_syntax.specs.Scopes.Names.{is_spelled}
use Rattle.tm_syntax.specs.Tree.View.{spec_tree}
use Rattle.tm_scope.proofs.scopes.scope.Scopes.enum_number.Goals as goal

pub returns : goal.returns
returns c =
    record {
      number = c.enum_number.ensures.number
          ∙ ap (λ s. position (λ e. is_spelled c.args.name.now e.name) (spec_tree s).enums) c.self.view_is;
      within = subst (λ s. IfSome c.enum_number.result (λ k. k < length s.enums.items)) c.self.view_is
          c.enum_number.ensures.within;
    }
