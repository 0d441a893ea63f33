use Rattle.std.proofs.Common.{◌<◌, length, ap, ◌∙◌, subst}
use Rattle.std.specs.Prelude.{IfSome}
use Rattle.tm_syntax.specs.Scopes.Names.{template_number}
use Rattle.tm_syntax.specs.Tree.View.{spec_tree}
use Rattle.tm_scope.proofs.scopes.scope.Scopes.template_number.Goals as goal

pub returns : goal.returns
returns c =
    record {
      number = c.template_number.ensures.number
          ∙ ap (λ s. template_number (spec_tree s) c.args.name.now) c.self.view_is;
      within = subst (λ s. IfSome c.template_number.result (λ k. k < length s.templates.items)) c.self.view_is
          c.template_number.ensures.within;
    }
