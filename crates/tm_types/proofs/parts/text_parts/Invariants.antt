use Rattle.tm_syntax.specs.declared.tree.Template.{Template}
use Rattle.tm_syntax.specs.Scopes.Parts.{template_bodies, template_exprs}
use Rattle.tm_syntax.specs.Tree.View.{spec_tree, template_tree}
use Rattle.tm_types.proofs.TextParts.{HoldBefore}
use Rattle.tm_types.proofs.parts.text_parts.Given as goal

abbrev pub invariant-loop-number : goal.invariant-loop-number
invariant-loop-number l =
    HoldBefore (λ (t : Template). template_bodies (spec_tree l.names) (template_tree t))
    (λ (t : Template). template_exprs (spec_tree l.names) (template_tree t)) l.templates l.parts.items l.number
