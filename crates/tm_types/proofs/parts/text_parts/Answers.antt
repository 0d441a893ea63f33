use Rattle.std.proofs.Common.{List, [], refl, subst, sym, arith}
use Rattle.tm_syntax.specs.declared.tree.Template.{Template}
use Rattle.tm_syntax.specs.Scopes.Parts.{template_bodies, template_exprs}
use Rattle.tm_syntax.specs.Tree.View.{spec_tree, template_tree}
use Rattle.tm_types.specs.Inner.TextParts.{Hold}
use Rattle.tm_types.specs.declared.parts.TextPart.{TextPart}
use Rattle.tm_types.proofs.TextParts.{all_pushed, template_pushed}
use Rattle.tm_types.proofs.parts.text_parts.Goals as goal

pub loop-number-init : goal.loop-number-init
loop-number-init c =
    subst (λ (ps : List TextPart). Hold ps [] []) (sym c.new-parts.ensures.items)
    (record { bodies = refl; exprs = refl })

pub loop-number-preserved : goal.loop-number-preserved
loop-number-preserved c =
    let spec = spec_tree c.args.names.now in
    template_pushed (λ (t : Template). template_bodies spec (template_tree t))
    (λ (t : Template). template_exprs spec (template_tree t)) c.args.templates.now c.loop-number.parts.items
    c.push_template.new.parts.items c.loop-number.number c.index-templates-number.result
    (omega (arith, c.loop-number-test.true)) c.index-templates-number.is c.loop-number.invariant
    c.in-Ok.ensures

pub returns : goal.returns
returns c =
    all_pushed c.args.names.now c.args.templates.now c.loop-number.number c.loop-number.parts.items
    (omega (arith, c.loop-number-test.false)) c.requires c.loop-number.invariant
