use Rattle.std.proofs.Common.{List, [], map, sym, subst, arith}
use Rattle.std.proofs.lemmas.List.{take_all}
use Rattle.tm_syntax.specs.declared.tree.Template.{Template}
use Rattle.tm_syntax.specs.Tree.View.{template_tree}
use Rattle.tm_names.specs.declared.scopes.text_scopes.TemplateScopes.{TemplateScopes}
use Rattle.tm_names.specs.TextScopes.{AreTemplateScopes, Each, none}
use Rattle.tm_names.proofs.ScopeLists.{each_more}
use Rattle.tm_names.proofs.scopes.text_scopes.templates_scopes.Goals as goal

pub loop-template-init : goal.loop-template-init
loop-template-init c =
    subst (λ (ys : List TemplateScopes). Each AreTemplateScopes [] ys) (sym c.new-scopes.ensures.items) none

pub loop-template-preserved : goal.loop-template-preserved
loop-template-preserved c =
    each_more AreTemplateScopes template_tree c.args.templates.now c.loop-template.template-index
    c.template-item.result c.loop-template.scopes.items c.push.new.self.items c.in_ok-template_scopes.field-0
    (omega (arith, c.loop-template-test.true)) c.template-item.is c.in_ok-push.ensures.items
    c.in_ok-template_scopes.ensures c.loop-template.invariant

pub returns : goal.returns
returns c =
    subst (λ (xs : List Template). Each AreTemplateScopes (map template_tree xs) c.loop-template.scopes.items)
    (take_all c.loop-template.template-index c.args.templates.now (omega (arith, c.loop-template-test.false)))
    c.loop-template.invariant
