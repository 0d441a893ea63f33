use Rattle.std.proofs.Common.{◌∙◌, arith}
use Rattle.std.proofs.lemmas.List.{take_all}
use Rattle.tm_scope.proofs.Fills.{gathered_more}
use Rattle.tm_scope.proofs.scopes.scope.all_templates.Goals as goal

pub loop-template-init : goal.loop-template-init
loop-template-init c = c.new-all.ensures.items

pub loop-template-preserved : goal.loop-template-preserved
loop-template-preserved c =
    gathered_more c.args.templates.now c.loop-template.template-index c.template-item.result c.loop-template.all.items
    c.push.new.self.items c.in_ok-new.field-0 (omega arith) c.template-item.is c.in_ok-new.ensures
    c.in_ok-push.ensures.items c.loop-template.invariant

pub returns : goal.returns
returns c = c.loop-template.invariant ∙ take_all c.loop-template.template-index c.args.templates.now (omega arith)
