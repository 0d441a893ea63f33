use Rattle.std.proofs.Common.{◌∙◌, arith}
use Rattle.std.proofs.lemmas.List.{take_all}
use Rattle.tm_scope.proofs.Fills.{gathered_more}
use Rattle.tm_scope.proofs.scopes.constants.all_enum_names.Goals as goal

pub loop-def-init : goal.loop-def-init
loop-def-init c = c.new-names.ensures.items

pub loop-def-preserved : goal.loop-def-preserved
loop-def-preserved c =
    gathered_more c.args.enums.now c.loop-def.def-index c.def-item.result c.loop-def.names.items
    c.push.new.self.items c.in_ok-new.field-0 (omega arith) c.def-item.is c.in_ok-new.ensures
    c.in_ok-push.ensures.items c.loop-def.invariant

pub returns : goal.returns
returns c = c.loop-def.invariant ∙ take_all c.loop-def.def-index c.args.enums.now (omega arith)
