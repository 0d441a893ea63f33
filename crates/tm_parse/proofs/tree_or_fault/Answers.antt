use Rattle.std.proofs.Common.{subst}
use Rattle.tm_parse.specs.declared.stop.Stop.{Stop}
use Rattle.tm_parse.specs.Reading.{IsRefused, AnyOf}
use Rattle.tm_parse.specs.Items.{ASpec, GoesOnAtAll}
use Rattle.tm_parse.proofs.Decided.{syntax_refused, depth_refused}
use Rattle.tm_parse.proofs.tree_or_fault.Goals as goal

pub returns-in-Err-Unexpected-clause-faulty : goal.returns-in-Err-Unexpected-clause-faulty
returns-in-Err-Unexpected-clause-faulty c =
    syntax_refused c.in-Err-Unexpected.rest.now _ _ c.syntax_fault.ensures c.place_of.ensures
    (subst (λ (e : Stop). IsRefused (AnyOf (ASpec c.args.text.now)) GoesOnAtAll c.args.tokens.now e)
    c.in-Err-Unexpected.field-0-is c.in-Err-Unexpected.ensures.refused)

pub returns-in-Err-TooDeep-clause-faulty : goal.returns-in-Err-TooDeep-clause-faulty
returns-in-Err-TooDeep-clause-faulty c =
    depth_refused c.in-Err-TooDeep.rest.now _ _ c.depth_fault.ensures c.place_of-in-Err-TooDeep.ensures
    (subst (λ (e : Stop). IsRefused (AnyOf (ASpec c.args.text.now)) GoesOnAtAll c.args.tokens.now e)
    c.in-Err-TooDeep.field-0-is c.in-Err-TooDeep.ensures.refused)
