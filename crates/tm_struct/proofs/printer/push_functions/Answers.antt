use Rattle.tm_syntax.specs.Design.View.{design_tree}
use Rattle.tm_struct.proofs.Putting.{nests_at, function_put}
use Rattle.tm_struct.proofs.printer.push_functions.Goals as goal

pub push_body-requires : goal.push_body-requires
push_body-requires c =
    nests_at c.args.functions.now c.loop-number.number c.index-functions-number.result c.requires
    c.loop-number-test.true
    c.index-functions-number.is

pub loop-number-preserved : goal.loop-number-preserved
loop-number-preserved c =
    function_put (design_tree c.args.design.now) c.args.functions.now c.loop-number.number
    c.index-functions-number.result c.loop-number.text.items c.push_name.new.text.items c.push_body.new.text.items
    c.push.new.text.items _ c.loop-number-test.true c.index-functions-number.is c.in_ok-push_name.ensures
    c.in_ok-push_body.ensures c.in_ok-push.ensures c.loop-number.invariant
