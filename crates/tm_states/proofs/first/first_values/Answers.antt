use Rattle.std.proofs.Common.{◌++◌, ap, ◌∙◌}
use Rattle.std.specs.Option.{option_map}
use Rattle.tm_syntax.specs.Tree.View.{spec_tree}
use Rattle.tm_states.proofs.Choosing.{no_value, none_chosen}
use Rattle.tm_states.proofs.first.first_values.Goals as goal

pub returns-in_default-clause-bad : goal.returns-in_default-clause-bad
returns-in_default-clause-bad c = λ _.
    c.loop-var.invariant.so_far
    ∙ ap (option_map (λ ns. c.loop-var.values.items ++ ns))
    (no_value (spec_tree c.args.scopes.now) c.args.vars.now c.loop-var.var-index c.var-item.result
    c.loop-var-test.true c.var-item.is c.loop-var.left.now
    (none_chosen _ _ _ c.first_value.ensures c.in_default.is))
