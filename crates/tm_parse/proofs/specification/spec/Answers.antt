use Rattle.std.proofs.Common.{map, rules, tests}
use Rattle.tm_syntax.specs.Tree.View.{enum_tree, template_tree}
use Rattle.tm_parse.proofs.Wholes.{spec_first, spec_more, taken_spec, no_first_item, no_item, is_nil, is_not_nil}
use Rattle.tm_parse.proofs.specification.spec.Goals as goal

pub returns-in-Err-clause-refused : goal.returns-in-Err-clause-refused
returns-in-Err-clause-refused c =
    no_first_item c.args.text.now c.args.tokens.now _ c.in-Err.ensures.refused

pub loop-rest-init : goal.loop-rest-init
loop-rest-init c =
    spec_first (λ j. record {
      enums = map enum_tree (c.new.ensures.items j);
      templates = map template_tree (c.new-2.ensures.items j);
    }) c.in_ok-push_item.ensures c.in-Ok.ensures.taken

pub loop-rest-preserved : goal.loop-rest-preserved
loop-rest-preserved c = spec_more c.loop-rest.invariant c.in-Ok-item.ensures.taken c.in_ok-push_item-2.ensures

pub returns-in-Err-item-clause-refused : goal.returns-in-Err-item-clause-refused
returns-in-Err-item-clause-refused c =
    no_item (is_not_nil c.loop-rest.rest.now (search (rules, tests))) c.loop-rest.invariant _
    c.in-Err-item.ensures.refused

pub returns-clause-taken : goal.returns-clause-taken
returns-clause-taken c = taken_spec (is_nil c.loop-rest.rest.now (search (rules, tests))) c.loop-rest.invariant
