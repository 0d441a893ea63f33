use Rattle.std.proofs.Common.{sym, ◌∙◌}
use Rattle.tm_syntax.specs.Design.View.{design_tree}
use Rattle.tm_struct_parse.proofs.OwnTokens.{common_next, jump_next, own_answer}
use Rattle.tm_struct_parse.proofs.scan.next_spot.Goals as goal

pub returns-then-is_common : goal.returns-then-is_common
returns-then-is_common c =
    common_next (design_tree c.args.design.now) c.args.open_count c.args.line c.args.text.now c.in-Some.spot
    c.in-Some.len c.in-Some.ensures (sym c.is_common.ensures ∙ c.if-is_common.true)

pub returns-else-is_common : goal.returns-else-is_common
returns-else-is_common c =
    jump_next (design_tree c.args.design.now) c.args.open_count c.args.line c.args.text.now c.in-Some.spot
    c.in-Some.len c.requires.no_blank c.in-Some.ensures (sym c.is_common.ensures ∙ c.if-is_common.false)

pub returns-in-None : goal.returns-in-None
returns-in-None c =
    own_answer (design_tree c.args.design.now) c.args.open_count c.args.line c.args.text.now c.own_spot.result
    c.in-None.ensures c.own_spot.ensures
