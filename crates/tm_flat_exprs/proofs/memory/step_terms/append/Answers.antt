use Rattle.std.proofs.Common.{sym, ◌∙◌}
use Rattle.tm_flat_exprs.proofs.Appending.{appends, appends_none}
use Rattle.tm_flat_exprs.proofs.memory.step_terms.append.Goals as goal

pub returns-then-len-common : goal.returns-then-len-common
returns-then-len-common c =
    appends_none c.args.guard c.args.all.now c.args.other.now c.args.common c.requires
    (sym c.len.ensures ∙ c.if-len-common.true)

pub returns : goal.returns
returns c =
    appends c.args.guard c.args.all.now c.args.other.now c.append_rest.new.all c.args.common c.len-2.result c.requires
    c.in_ok-append_rest.ensures c.len-2.ensures
