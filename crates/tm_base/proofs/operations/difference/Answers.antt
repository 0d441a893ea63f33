use Rattle.std.proofs.Common.{◌∙◌}
use Rattle.tm_base.proofs.Cuts.{resize-difference}
use Rattle.tm_base.proofs.operations.difference.Goals as goal

pub returns : goal.returns
returns c = c.resize.ensures
    ∙ resize-difference 64 c.args.width c.args.a c.args.b c.requires.width.1 c.requires.in_range
