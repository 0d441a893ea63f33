use Rattle.std.proofs.Common.{◌∙◌}
use Rattle.tm_base.proofs.Cuts.{resize-shift_left}
use Rattle.tm_base.proofs.operations.shift_left.Goals as goal

pub returns : goal.returns
returns c = c.resize.ensures ∙ resize-shift_left 64 c.args.width c.args.a c.args.by c.requires.width.1
