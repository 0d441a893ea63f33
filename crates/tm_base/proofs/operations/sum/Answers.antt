use Rattle.std.proofs.Common.{◌∙◌}
use Rattle.tm_base.proofs.Cuts.{resize-sum}
use Rattle.tm_base.proofs.operations.sum.Goals as goal

pub returns : goal.returns
returns c = c.resize.ensures ∙ resize-sum 64 c.args.width c.args.a c.args.b c.requires.1
