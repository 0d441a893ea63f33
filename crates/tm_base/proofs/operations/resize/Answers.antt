use Rattle.std.proofs.Common.{ap, ◌∙◌}
use Rattle.std.specs.Prelude.{bit_and}
use Rattle.tm_base.proofs.Cuts.{bit_and-greatest}
use Rattle.tm_base.proofs.operations.resize.Goals as goal

pub returns : goal.returns
returns c = ap (bit_and c.args.a) c.greatest.ensures ∙ bit_and-greatest c.args.width c.args.a
