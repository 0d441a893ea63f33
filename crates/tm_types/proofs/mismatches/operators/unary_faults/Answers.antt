use Rattle.std.proofs.Common.{ap, ◌∙◌}
use Rattle.tm_syntax.specs.Faults.Operands as text
use Rattle.tm_types.specs.Firsts.{first_of}
use Rattle.tm_types.proofs.mismatches.operators.unary_faults.Goals as goal

pub returns : goal.returns
returns c = λ xs tx x.
    c.judged.ensures xs x.first
    ∙ ap (λ b. first_of (text.judged xs b c.args.at))
    (c.operand_fits.ensures ∙ ap (text.operand_fits c.args.op) x.found)
