use Rattle.std.proofs.Common.{ap, ◌∙◌}
use Rattle.tm_syntax.specs.Faults.Operands as text
use Rattle.tm_types.specs.Firsts.{first_of}
use Rattle.tm_types.proofs.mismatches.operators.shift_faults.Goals as goal

pub returns : goal.returns
returns c = λ xs tx x.
    c.judged.ensures xs x.first
    ∙ ap (λ b. first_of (text.judged xs b c.args.at)) (c.may_be_uint.ensures ∙ ap text.may_be_uint x.found)
