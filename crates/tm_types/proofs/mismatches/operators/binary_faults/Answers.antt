use Rattle.std.proofs.Common.{◌++◌, ap, ◌∙◌}
use Rattle.tm_syntax.specs.Faults.Operands as text
use Rattle.tm_types.specs.Firsts.{first_of}
use Rattle.tm_types.proofs.mismatches.operators.binary_faults.Goals as goal

pub returns : goal.returns
returns c = λ xs tx ys ty x y.
    c.judged.ensures (xs ++ ys) (c.earlier_place.ensures.joined xs ys x.first y.first)
    ∙ ap (λ b. first_of (text.judged (xs ++ ys) b c.args.at))
    (c.operands_fit.ensures ∙ (λ i. text.operands_fit c.args.op (x.found i) (y.found i)))
