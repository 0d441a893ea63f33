use Rattle.std.proofs.Common.{◌++◌, ap, ◌∙◌}
use Rattle.tm_syntax.specs.Faults.Operands as text
use Rattle.tm_types.specs.Firsts.{first_of}
use Rattle.tm_types.proofs.mismatches.operators.conditional_faults.Goals as goal

pub returns : goal.returns
returns c = λ xs tx ys ty zs tz x y z.
    let in_first = c.earlier_place-in_first.ensures.joined xs ys x.first y.first in
    c.judged.ensures (xs ++ ys ++ zs) (c.earlier_place.ensures.joined (xs ++ ys) zs in_first z.first)
    ∙ ap (λ b. first_of (text.judged (xs ++ ys ++ zs) b c.args.at))
    (c.branches_fit.ensures ∙ (λ i. text.branches_fit (x.found i) (y.found i) (z.found i)))
