use Rattle.std.proofs.Common.{◌++◌}
use Rattle.tm_types.proofs.firsts_named.earliest_of_four.Goals as goal

pub returns : goal.returns
returns c = λ ws xs ys zs one two three four.
    c.earlier_name-3.ensures (ws ++ xs ++ ys) zs
    (c.earlier_name-2.ensures (ws ++ xs) ys (c.earlier_name.ensures ws xs one two) three) four
