use Rattle.std.proofs.Common.{rules}
use Rattle.std.proofs.lemmas.List.Sorted.{IsNonDecreasingBy-from_sort_by_key, IsPermutation-trans}
use Rattle.tm_game_bits.specs.Inner.Ranks.{key_of}
use Rattle.tm_game_bits.proofs.ranks.levels_from_top.Goals as goal

pub returns-clause-order : goal.returns-clause-order
returns-clause-order c = IsPermutation-trans _ _ _ c.in_ok-levels.ensures.order c.sort_by_key.ensures.permutation

pub returns-clause-sorted : goal.returns-clause-sorted
returns-clause-sorted c =
    IsNonDecreasingBy-from_sort_by_key (key_of c.args.states c.args.above.now) _ c.in_ok-sort_by_key.ensures.sorted
    (λ a r q k. search rules)
