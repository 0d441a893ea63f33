use Rattle.std.proofs.Common.{ap, ◌∙◌}
use Rattle.std.specs.List.{range_with_len}
use Rattle.tm_flat.specs.Flat.{flat_terms}
use Rattle.tm_game_pool.proofs.Pooled.{pool_made}
use Rattle.tm_syntax.specs.Design.View.{design_tree}
use Rattle.tm_judge.proofs.Ordering.{counted}
use Rattle.tm_judge.proofs.making.game_of.Goals as goal

pub new-requires : goal.new-requires
new-requires c = (design_tree c.args.design.now, c.in_ok-made.ensures.start)

pub returns-clause-of : goal.returns-clause-of
returns-clause-of c = c.in_ok-game.ensures.of (design_tree c.args.design.now) c.in_ok-made.ensures.start

pub returns-clause-order : goal.returns-clause-order
returns-clause-order c =
    c.in_ok-game.ensures.order
    ∙ ap (range_with_len 0)
    (counted (design_tree c.args.design.now) c.in_ok-made.made.terms (flat_terms c.in_ok-made.made.flat)
    c.in_ok-made.ensures.start)

pub returns-clause-pool : goal.returns-clause-pool
returns-clause-pool c =
    pool_made (design_tree c.args.design.now) c.in_ok-made.made.terms (flat_terms c.in_ok-made.made.flat)
    c.in_ok-game.game c.in_ok-game.ensures.flat c.in_ok-game.ensures.terms c.in_ok-made.ensures.predicates
    c.in_ok-made.ensures.first
