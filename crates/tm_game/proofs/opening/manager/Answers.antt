use Rattle.tm_game.proofs.opening.manager.Goals as goal

pub returns-clause-rises : goal.returns-clause-rises
returns-clause-rises c =
    c.in_ok-ranks.ensures.rise c.in_ok-dd.dd.table c.in_ok-dd.ensures.levels c.in_ok-dd.ensures.ranks
