use Rattle.tm_strat_drafts.proofs.Parting.{nothing_left, told_at}
use Rattle.tm_strat_drafts.proofs.splitting.lies_in.Goals as goal

pub returns-clause-value : goal.returns-clause-value
returns-clause-value g c = λ is.
    nothing_left (g.M.Moves.setting c.args.moves.now).ids c.args.a c.args.b c.in_ok-rest.rest
    c.nothing-nothing.result c.without.ensures.follows.game c.in_ok-rest.ensures.value
    c.nothing-nothing.ensures.value (told_at c.same-empty.result is c.same-empty.ensures)
