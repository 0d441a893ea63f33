use Rattle.std.proofs.lemmas.Result.{IfOk-weaker}
use Rattle.tm_strat_drafts.proofs.Following.{follows_then}
use Rattle.tm_strat_drafts.proofs.Parting.{split_or_not_at, split_some}
use Rattle.tm_strat_drafts.proofs.splitting.find_split.Goals as goal

pub returns-in-Some-clause-value : goal.returns-in-Some-clause-value
returns-in-Some-clause-value g c =
    let to = c.likely_test.ensures.follows in
    split_some c.in_ok-likely.likely c.in_ok-found.found c.in-Some.split c.in-Some.is to.game
    (to.extends.same c.args.set c.requires.known) c.in_ok-found.ensures.value

pub returns-in-None-clause-value : goal.returns-in-None-clause-value
returns-in-None-clause-value g c =
    let to = follows_then c.likely_test.ensures.follows c.try_split.ensures.follows in
    IfOk-weaker c.first_split.result _ _ (λ found value.
    split_or_not_at (g.M.Moves.setting c.first_split.new.moves).ids found to.game
    (to.extends.same c.args.set c.requires.known) value) c.first_split.ensures.value
