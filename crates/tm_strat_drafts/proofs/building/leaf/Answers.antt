use Rattle.std.proofs.Common.{refl}
use Rattle.tm_strat_drafts.proofs.Making.{drafts_on, one_state, plain_at, within_made}
use Rattle.tm_strat_drafts.proofs.building.leaf.Goals as goal

pub plain-requires : goal.plain-requires
plain-requires g c =
    let to = c.some_move.ensures.follows in
    record { drafts = drafts_on to.game to.extends refl c.requires.drafts }

pub returns-clause-makes : goal.returns-clause-makes
returns-clause-makes g c =
    within_made
    (one_state _ c.in_ok-choice.choice (g.met.M.Moves.told c.args.moves.now) c.requires.uniform
    c.in_ok-choice.ensures.value)
    (plain_at c.some_move.ensures.follows.game c.in_ok-at.ensures.makes)
